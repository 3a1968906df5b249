use Prim.Native.Nat.{◌+◌, ◌*◌}
use native.Mathlib.Omega.{arith}
use borrow.Author.Tests.{le-leb, lt-leb}
use Rattle.parties.specs.protocol.Measures.{passes}
use Rattle.parties.proofs.Measures.pass.Goals as goal

pub returns-then-self-lt1 : goal.returns-then-self-lt1
unfolding passes
returns-then-self-lt1 c =
    simp
    (lt-leb _ _ c.if-self-lt1.true)

pub returns-then-self-gt8 : goal.returns-then-self-gt8
unfolding passes
returns-then-self-gt8 c =
    simp (
      le-leb _ _ c.if-self-lt1.false,
      lt-leb _ _ c.if-self-gt8.true,
    )

pub returns-then-self-lt1-2 : goal.returns-then-self-lt1-2
unfolding passes
returns-then-self-lt1-2 c =
    simp (
      le-leb _ _ c.if-self-lt1.false,
      le-leb _ _ c.if-self-gt8.false,
      lt-leb _ _ c.if-self-lt1-2.true,
    )

pub returns-then-self-gt16 : goal.returns-then-self-gt16
unfolding passes
returns-then-self-gt16 c =
    simp (
      le-leb _ _ c.if-self-lt1.false,
      le-leb _ _ c.if-self-gt8.false,
      le-leb _ _ c.if-self-lt1-2.false,
      lt-leb _ _ c.if-self-gt16.true,
    )

pub returns-then-self-lt1-3 : goal.returns-then-self-lt1-3
unfolding passes
returns-then-self-lt1-3 c =
    simp (
      le-leb _ _ c.if-self-lt1.false,
      le-leb _ _ c.if-self-gt8.false,
      le-leb _ _ c.if-self-lt1-2.false,
      le-leb _ _ c.if-self-gt16.false,
      lt-leb _ _ c.if-self-lt1-3.true,
    )

pub returns-then-self : goal.returns-then-self
unfolding passes
returns-then-self c =
    simp (
      le-leb _ _ c.if-self-lt1.false,
      le-leb _ _ c.if-self-gt8.false,
      le-leb _ _ c.if-self-lt1-2.false,
      le-leb _ _ c.if-self-gt16.false,
      le-leb _ _ c.if-self-lt1-3.false,
      lt-leb (2 * c.args.self.t + c.args.self.k) c.args.self.n (omega arith),
    )

pub returns-then-self-2 : goal.returns-then-self-2
unfolding passes
returns-then-self-2 c =
    simp (
      le-leb _ _ c.if-self-lt1.false,
      le-leb _ _ c.if-self-gt8.false,
      le-leb _ _ c.if-self-lt1-2.false,
      le-leb _ _ c.if-self-gt16.false,
      le-leb _ _ c.if-self-lt1-3.false,
      lt-leb (2 * c.args.self.t + c.args.self.k) c.args.self.n (omega arith),
    )

pub returns-then-self-3 : goal.returns-then-self-3
unfolding passes
returns-then-self-3 c =
    simp (
      le-leb _ _ c.if-self-lt1.false,
      le-leb _ _ c.if-self-gt8.false,
      le-leb _ _ c.if-self-lt1-2.false,
      le-leb _ _ c.if-self-gt16.false,
      le-leb _ _ c.if-self-lt1-3.false,
      lt-leb (2 * c.args.self.t + c.args.self.k) c.args.self.n (omega arith),
    )

pub returns-then-self-lt1-4 : goal.returns-then-self-lt1-4
unfolding passes
returns-then-self-lt1-4 c =
    simp (
      le-leb _ _ c.if-self-lt1.false,
      le-leb _ _ c.if-self-gt8.false,
      le-leb _ _ c.if-self-lt1-2.false,
      le-leb _ _ c.if-self-gt16.false,
      le-leb _ _ c.if-self-lt1-3.false,
      le-leb _ _ c.if-self-3.false,
      lt-leb _ _ c.if-self-lt1-4.true,
    )

pub returns-then-self-gt4096 : goal.returns-then-self-gt4096
unfolding passes
returns-then-self-gt4096 c =
    simp (
      le-leb _ _ c.if-self-lt1.false,
      le-leb _ _ c.if-self-gt8.false,
      le-leb _ _ c.if-self-lt1-2.false,
      le-leb _ _ c.if-self-gt16.false,
      le-leb _ _ c.if-self-lt1-3.false,
      le-leb _ _ c.if-self-3.false,
      le-leb _ _ c.if-self-lt1-4.false,
      lt-leb _ _ c.if-self-gt4096.true,
    )

pub returns : goal.returns
unfolding passes
returns c =
    simp (
      le-leb _ _ c.if-self-lt1.false,
      le-leb _ _ c.if-self-gt8.false,
      le-leb _ _ c.if-self-lt1-2.false,
      le-leb _ _ c.if-self-gt16.false,
      le-leb _ _ c.if-self-lt1-3.false,
      le-leb _ _ c.if-self-3.false,
      le-leb _ _ c.if-self-lt1-4.false,
      le-leb _ _ c.if-self-gt4096.false,
    )
