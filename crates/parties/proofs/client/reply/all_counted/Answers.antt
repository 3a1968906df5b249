use mathlib.Core.Path.{◌≡◌, sym, ap, ◌∙◌}
use Prim.Native.Nat.{ℕ}
use native.Mathlib.Omega.{arith}
use Rattle.coding.specs.Nodes.{all, nodes_of}
use Rattle.parties.specs.protocol.Nodes.{stands}
use Rattle.parties.proofs.client.MatchLaws.{counted_none, counted_turn, counted-out}
use Rattle.parties.proofs.client.reply.all_counted.Goals as goal

pub loop-i-init : goal.loop-i-init
loop-i-init c = counted_none _ _

pub returns-then-awaited : goal.returns-then-awaited
returns-then-awaited c = counted-out _ _ _ (omega arith) (omega (arith, c.loop-i-test.true)) (sym c.awaited.ensures ∙ c.if-awaited.true)

pub loop-i-preserved : goal.loop-i-preserved
loop-i-preserved c = counted_turn _ _ _ (sym c.awaited.ensures ∙ c.if-awaited.false) c.loop-i.invariant

pub returns : goal.returns
returns c =
    let a = c.args in
    let e : c.loop-i.i ≡ 16 = omega arith in sym (ap (λ (k : ℕ). all (stands a.counted) (nodes_of a.named k)) (sym e) ∙ c.loop-i.invariant)
