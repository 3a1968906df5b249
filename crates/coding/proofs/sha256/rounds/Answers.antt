use Rattle.std.proofs.Common.{◌≡◌, ◌+◌, ◌*◌, refl, arith}
use Rattle.coding.specs.Sha256.{rounds}
use Rattle.coding.proofs.sha256.rounds.Goals as goal

pub loop-i-init : goal.loop-i-init
unfolding rounds
loop-i-init c = refl

pub loop-i-preserved : goal.loop-i-preserved
loop-i-preserved c =
    let e : 8 * (c.loop-i.i + 1) ≡ 8 * c.loop-i.i + 8 = omega arith in
    rw e (c.eight_rounds-next.ensures _ c.loop-i.invariant)

pub returns : goal.returns
returns c =
    let e : 8 * c.loop-i.i ≡ 64 = omega arith in
    rw e at c.loop-i.invariant
