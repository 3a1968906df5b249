use Rattle.std.proofs.Common.{◌≡◌, ◌*◌}
use Rattle.coding.specs.Sha256.{rounds}
use Rattle.coding.proofs.sha256.rounds.Given as goal

abbrev pub invariant-loop-i : goal.invariant-loop-i
invariant-loop-i l = l.v ≡ rounds l.w l.initial.v (8 * l.i)
