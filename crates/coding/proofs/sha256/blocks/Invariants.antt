use Rattle.std.proofs.Common.{◌≡◌}
use Rattle.coding.specs.Sha256.{hash}
use Rattle.coding.proofs.sha256.blocks.Given as goal

abbrev pub invariant-loop-i : goal.invariant-loop-i
invariant-loop-i l = l.g ≡ hash l.initial.g l.s l.i
