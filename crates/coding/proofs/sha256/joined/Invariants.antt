use Rattle.std.proofs.Common.{◌≡◌, ◌*◌, length, take}
use Rattle.coding.specs.Sha256.{joined}
use Rattle.coding.proofs.sha256.joined.Given as goal

abbrev pub invariant-loop-i : goal.invariant-loop-i
invariant-loop-i l = (length l.b ≡ 32) × (take (4 * l.i) l.b ≡ joined (take l.i l.h))
