use Rattle.std.proofs.Common.{◌≡◌, ℕ, ◌-◌, ◌<◌, ◌≤◌, length, get_or}
use Rattle.coding.specs.Field.{product}
use Rattle.coding.proofs.lanes.double.Given as goal

abbrev pub invariant-loop-l : goal.invariant-loop-l
invariant-loop-l l = (l.l ≤ 16) × (length l.r ≡ 16) × ((k : ℕ) → k < l.l → get_or l.r k 0 ≡ product (get_or l.v k 0) 2)

abbrev pub decreases-loop-l : goal.decreases-loop-l
decreases-loop-l l = 16 - l.l
