use Rattle.std.proofs.Common.{◌≡◌, ℕ, ◌-◌, ◌≤◌, [], get_or}
use Rattle.coding.specs.Lanes.{horner}
use Rattle.coding.proofs.lanes.fold.Given as goal

-- The highest b bits are folded.
abbrev pub invariant-loop-b : goal.invariant-loop-b
invariant-loop-b here = (here.b ≤ 8) × ((l : ℕ) → get_or here.r l 0 ≡ horner here.b (λ i. get_or (get_or here.sums (7 - i) []) l 0))

abbrev pub decreases-loop-b : goal.decreases-loop-b
decreases-loop-b l = 8 - l.b
