use Rattle.std.proofs.Common.{◌≡◌, ℕ, ◌-◌, ◌/◌, ◌%◌, ◌^◌, ◌<◌, ◌≤◌, [], length, get_or}
use Rattle.coding.specs.Field.{◌⊕◌, product}
use Rattle.coding.proofs.lanes.spread.Given as goal

-- The first b bits have the term added.
abbrev pub invariant-loop-b : goal.invariant-loop-b
invariant-loop-b here =
    (here.b ≤ 8) × (length here.r ≡ 8) × (here.rest ≡ here.c / 2 ^ here.b)
    × ((i : ℕ) → i < here.b → (l : ℕ) → get_or (get_or here.r i []) l 0 ≡ get_or (get_or here.sums i []) l 0 ⊕ product (get_or here.v l 0) (here.c / 2 ^ i % 2))

abbrev pub decreases-loop-b : goal.decreases-loop-b
decreases-loop-b l = 8 - l.b
