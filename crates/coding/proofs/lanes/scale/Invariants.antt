use Rattle.std.proofs.Common.{◌≡◌, ℕ, ◌-◌, ◌^◌, ◌<◌, ◌≤◌, get_or}
use Rattle.coding.specs.Field.{◌⊕◌, product}
use Rattle.coding.proofs.lanes.scale.Given as goal

-- what is summed, with the term times the rest of the factor, is the product; after 8 turns nothing is left of the factor
abbrev pub invariant-loop : goal.invariant-loop
invariant-loop l =
    (l.counter ≤ 8) × (l.rest < 256) × (l.rest < 2 ^ (8 - l.counter)) × ((k : ℕ) → get_or l.term k 0 < 256)
    × ((k : ℕ) → get_or l.sum k 0 ⊕ product (get_or l.term k 0) l.rest ≡ product (get_or l.initial.term k 0) l.c)

abbrev pub decreases-loop : goal.decreases-loop
decreases-loop l = 8 - l.counter
