-- A sum of products kept apart by the bits of the factors.
use Rattle.std.specs.Prelude.{ℕ, zero, suc, ◌-◌, List, [], slice_index, slice_index_or}
use Rattle.coding.specs.Field.{◌⊕◌, product}

-- Horner's rule at the point 2, over n coefficients, the highest first
unfoldable pub horner : ℕ → (ℕ → ℕ) → ℕ
horner zero f = 0
horner (suc n) f = product (horner n f) 2 ⊕ f n

-- lane l of the whole sum, where row b has the terms whose factor has bit b
abbrev pub folded : List (List ℕ) → ℕ → ℕ
folded sums l = horner 8 (λ i. slice_index (slice_index_or sums (7 - i) []) l)
