-- The edges of document 01 that belong to this layer.
use Rattle.std.specs.Prelude.{◌≡◌, ℕ, ◌*◌, ◌≤◌, true, List, [], ◌∷◌, length}
use Rattle.coding.specs.Field.{product}
use Rattle.coding.specs.Pieces.{proper, piece}
use Rattle.coding.specs.Answer.{Outcome}
use Rattle.coding.specs.Split.{split}

pub record Edges : Type 0 where
  -- field, hex: 2 times 80 is 1D
  pub twice : product 0x2 0x80 ≡ 0x1D
  -- k 2, F 4: 4 bytes pass, 5 are refused 6
  pub four : (n : ℕ) (page room : List ℕ) → proper n 2 4 ≡ true → n * 4 ≤ length room → length page ≡ 4
      → (split n 2 4 page room).outcome ≡ Outcome.gives 4
  pub five : (n : ℕ) (page room : List ℕ) → proper n 2 4 ≡ true → n * 4 ≤ length room → length page ≡ 5
      → (split n 2 4 page room).outcome ≡ Outcome.refuses 6
  -- k 2, empty page: every piece is hex 00 00
  pub empty : (i : ℕ) → piece 2 [] i ≡ 0x00 ∷ 0x00 ∷ []
  -- k 2, page hex 41
  pub one_1 : piece 2 (0x41 ∷ []) 1 ≡ 0x00 ∷ 0x01 ∷ 0x41 ∷ []
  pub one_2 : piece 2 (0x41 ∷ []) 2 ≡ 0x00 ∷ 0x02 ∷ 0x41 ∷ []
  pub one_3 : piece 2 (0x41 ∷ []) 3 ≡ 0x00 ∷ 0x03 ∷ 0x41 ∷ []
  -- k 3, page hex 41 42
  pub two_1 : piece 3 (0x41 ∷ 0x42 ∷ []) 1 ≡ 0x00 ∷ 0x01 ∷ []
  pub two_2 : piece 3 (0x41 ∷ 0x42 ∷ []) 2 ≡ 0x00 ∷ 0x95 ∷ []
