-- What it is to be a permutation of bytes.
use Rattle.std.specs.Prelude.{◌≡◌, cond, List, [], ◌∷◌, ℕ, suc, ◌<◌, length, get_or, eqb}

-- how often a byte stands in a list
unfoldable pub count : ℕ → List ℕ → ℕ
count b [] = 0
count b (a ∷ s) = cond (eqb a b) (suc (count b s)) (count b s)

-- a map of the places below L onto themselves, with its inverse
pub record Bijection (L : ℕ) (to back : ℕ → ℕ) : Type 0 where
  pub to_within : (i : ℕ) → i < L → to i < L
  pub back-within : (i : ℕ) → i < L → back i < L
  pub back_to : (i : ℕ) → i < L → back (to i) ≡ i
  pub to_back : (i : ℕ) → i < L → to (back i) ≡ i

-- u has the bytes of d: the one at place i is that at place `to i` of d, and each byte stands in both equally often
pub record Permutes (to back : ℕ → ℕ) (d u : List ℕ) : Type 0 where
  pub same_length : length u ≡ length d
  pub places : Bijection (length d) to back
  pub bytes : (i : ℕ) → i < length d → get_or u i 0 ≡ get_or d (to i) 0
  pub counts : (b : ℕ) → count b u ≡ count b d
