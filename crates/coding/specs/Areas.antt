-- What the private functions of splitting say of the room: n areas of F bytes, of which some columns are written.
use Rattle.std.specs.Prelude.{◌≡◌, ℕ, ◌+◌, ◌*◌, ◌<◌, List, length, ◌≢◌, slice_index}

-- u is t with v i l in column j + l of area i, for i below n and l below m
pub record Columns (n F j m : ℕ) (v : ℕ → ℕ → ℕ) (t u : List ℕ) : Type 0 where
  pub same : length u ≡ length t
  pub inside : (i l : ℕ) → i < n → l < m → slice_index u (i * F + (j + l)) ≡ v i l
  pub outside : (q : ℕ) → ((i l : ℕ) → i < n → l < m → q ≢ i * F + (j + l)) → slice_index u q ≡ slice_index t q
