-- What the private functions of joining say of the output, which frame bytes from 4 on fill.
use Rattle.std.specs.Prelude.{◌≡◌, ℕ, ◌+◌, ◌-◌, ◌*◌, ◌<◌, ◌≤◌, List, length, slice_index}

-- u is t, with frame byte g p at place p - 4 for each p that is done and whose place is below len, and with nothing else changed
-- but to such a byte
pub record Placed (g : ℕ → ℕ) (len : ℕ) (done : ℕ → Type 0) (t u : List ℕ) : Type 0 where
  pub same : length u ≡ length t
  pub beyond : (q : ℕ) → len ≤ q → slice_index u q ≡ slice_index t q
  pub keep : (q : ℕ) → slice_index t q ≡ g (4 + q) → slice_index u q ≡ g (4 + q)
  pub right : (q : ℕ) → q < len → done (4 + q) → slice_index u q ≡ g (4 + q)

-- from, from + k, .., m of them
abbrev pub Stride : ℕ → ℕ → ℕ → ℕ → Type 0
Stride from k m p = (l : ℕ) × (l < m) × (p ≡ from + l * k)

-- the areas of the first k nodes lie in a room of `room` bytes
abbrev pub Within : ℕ → ℕ → ℕ → List ℕ → Type 0
Within room k F nodes = (s : ℕ) → s < k → (1 ≤ slice_index nodes s) × (slice_index nodes s ≤ 16) × (slice_index nodes s * F ≤ room)

-- byte j of the piece of node i
abbrev pub byte_in : ℕ → List ℕ → ℕ → ℕ → ℕ
byte_in F room j i = slice_index room ((i - 1) * F + j)
