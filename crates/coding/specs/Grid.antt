-- The grid of the powers of some points, reduced to the identity beside its inverse: 16 rows of 32 entries, the left half the
-- grid, the right half the inverse.
use Rattle.std.specs.Prelude.{◌≡◌, ℕ, ◌+◌, ◌<◌, Bool, true, false, List, [], length, get_or, take, ◌==◌, ◌≢◌, slice_index, slice_index_or}
use Rattle.coding.specs.Field.{◌⊕◌, product, power, inverse, sum}
use Rattle.coding.specs.Polynomial.{interpolate}

-- no point stands twice
abbrev pub Distinct : List ℕ → Type 0
Distinct xs = (i j : ℕ) → i < j → j < length xs → slice_index xs i ≢ slice_index xs j

abbrev pub entry : List (List ℕ) → ℕ → ℕ → ℕ
entry m r t = slice_index (slice_index_or m r []) t

-- the values at the points, weighed by the entries of row r of the right half, make up coefficient r
abbrev pub Inverts : ℕ → List ℕ → List (List ℕ) → Type 0
Inverts k nodes m =
    (f : ℕ → ℕ) → ((x : ℕ) → f x < 256) → (r : ℕ) → r < k
    → slice_index (interpolate (take k nodes) f) r ≡ sum k (λ s. product (entry m r (16 + s)) (f (slice_index nodes s)))

-- ---- the steps of the inversion

abbrev pub bit : Bool → ℕ
bit true = 1
bit false = 0

abbrev pub identity : ℕ → ℕ → ℕ
identity r t = bit (r == t)

-- the first k entries of a row's halves
abbrev pub Halves : ℕ → List ℕ → (ℕ → ℕ) → (ℕ → ℕ) → Type 0
Halves k row left right = (t : ℕ) → t < k → (slice_index row t ≡ left t) × (slice_index row (16 + t) ≡ right t)

-- the powers of the point x beside row s of the identity
abbrev pub Powers : ℕ → ℕ → ℕ → List ℕ → Type 0
Powers k x s row = Halves k row (power x) (identity s)

-- out is the row times f
abbrev pub Scaled : ℕ → ℕ → List ℕ → List ℕ → Type 0
Scaled k f row out = Halves k out (λ t. product f (slice_index row t)) (λ t. product f (slice_index row (16 + t)))

-- out is the row plus f times the other
abbrev pub Added : ℕ → ℕ → List ℕ → List ℕ → List ℕ → Type 0
Added k f row other out =
    Halves k out (λ t. get_or row t 0 ⊕ product f (slice_index other t)) (λ t. get_or row (16 + t) 0 ⊕ product f (slice_index other (16 + t)))

-- row r, once the row `pivot`, with a 1 in column c, has cleared that column
pub record Cleared (k c r : ℕ) (pivot row out : List ℕ) : Type 0 where
  pub same : r ≡ c → out ≡ pivot
  pub other : (r ≢ c) → Added k (slice_index row c) row pivot out

-- column c of the grid m has become the identity's
pub record Reduced (k c : ℕ) (m out : List (List ℕ)) : Type 0 where
  pub pivot : Scaled k (inverse (entry m c c)) (slice_index_or m c []) (slice_index_or out c [])
  pub rows : (r : ℕ) → r < k → (r ≢ c) → Added k (entry m r c) (slice_index_or m r []) (slice_index_or out c []) (slice_index_or out r [])
