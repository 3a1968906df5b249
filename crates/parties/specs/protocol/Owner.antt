-- Owners of rows, as document 02, (k), has it: a written or frozen pointer in row p is none or has client p.
use Rattle.std.specs.Prelude.{◌≡◌, ◌⊎◌, Bool, true, false, ◌&&◌, ◌||◌, List, [], ◌∷◌, ℕ, suc, ◌<◌, eqb, length, get_or}
use Rattle.std.proofs.Math.Option.{Option}
use Rattle.parties.specs.declared.ReadingIndex.{ReadingIndex}
use Rattle.parties.specs.protocol.Pointer.{Pointer, none_pointer, is_none, all_pointers}
use Rattle.parties.specs.protocol.Directory.{Content, all_fields, Row, no_row}
use Rattle.parties.specs.protocol.Reading.{candidate}

abbrev pub own_pointer : ℕ → Pointer → Bool
own_pointer p x = is_none x || eqb x.version.client p

-- of an update's record the row is the caller's
abbrev pub own_fields : ℕ → List (Option Content) → Bool
own_fields p u = all_fields (own_pointer p) u

abbrev pub own_row : ℕ → Row → Bool
own_row p r = all_pointers (own_pointer p) (r.written ∷ r.frozen)

-- the rows of the clients from p on
unfoldable pub own_rows : ℕ → List Row → Bool
own_rows p [] = true
own_rows p (r ∷ l) = own_row p r && own_rows (suc p) l

-- ---- what it makes true

-- a row has a pointer, written or frozen
abbrev pub Has : Row → Pointer → Type 0
Has r x = (r.written ≡ x) ⊎ ((i : ℕ) × (i < length r.frozen) × (get_or r.frozen i none_pointer ≡ x))

-- a version stands in one row alone, so that document 01's "on a tie the lowest row's" concerns none alone
pub record OneRow (l : List Row) : Type 0 where
  pub alone : (p q : ℕ) (x y : Pointer) → p < length l → q < length l → Has (get_or l p no_row) x → Has (get_or l q no_row) y
      → is_none x ≡ false → x.version ≡ y.version → p ≡ q
  pub ties : (p q own : ℕ) (i : ReadingIndex) → p < q → q < length l
      → (candidate own i (get_or l p no_row)).version ≡ (candidate own i (get_or l q no_row)).version
      → (is_none (candidate own i (get_or l p no_row)) ≡ true) × (is_none (candidate own i (get_or l q no_row)) ≡ true)
