-- A row that is put together at the front of a room of zeros.
use Rattle.std.specs.Prelude.{◌≡◌, Bool, cond, List, ◌∷◌, ◌++◌, ℕ, ◌+◌, ◌-◌, ◌/◌, ◌%◌, ◌≤◌, eqb, length, take, drop, replicate}
use Rattle.std.proofs.Math.Option.{Option, some}
use Rattle.std.proofs.Math.Seq.{paste}
use Rattle.parties.specs.declared.Measures.{Measures}
use Rattle.parties.specs.protocol.Format.{whole, write_area}
use Rattle.parties.specs.protocol.Measures.{row_size}
use Rattle.parties.specs.protocol.Directory.{Content, Row, row_map, read_record, read_row, write_row, update_row}
use Rattle.parties.specs.declared.records.form.Ends.{Ends}

-- the bytes of the longest row: of 8 clients, and 16 digests a pointer
abbrev pub longest_row : ℕ
longest_row = 4708

pub record Built (p room : List ℕ) : Type 0 where
  pub fits : length p ≤ longest_row
  pub bytes : room ≡ p ++ replicate (longest_row - length p) 0

-- the bytes from a place to another
abbrev pub range : ℕ → ℕ → List ℕ → List ℕ
range a b t = take (b - a) (drop a t)

-- a field's bytes: from the record, if its bit stands, otherwise from the row
abbrev pub part : Bool → ℕ → ℕ → List ℕ → ℕ → ℕ → List ℕ → List ℕ
part stands a b record-bytes c d row_bytes = cond stands (range a b record-bytes) (range c d row_bytes)

-- the row at a place of the table, with the fields of a record in their stead
unfoldable pub renewed : ℕ → List ℕ → Ends → List ℕ → ℕ → Ends → List ℕ
renewed map fields e table at f =
    row_map ∷ (part (eqb (map % 2) 1) 1 e.written fields (at + 1) f.written table
    ++ (part (eqb (map / 2 % 2) 1) e.written e.frozen fields f.written f.frozen table
    ++ (part (eqb (map / 2 / 2 % 2) 1) e.frozen e.indices fields f.frozen f.indices table
    ++ part (eqb (map / 2 / 2 / 2 % 2) 1) e.indices e.index fields f.indices f.index table)))

-- the fields lie one after the other, within n bytes
abbrev pub Ordered : ℕ → Ends → ℕ → Type 0
Ordered at e n = (at ≤ e.written) × (e.written ≤ e.frozen) × (e.frozen ≤ e.indices) × (e.indices ≤ e.index) × (e.index ≤ n)

-- bytes are put at a place of a room, and r is the place after them
pub record PutAt (room : List ℕ) (at : ℕ) (p : List ℕ) (r : ℕ) (end : List ℕ) : Type 0 where
  pub next : r ≡ at + length p
  pub bytes : end ≡ paste room at p (length p)

-- the row at a place, updated by a record
abbrev pub Renewed : Measures → ℕ → List ℕ → List ℕ → List ℕ → Type 0
Renewed s at fields table end =
    (u : List (Option Content)) (r : Row) → whole (read_record s) fields ≡ some u
    → read_row s (drop at table) ≡ some (record { value = r; rest = drop (at + row_size s) table })
    → end ≡ paste table at (write_area (row_size s) write_row (update_row u r)) (row_size s)
