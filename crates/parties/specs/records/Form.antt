-- What is left after a reader, without its value, and what a form test says of it.
use Rattle.std.specs.Prelude.{Option as StdOption, Some, None, Result, Ok, Err, ◌≡◌, Bool, true, false, cond, ◌&&◌, List, [], ℕ, ◌+◌, ◌*◌, ◌/◌, ◌%◌, ◌<◌, ◌≤◌, eqb, length, drop, get_or}
use Rattle.std.proofs.Math.Option.{Option, some, none}
use Rattle.parties.specs.declared.Measures.{Measures}
use Rattle.parties.specs.declared.Refusal.{Refusal}
use Rattle.parties.specs.declared.Version.{Version}
use Rattle.parties.specs.protocol.Format.{Read, Reader, given}
use Rattle.parties.specs.protocol.Measures.{row_size}
use Rattle.parties.specs.protocol.Pointer.{Pointer, proper_pointer, read_any_pointer, read_pointer}
use Rattle.parties.specs.protocol.Directory.{Field, fields, read_content, read_fields, read_row, read_directory}
use Rattle.parties.specs.protocol.Owner.{own_pointer, own_fields, own_row, own_rows}
use Rattle.parties.specs.protocol.Verdict.{broken, rows_verdict, record_verdict}
use Rattle.parties.specs.records.Answer.{number}
use Rattle.parties.specs.declared.records.form.Ends.{Ends}
use Rattle.parties.specs.declared.records.form.Fields.{Fields}
use Rattle.parties.specs.declared.records.form.Rule.{Rule}

abbrev pub rest : {A : Type 0} → Option (Read A) → Option (List ℕ)
rest none = none
rest (some r) = some r.rest

abbrev pub told : List ℕ → StdOption ℕ → Option (List ℕ)
told t (Some next) = some (drop next t)
told t None = none

abbrev pub Within : ℕ → ℕ → StdOption ℕ → Type 0
Within at n (Some next) = (at ≤ next) × (next ≤ n)
Within at n None = Unit {0}

-- the test at a place of t answers what is left after the reader
pub record Formed (t : List ℕ) (at : ℕ) (left : Option (List ℕ)) (r : StdOption ℕ) : Type 0 where
  pub told : told t r ≡ left
  pub within : Within at (length t) r

-- what is asked of a pointer that is read
abbrev pub pointer_by : Measures → Rule → Reader Pointer
pointer_by s Rule.Length = read_any_pointer
pointer_by s Rule.Proper = read_pointer s
pointer_by s (Rule.Owner own) = given (own_pointer own) (read_pointer s)

-- a pointer's tests, which go by its version and map alone
abbrev pub front : Version → ℕ → Pointer
front v map = record { version = v; named = record { nodes = map; digests = [] } }

abbrev pub proper_front : Measures → Version → ℕ → Bool
proper_front s v map = proper_pointer s (front v map)

abbrev pub allowed_front : Measures → Rule → Version → ℕ → Bool
allowed_front s Rule.Length v map = true
allowed_front s Rule.Proper v map = proper_front s v map
allowed_front s (Rule.Owner own) v map = proper_front s v map && own_pointer own (front v map)

-- what is left after a field, if its bit stands
abbrev pub after_if : Reader Pointer → Field → Bool → List ℕ → Option (List ℕ)
after_if r f stands u = cond stands (rest (read_content r f u)) (some u)

abbrev pub after : Reader Pointer → Field → ℕ → List ℕ → Option (List ℕ)
after r f bit u = after_if r f (eqb bit 1) u

-- a field of indices is tested alike, however pointers are read
abbrev pub Indexed : ℕ → Bool → List ℕ → ℕ → StdOption ℕ → Type 0
Indexed n stands t at f = (r : Reader Pointer) → Formed t at (after_if r (Field.indices n) stands (drop at t)) f

-- the fields of a record from a place of t on, each from the end of the one before it
pub record Ended (s : Measures) (r : Reader Pointer) (t : List ℕ) (at map : ℕ) (e : Ends) : Type 0 where
  pub written : after r (Field.pointers 1) (map % 2) (drop at t) ≡ some (drop e.written t)
  pub frozen : after r (Field.pointers s.m) (map / 2 % 2) (drop e.written t) ≡ some (drop e.frozen t)
  pub indices : after r (Field.indices s.m) (map / 2 / 2 % 2) (drop e.frozen t) ≡ some (drop e.indices t)
  pub index : after r (Field.indices 1) (map / 2 / 2 / 2 % 2) (drop e.indices t) ≡ some (drop e.index t)
  pub ordered : (at ≤ e.written) × (e.written ≤ e.frozen) × (e.frozen ≤ e.indices) × (e.indices ≤ e.index) × (e.index ≤ length t)

abbrev pub Parted : Measures → Rule → List ℕ → ℕ → ℕ → StdOption Ends → Type 0
Parted s rule t at map (Some e) = Ended s (pointer_by s rule) t at map e
Parted s rule t at map None = rest (read_fields (pointer_by s rule) (fields s) map (drop at t)) ≡ none

-- what is read passes a test
abbrev pub holds : {A : Type 0} → (A → Bool) → Option (Read A) → Bool
holds test none = false
holds test (some r) = test r.value

-- proper fields, and whether each pointer is the owner's
abbrev pub OwnParted : Measures → ℕ → List ℕ → ℕ → ℕ → StdOption Fields → Type 0
OwnParted s own t at map (Some x) =
    Ended s (read_pointer s) t at map x.ends × (x.owned ≡ holds (own_fields own) (read_fields (read_pointer s) (fields s) map (drop at t)))
OwnParted s own t at map None = rest (read_fields (read_pointer s) (fields s) map (drop at t)) ≡ none

-- the record that is all of t
abbrev pub Walked : Measures → List ℕ → Ends → Type 0
Walked s t e = (0 < length t) × (get_or t 0 0 < 16) × Ended s (read_pointer s) t 1 (get_or t 0 0) e × (e.index ≡ length t)

abbrev pub Recorded : Measures → ℕ → List ℕ → Result Fields Refusal → Type 0
Recorded s own t (Ok x) =
    Walked s t x.ends × (x.owned ≡ holds (own_fields own) (read_fields (read_pointer s) (fields s) (get_or t 0 0) (drop 1 t)))
Recorded s own t (Err r) = record_verdict s t ≡ broken (number r)

-- the row at a place of t
abbrev pub Rowed : Measures → ℕ → List ℕ → ℕ → StdOption Bool → Type 0
Rowed s own t at (Some owned) =
    (rest (read_row s (drop at t)) ≡ some (drop (at + row_size s) t)) × (owned ≡ holds (own_row own) (read_row s (drop at t)))
Rowed s own t at None = read_row s (drop at t) ≡ none

-- the directory at the front of t
abbrev pub Tabled : Measures → List ℕ → StdOption Bool → Type 0
Tabled s t (Some owned) = (rest (read_directory s t) ≡ some (drop (s.m * row_size s) t)) × (owned ≡ holds (own_rows 0) (read_directory s t))
Tabled s t None = read_directory s t ≡ none

abbrev pub Judged : Measures → List ℕ → Result (Unit {0}) Refusal → Type 0
Judged s t (Ok x) = (rest (read_directory s t) ≡ some (drop (s.m * row_size s) t)) × (true ≡ holds (own_rows 0) (read_directory s t))
Judged s t (Err r) = rows_verdict s t ≡ broken (number r)
