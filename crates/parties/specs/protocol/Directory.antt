-- The directory: its record, its rows and its table.
use Rattle.std.specs.Prelude.{Bool, true, cond, ◌&&◌, List, [], ◌∷◌, ◌++◌, ℕ, ◌+◌, ◌*◌, ◌/◌, ◌%◌, ◌^◌, ltb, eqb, length, get_or, replicate}
use Rattle.std.proofs.Math.Option.{Option, some, none}
use Rattle.parties.specs.declared.Measures.{Measures}
use Rattle.parties.specs.declared.ReadingIndex.{ReadingIndex}
use Rattle.parties.specs.protocol.Format.{Reader, both, given, mapped, read_nothing, read_number, write_number, read_many, write_many, read_area, write_area}
use Rattle.parties.specs.protocol.Measures.{row_size}
use Rattle.parties.specs.protocol.Pointer.{Pointer, none_pointer, all_pointers, read_pointer, write_pointer}

-- a field of a directory record: so many pointers, or so many indices of 4 bytes
pub data Field : Type 0 where
  pointers : ℕ → Field
  indices : ℕ → Field

-- what stands in a field
pub data Content : Type 0 where
  pointers_of : List Pointer → Content
  indices_of : List ReadingIndex → Content

-- bit 0 written pointer; bit 1 m frozen pointers; bit 2 m frozen indices; bit 3 reading index
abbrev pub fields : Measures → List Field
fields s = pointers 1 ∷ pointers s.m ∷ indices s.m ∷ indices 1 ∷ []

unfoldable pub read_index : Reader ReadingIndex
read_index = mapped (λ n. record { 0 = n }) (read_number 4)

unfoldable pub write_index : ReadingIndex → List ℕ
write_index i = write_number 4 i.0

-- a field, given how a pointer is read
unfoldable pub read_content : Reader Pointer → Field → Reader Content
read_content r (pointers n) = mapped pointers_of (read_many r n)
read_content r (indices n) = mapped indices_of (read_many read_index n)

unfoldable pub write_content : Content → List ℕ
write_content (pointers_of l) = write_many write_pointer l
write_content (indices_of l) = write_many write_index l

-- the fields whose bit stands, in order
unfoldable pub read_fields : Reader Pointer → List Field → ℕ → Reader (List (Option Content))
read_fields r [] map = mapped (λ u. []) read_nothing
read_fields r (f ∷ fs) map =
    cond (eqb (map % 2) 1)
    (mapped (λ (x : Content × List (Option Content)). some x.0 ∷ x.1) (both (read_content r f) (λ c. read_fields r fs (map / 2)) (λ c l. (c, l))))
    (mapped (λ l. none ∷ l) (read_fields r fs (map / 2)))

unfoldable pub write_fields : List (Option Content) → List ℕ
write_fields [] = []
write_fields (none ∷ l) = write_fields l
write_fields (some c ∷ l) = write_content c ++ write_fields l

-- the bit map of the fields that are there
unfoldable pub map_of : List (Option Content) → ℕ
map_of [] = 0
map_of (none ∷ l) = 2 * map_of l
map_of (some c ∷ l) = 1 + 2 * map_of l

-- a bit map whose upper bits are zero
abbrev pub proper_map : Measures → ℕ → Bool
proper_map s map = ltb map (2 ^ length (fields s))

-- a directory record: a bit map byte, then the fields whose bit stands
unfoldable pub read_record : Measures → Reader (List (Option Content))
read_record s = both (given (proper_map s) (read_number 1)) (λ map. read_fields (read_pointer s) (fields s) map) (λ map l. l)

unfoldable pub write_record : List (Option Content) → List ℕ
write_record l = write_number 1 (map_of l) ++ write_fields l

-- a directory row: written pointer, frozen pointers, frozen indices and reading index of a client
pub record Row : Type 0 where
  pub written : Pointer
  pub frozen : List Pointer
  pub frozen_indices : List ReadingIndex
  pub reading_index : ReadingIndex

-- stands for a row where there is none
abbrev pub no_row : Row
no_row = record { written = none_pointer; frozen = []; frozen_indices = []; reading_index = record { 0 = 0 } }

-- a row is a record with map hex 0F
abbrev pub row_map : ℕ
row_map = 0x0F

abbrev pub row_fields : Row → List (Option Content)
row_fields r =
    some (pointers_of (r.written ∷ []))
    ∷ some (pointers_of r.frozen)
    ∷ some (indices_of r.frozen_indices)
    ∷ some (indices_of (r.reading_index ∷ []))
    ∷ []

-- the row of a record in which every field stands
abbrev pub pointers_in : Option Content → List Pointer
pointers_in none = []
pointers_in (some (pointers_of l)) = l
pointers_in (some (indices_of l)) = []

abbrev pub indices_in : Option Content → List ReadingIndex
indices_in none = []
indices_in (some (pointers_of l)) = []
indices_in (some (indices_of l)) = l

-- every pointer of some fields passes a test
unfoldable pub all_fields : (Pointer → Bool) → List (Option Content) → Bool
all_fields test [] = true
all_fields test (x ∷ l) = all_pointers test (pointers_in x) && all_fields test l

abbrev pub as_row : List (Option Content) → Row
as_row l =
    record {
      written = get_or (pointers_in (get_or l 0 none)) 0 none_pointer;
      frozen = pointers_in (get_or l 1 none);
      frozen_indices = indices_in (get_or l 2 none);
      reading_index = get_or (indices_in (get_or l 3 none)) 0 (record { 0 = 0 });
    }

abbrev pub write_row : Row → List ℕ
write_row r = write_record (row_fields r)

-- in an area of its size, spare bytes zero
unfoldable pub read_row : Measures → Reader Row
read_row s = read_area (row_size s) (mapped as_row (given (λ l. eqb (map_of l) row_map) (read_record s))) write_row

-- the directory table: the rows in client order
unfoldable pub read_directory : Measures → Reader (List Row)
read_directory s = read_many (read_row s) s.m

unfoldable pub write_directory : Measures → List Row → List ℕ
write_directory s = write_many (write_area (row_size s) write_row)

-- at first all pointers are none, all indices 0
abbrev pub fresh_row : Measures → Row
fresh_row s =
    record {
      written = none_pointer;
      frozen = replicate s.m none_pointer;
      frozen_indices = replicate s.m (record { 0 = 0 });
      reading_index = record { 0 = 0 };
    }

abbrev pub fresh_directory : Measures → List Row
fresh_directory s = replicate s.m (fresh_row s)

-- an update replaces the fields whose bit stands; map 0 changes nothing
unfoldable pub merge : List (Option Content) → List (Option Content) → List (Option Content)
merge [] l = l
merge (x ∷ u) [] = []
merge (none ∷ u) (y ∷ l) = y ∷ merge u l
merge (some c ∷ u) (y ∷ l) = some c ∷ merge u l

unfoldable pub update_row : List (Option Content) → Row → Row
update_row u r = as_row (merge u (row_fields r))
