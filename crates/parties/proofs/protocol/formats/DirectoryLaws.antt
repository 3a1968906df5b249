-- The directory's record as bytes: written and read back, whatever the list of fields.
use mathlib.Core.Path.{◌≡◌, refl}
use mathlib.Core.Bool.{true, cond}
use mathlib.Core.List.{List, [], ◌∷◌, ◌++◌}
use mathlib.Core.Option.{Option, some, none}
use Prim.Native.Nat.{ℕ, ◌/◌, ◌%◌, ◌^◌, ◌<◌}
use native.Mathlib.Nat.{div-lt_iff_lt-mul, pow-suc}
use native.Mathlib.Decide.{ℕ_discrete}
use native.Mathlib.Omega.{arith}
use borrow.Author.Tests.{eq-eqb, ne_eqb, ltb-true}
use lib.Dec.{eqb, ltb}
use lib.ListN.{length}
use Rattle.parties.specs.declared.Measures.{Measures}
use Rattle.parties.specs.declared.ReadingIndex.{ReadingIndex}
use Rattle.parties.specs.protocol.Format.{both, given, mapped, read_nothing, read_number, write_number, read_many, write_many}
use Rattle.parties.specs.protocol.Pointer.{read_pointer, write_pointer}
use Rattle.parties.specs.protocol.Directory.{Field, pointers, indices, Content, pointers_of, indices_of, fields, read_index, write_index, read_content}
use Rattle.parties.specs.protocol.Directory.{write_content, read_fields, write_fields, map_of, read_record, write_record, pointers_in, indices_in}
use Rattle.parties.proofs.protocol.formats.FormatLaws.{Format, format_then, format_check, format_as, format_nothing, format_number, format_many, Each}
use Rattle.parties.proofs.protocol.formats.PointerLaws.{GoodPointer, format_pointer, length-number}

abbrev pub GoodIndex : ReadingIndex → Type 0
GoodIndex i = i.0 < 256 ^ 4

pub format_index : Format ReadingIndex read_index write_index GoodIndex
unfolding read_index write_index
format_index =
    format_as (read_number 4) (write_number 4) (λ n. n < 256 ^ 4) (λ n. record { 0 = n }) (λ i. i.0) write_index GoodIndex
    (λ n h. (h, refl)) (λ i h. (h, refl, refl)) (format_number 4)

pub length-index : (i : ReadingIndex) → length (write_index i) ≡ 4
unfolding write_index
length-index i = length-number 4 i.0

-- what may stand in a field
abbrev pub GoodContent : Measures → Field → Content → Type 0
GoodContent s (pointers n) (pointers_of l) = Each (GoodPointer s) l × (length l ≡ n)
GoodContent s (pointers n) (indices_of l) = ⊥
GoodContent s (indices n) (pointers_of l) = ⊥
GoodContent s (indices n) (indices_of l) = Each GoodIndex l × (length l ≡ n)

pub format_content : (s : Measures) (f : Field) → Format Content (read_content (read_pointer s) f) write_content (GoodContent s f)
unfolding read_content write_content
format_content s (pointers n) =
    format_as (read_many (read_pointer s) n) (write_many write_pointer) (λ l. Each (GoodPointer s) l × (length l ≡ n))
    pointers_of (λ c. pointers_in (some c)) write_content
    (GoodContent s (pointers n)) (λ l h. (h, refl)) back (format_many (read_pointer s) write_pointer (GoodPointer s) (format_pointer s) n)
  where
    back : (c : Content) → GoodContent s (pointers n) c
        → (Each (GoodPointer s) (pointers_in (some c)) × (length (pointers_in (some c)) ≡ n)) × (pointers_of (pointers_in (some c)) ≡ c)
        × (write_content c ≡ write_many write_pointer (pointers_in (some c)))
    back (pointers_of l) h = (h, refl, refl)
    back (indices_of l) h = absurd h
format_content s (indices n) =
    format_as (read_many read_index n) (write_many write_index) (λ l. Each GoodIndex l × (length l ≡ n)) indices_of (λ c. indices_in (some c)) write_content
    (GoodContent s (indices n)) (λ l h. (h, refl)) back (format_many read_index write_index GoodIndex format_index n)
  where
    back : (c : Content) → GoodContent s (indices n) c
        → (Each GoodIndex (indices_in (some c)) × (length (indices_in (some c)) ≡ n)) × (indices_of (indices_in (some c)) ≡ c)
        × (write_content c ≡ write_many write_index (indices_in (some c)))
    back (pointers_of l) h = absurd h
    back (indices_of l) h = (h, refl, refl)

-- a content for each field whose bit stands
abbrev pub GoodFields : Measures → List Field → ℕ → List (Option Content) → Type 0
GoodFields s [] map [] = Unit {0}
GoodFields s [] map (x ∷ l) = ⊥
GoodFields s (f ∷ fs) map [] = ⊥
GoodFields s (f ∷ fs) map (none ∷ l) = (map % 2 ≡ 0) × GoodFields s fs (map / 2) l
GoodFields s (f ∷ fs) map (some c ∷ l) = (map % 2 ≡ 1) × (GoodContent s f c × GoodFields s fs (map / 2) l)

-- a field that is there, before the others
abbrev pub as_list : Content × List (Option Content) → List (Option Content)
as_list x = some x.0 ∷ x.1

abbrev as_pair : List (Option Content) → Content × List (Option Content)
as_pair [] = (indices_of [], [])
as_pair (none ∷ l) = (indices_of [], l)
as_pair (some c ∷ l) = (c, l)

abbrev rest : List (Option Content) → List (Option Content)
rest [] = []
rest (x ∷ l) = l

-- the first field's bit stands
module _ (s : Measures) (f : Field) (fs : List Field) (map : ℕ) (odd : map % 2 ≡ 1)
    (ih : Format (List (Option Content)) (read_fields (read_pointer s) fs (map / 2)) write_fields (GoodFields s fs (map / 2))) where
  field_there : Format (List (Option Content))
      (mapped as_list (both (read_content (read_pointer s) f) (λ c. read_fields (read_pointer s) fs (map / 2)) (λ c l. (c, l)))) write_fields (GoodFields s (f ∷ fs) map)
  unfolding write_fields
  field_there =
      format_as (both (read_content (read_pointer s) f) (λ c. read_fields (read_pointer s) fs (map / 2)) (λ c l. (c, l))) (λ x. write_content x.0 ++ write_fields x.1)
      (λ x. GoodContent s f x.0 × GoodFields s fs (map / 2) x.1) as_list as_pair write_fields (GoodFields s (f ∷ fs) map)
      (λ x h. ((odd, h), refl)) back
      (format_then (read_content (read_pointer s) f) write_content (GoodContent s f) (λ c. read_fields (read_pointer s) fs (map / 2)) (λ c. write_fields) (λ c. GoodFields s fs (map / 2))
      (λ c l. (c, l)) (λ x. x.0) (λ x. x.1) (λ x. refl) (λ c l g h. refl) (λ c l. refl) (format_content s f) (λ c. ih))
    where
      back : (l : List (Option Content)) → GoodFields s (f ∷ fs) map l
          → (GoodContent s f (as_pair l).0 × GoodFields s fs (map / 2) (as_pair l).1) × (as_list (as_pair l) ≡ l)
          × (write_fields l ≡ write_content (as_pair l).0 ++ write_fields (as_pair l).1)
      back [] h = absurd h
      back (none ∷ l) h = absurd (omega (arith, h.0))
      back (some c ∷ l) h = (h.1, refl, refl)

-- it does not stand
module _ (s : Measures) (f : Field) (fs : List Field) (map : ℕ) (even : map % 2 ≡ 0)
    (ih : Format (List (Option Content)) (read_fields (read_pointer s) fs (map / 2)) write_fields (GoodFields s fs (map / 2))) where
  field_absent : Format (List (Option Content)) (mapped (λ l. none ∷ l) (read_fields (read_pointer s) fs (map / 2))) write_fields (GoodFields s (f ∷ fs) map)
  unfolding write_fields
  field_absent =
      format_as (read_fields (read_pointer s) fs (map / 2)) write_fields (GoodFields s fs (map / 2)) (λ l. none ∷ l) rest write_fields (GoodFields s (f ∷ fs) map)
      (λ l h. ((even, h), refl)) back ih
    where
      back : (l : List (Option Content)) → GoodFields s (f ∷ fs) map l
          → GoodFields s fs (map / 2) (rest l) × ((none ∷ rest l) ≡ l) × (write_fields l ≡ write_fields (rest l))
      back [] h = absurd h
      back (none ∷ l) h = (h.1, refl, refl)
      back (some c ∷ l) h = absurd (omega (arith, h.0))

pub format_fields : (s : Measures) (fs : List Field) (map : ℕ) → Format (List (Option Content)) (read_fields (read_pointer s) fs map) write_fields (GoodFields s fs map)
unfolding read_fields write_fields
format_fields s [] map =
    format_as read_nothing (λ u. []) (λ u. Unit {0}) (λ u. []) (λ l. tt) write_fields (GoodFields s [] map) (λ u h. (tt, refl)) back format_nothing
  where
    back : (l : List (Option Content)) → GoodFields s [] map l → Unit {0} × ([] ≡ l) × (write_fields l ≡ [])
    back [] h = (tt, refl, refl)
    back (x ∷ l) h = absurd h
format_fields s (f ∷ fs) map = go (format_fields s fs (map / 2)) (ℕ_discrete (map % 2) 1)
  where
    go : Format (List (Option Content)) (read_fields (read_pointer s) fs (map / 2)) write_fields (GoodFields s fs (map / 2)) → Dec (map % 2 ≡ 1)
        → Format (List (Option Content))
        (cond (eqb (map % 2) 1) (mapped as_list (both (read_content (read_pointer s) f) (λ c. read_fields (read_pointer s) fs (map / 2)) (λ c l. (c, l))))
        (mapped (λ l. none ∷ l) (read_fields (read_pointer s) fs (map / 2)))) write_fields (GoodFields s (f ∷ fs) map)
    go ih (yes h) = rw (eq-eqb (map % 2) 1 h) (field_there s f fs map h ih)
    go ih (no h) = rw (ne_eqb (map % 2) 1 h) (field_absent s f fs map (omega arith) ih)

-- the bits that stand are those of the fields that are there
map_of_lem : (s : Measures) (fs : List Field) (map : ℕ) (l : List (Option Content)) → GoodFields s fs map l → map < 2 ^ length fs → map_of l ≡ map
unfolding map_of
map_of_lem s [] map [] g h = omega arith
map_of_lem s [] map (x ∷ l) g h = absurd g
map_of_lem s (f ∷ fs) map [] g h = absurd g
map_of_lem s (f ∷ fs) map (none ∷ l) g h =
    let b : map / 2 < 2 ^ length fs = (div-lt_iff_lt-mul {k = 2} (omega arith)).1 (rw pow-suc at h) in
    omega (arith, map_of_lem s fs (map / 2) l g.1 b, g.0)
map_of_lem s (f ∷ fs) map (some c ∷ l) g h =
    let b : map / 2 < 2 ^ length fs = (div-lt_iff_lt-mul {k = 2} (omega arith)).1 (rw pow-suc at h) in
    omega (arith, map_of_lem s fs (map / 2) l g.1.1 b, g.0)

abbrev pub GoodRecord : Measures → List (Option Content) → Type 0
GoodRecord s l = ((map_of l < 256 ^ 1) × (ltb (map_of l) (2 ^ length (fields s)) ≡ true)) × GoodFields s (fields s) (map_of l) l

pub format_record : (s : Measures) → Format (List (Option Content)) (read_record s) write_record (GoodRecord s)
unfolding read_record write_record
format_record s =
    format_then (given (λ map. ltb map (2 ^ length (fields s))) (read_number 1)) (write_number 1)
    (λ map. (map < 256 ^ 1) × (ltb map (2 ^ length (fields s)) ≡ true))
    (λ map. read_fields (read_pointer s) (fields s) map) (λ map. write_fields) (λ map. GoodFields s (fields s) map)
    (λ map l. l) map_of (λ l. l) (λ l. refl) (λ map l g h. map_of_lem s (fields s) map l h (ltb-true map (2 ^ length (fields s)) g.1)) (λ map l. refl)
    (format_check (read_number 1) (write_number 1) (λ map. map < 256 ^ 1) (λ map. ltb map (2 ^ length (fields s))) (format_number 1))
    (λ map. format_fields s (fields s) map)
