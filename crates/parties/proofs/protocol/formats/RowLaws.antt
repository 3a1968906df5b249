-- Directory rows and the directory table as bytes: written and read back.
use mathlib.Core.Path.{◌≡◌, refl, ap, subst, subst⁻¹, ◌∙◌, sym}
use mathlib.Core.Bool.{Bool, true, false}
use mathlib.Core.List.{List, [], ◌∷◌, ◌++◌}
use mathlib.Core.Option.{Option, some, none}
use Prim.Native.Nat.{ℕ, ◌+◌, ◌*◌, ◌^◌, ◌≤◌, ◌/◌}
use native.Mathlib.Nat.{suc-mul, pow-suc}
use native.Mathlib.Omega.{arith}
use borrow.Author.Tests.{eqb-true, lt-ltb, eq-eqb, le-leb, leb-true}
use lib.Dec.{leb, eqb}
use lib.ListN.{length, get_or, length-append, length-replicate}
use Rattle.coding.proofs.BytesLaws.{stride}
use Rattle.coding.proofs.Cases.{and-true}
use Rattle.coding.proofs.NodesLaws.{nodes-none}
use Rattle.parties.specs.declared.ReadingIndex.{ReadingIndex}
use Rattle.parties.specs.declared.Measures.{Measures}
use Rattle.parties.specs.protocol.Format.{given, mapped, write_number, write_area, write_many}
use Rattle.parties.specs.protocol.Measures.{pointer_size, row_size}
use Rattle.parties.specs.protocol.Nodes.{count}
use Rattle.parties.specs.protocol.Pointer.{none_pointer, Pointer, is_none, proper_pointer, write_pointer}
use Rattle.parties.specs.protocol.Directory.{pointers, indices, Content, pointers_of, indices_of, fields, map_of, read_record, write_record, Row}
use Rattle.parties.specs.protocol.Directory.{row_fields, Field, write_index, write_fields, write_content, merge, update_row, fresh_row, fresh_directory}
use Rattle.parties.specs.protocol.Directory.{pointers_in, indices_in, as_row, write_row, read_row, read_directory, write_directory}
use Rattle.parties.proofs.protocol.formats.FormatLaws.{Format, format_check, format_as, format_many, format_area, Each, length_area, length-same}
pub use Rattle.parties.proofs.protocol.formats.EachLaws.{each-replicate}
use Rattle.parties.proofs.protocol.formats.PointerLaws.{GoodPointer, length-number, pointer-length, some_count}
use Rattle.parties.proofs.protocol.formats.DirectoryLaws.{GoodContent, GoodFields, GoodRecord, format_record, GoodIndex, length-index}

-- a field of one pointer or index has one
one_pointer : (s : Measures) (c : Content) → GoodContent s (pointers 1) c → pointers_of (get_or (pointers_in (some c)) 0 none_pointer ∷ []) ≡ c
one_pointer s (pointers_of []) h = absurd (omega (arith, h.1))
one_pointer s (pointers_of (p ∷ [])) h = refl
one_pointer s (pointers_of (p ∷ q ∷ l)) h = absurd (omega (arith, h.1))
one_pointer s (indices_of l) h = absurd h

one_index : (s : Measures) (c : Content) → GoodContent s (indices 1) c → indices_of (get_or (indices_in (some c)) 0 (record { 0 = 0 }) ∷ []) ≡ c
one_index s (pointers_of l) h = absurd h
one_index s (indices_of []) h = absurd (omega (arith, h.1))
one_index s (indices_of (p ∷ [])) h = refl
one_index s (indices_of (p ∷ q ∷ l)) h = absurd (omega (arith, h.1))

some_pointers : (s : Measures) (n : ℕ) (c : Content) → GoodContent s (pointers n) c → pointers_of (pointers_in (some c)) ≡ c
some_pointers s n (pointers_of l) h = refl
some_pointers s n (indices_of l) h = absurd h

some_indices : (s : Measures) (n : ℕ) (c : Content) → GoodContent s (indices n) c → indices_of (indices_in (some c)) ≡ c
some_indices s n (pointers_of l) h = absurd h
some_indices s n (indices_of l) h = refl

-- a record in which every field stands is its row's
row_shape : (s : Measures) (l : List (Option Content)) → GoodFields s (fields s) 15 l → row_fields (as_row l) ≡ l
row_shape s [] g = absurd g
row_shape s (none ∷ l) g = absurd (omega (arith, g.0))
row_shape s (some a ∷ []) g = absurd g.1.1
row_shape s (some a ∷ none ∷ l) g = absurd (omega (arith, g.1.1.0))
row_shape s (some a ∷ some b ∷ []) g = absurd g.1.1.1.1
row_shape s (some a ∷ some b ∷ none ∷ l) g = absurd (omega (arith, g.1.1.1.1.0))
row_shape s (some a ∷ some b ∷ some c ∷ []) g = absurd g.1.1.1.1.1.1
row_shape s (some a ∷ some b ∷ some c ∷ none ∷ l) g = absurd (omega (arith, g.1.1.1.1.1.1.0))
row_shape s (some a ∷ some b ∷ some c ∷ some d ∷ []) g =
    λ i. some (one_pointer s a g.1.0 i)
    ∷ some (some_pointers s s.m b g.1.1.1.0 i)
    ∷ some (some_indices s s.m c g.1.1.1.1.1.0 i)
    ∷ some (one_index s d g.1.1.1.1.1.1.1.0 i)
    ∷ []
row_shape s (some a ∷ some b ∷ some c ∷ some d ∷ x ∷ l) g = absurd g.1.1.1.1.1.1.1.1

abbrev pub GoodRow : Measures → Row → Type 0
GoodRow s r = GoodRecord s (row_fields r) × (eqb (map_of (row_fields r)) 0x0F ≡ true)

pub format_row_fields : (s : Measures) → Format Row (mapped as_row (given (λ l. eqb (map_of l) 0x0F) (read_record s))) write_row (GoodRow s)
format_row_fields s =
    format_as (given (λ l. eqb (map_of l) 0x0F) (read_record s)) write_record (λ l. GoodRecord s l × (eqb (map_of l) 0x0F ≡ true))
    as_row row_fields write_row (GoodRow s) there (λ r h. (h, refl, refl))
    (format_check (read_record s) write_record (GoodRecord s) (λ l. eqb (map_of l) 0x0F) (format_record s))
  where
    there : (l : List (Option Content)) → GoodRecord s l × (eqb (map_of l) 0x0F ≡ true) → GoodRow s (as_row l) × (write_row (as_row l) ≡ write_record l)
    there l h =
        let q : map_of l ≡ 15 = eqb-true (map_of l) 15 h.1 in
        let e : row_fields (as_row l) ≡ l = row_shape s l (subst (λ (m : ℕ). GoodFields s (fields s) m l) q h.0.1) in
        (subst⁻¹ (λ (x : List (Option Content)). GoodRecord s x × (eqb (map_of x) 0x0F ≡ true)) e h, ap write_record e)

-- the row fits its area
abbrev pub FitsRow : Measures → Row → Type 0
FitsRow s r = (GoodRow s r × Unit {0}) × (leb (length (write_row r)) (row_size s) ≡ true)

pub format_row : (s : Measures) → Format Row (read_row s) (write_area (row_size s) write_row) (FitsRow s)
unfolding read_row
format_row s = format_area (row_size s) (mapped as_row (given (λ l. eqb (map_of l) 0x0F) (read_record s))) write_row (GoodRow s) (format_row_fields s)

pub format_directory : (s : Measures) → Format (List Row) (read_directory s) (write_directory s) (λ l. Each (FitsRow s) l × (length l ≡ s.m))
unfolding read_directory write_directory
format_directory s = format_many (read_row s) (write_area (row_size s) write_row) (FitsRow s) (format_row s) s.m

-- ---- lengths

length-many : {A : Type 0} (w : A → List ℕ) (g : A → Type 0) (k : ℕ) → ((a : A) → g a → length (w a) ≤ k) → (l : List A) → Each g l
    → length (write_many w l) ≤ length l * k
unfolding write_many
length-many w g k h [] e = omega arith
length-many w g k h (a ∷ l) e =
    omega (arith, length-append (w a) (write_many w l), h a e.0, length-many w g k h l e.1, suc-mul (length l) k)

-- a pointer has at most its size
pub pointer-fits : (s : Measures) (p : Pointer) → GoodPointer s p → length (write_pointer p) ≤ pointer_size s
pointer-fits s p g = omega (arith, pointer-length s p g, few (is_none p) refl)
  where
    few : (b : Bool) → is_none p ≡ b → count p.named.nodes ≤ s.t + s.k
    few true e =
        let a = and-true (eqb p.version.sequence.0 0) _ e in
        let c = and-true (eqb p.version.client 255) _ a.1 in
        let z : count p.named.nodes ≡ 0 = ap count (eqb-true p.named.nodes 0 c.1) ∙ ap length (nodes-none 16) in
        omega arith
    few false e = omega (arith, some_count s p g e)

index-fits : (i : ReadingIndex) → GoodIndex i → length (write_index i) ≤ 4
index-fits i h = omega (arith, length-index i)

-- a row has at most its size
pub row_fits : (s : Measures) (r : Row) → GoodRow s r → length (write_row r) ≤ row_size s
unfolding write_record write_fields write_content map_of
row_fits s r g =
    let w = g.0.1.1.0 in
    let f = g.0.1.1.1.1.0 in
    let i = g.0.1.1.1.1.1.1.0 in
    let j = g.0.1.1.1.1.1.1.1.1.0 in
    let a = write_many write_pointer (r.written ∷ []) in
    let b = write_many write_pointer r.frozen in
    let c = write_many write_index r.frozen_indices in
    let d = write_many write_index (r.reading_index ∷ []) in
    let la : length a ≤ 1 * pointer_size s = length-many write_pointer (GoodPointer s) (pointer_size s) (pointer-fits s) (r.written ∷ []) w.0 in
    let lb : length b ≤ length r.frozen * pointer_size s = length-many write_pointer (GoodPointer s) (pointer_size s) (pointer-fits s) r.frozen f.0 in
    let lc : length c ≤ length r.frozen_indices * 4 = length-many write_index GoodIndex 4 index-fits r.frozen_indices i.0 in
    let ld : length d ≤ 1 * 4 = length-many write_index GoodIndex 4 index-fits (r.reading_index ∷ []) j.0 in
    let n : length r.frozen * pointer_size s ≡ s.m * pointer_size s = ap (λ (x : ℕ). x * pointer_size s) f.1 in
    let e : (s.m + 1) * pointer_size s ≡ s.m * pointer_size s + pointer_size s = stride s.m (pointer_size s) in
    let q : length (write_row r) ≡ length (write_number 1 15 ++ (a ++ (b ++ (c ++ (d ++ []))))) = refl in
    omega (
      arith,
      length-append (write_number 1 15) (a ++ (b ++ (c ++ (d ++ [])))),
      length-number 1 15,
      length-append a (b ++ (c ++ (d ++ []))),
      length-append b (c ++ (d ++ [])),
      length-append c (d ++ []),
      length-append d [],
      i.1,
    )

-- a directory table has m rows of that size
pub length-directory : (s : Measures) (rows : List Row) → Each (FitsRow s) rows → length rows ≡ s.m → length (write_directory s rows) ≡ s.m * row_size s
unfolding write_directory
length-directory s rows g e =
    length-same (write_area (row_size s) write_row) (FitsRow s) (row_size s)
    (λ r h. length_area (row_size s) write_row r (leb-true (length (write_row r)) (row_size s) h.1)) rows g
    ∙ ap (λ (x : ℕ). x * row_size s) e

-- ---- updates

-- every field stands
abbrev There : Measures → List Field → List (Option Content) → Type 0
There s [] [] = Unit {0}
There s [] (x ∷ l) = ⊥
There s (f ∷ fs) [] = ⊥
There s (f ∷ fs) (none ∷ l) = ⊥
There s (f ∷ fs) (some c ∷ l) = GoodContent s f c × There s fs l

there_good : (s : Measures) (fs : List Field) (l : List (Option Content)) → There s fs l → GoodFields s fs (map_of l) l
unfolding map_of
there_good s [] [] h = tt
there_good s [] (x ∷ l) h = absurd h
there_good s (f ∷ fs) [] h = absurd h
there_good s (f ∷ fs) (none ∷ l) h = absurd h
there_good s (f ∷ fs) (some c ∷ l) h =
    let e : (1 + 2 * map_of l) / 2 ≡ map_of l = omega arith in (omega arith, (h.0, rw e (there_good s fs l h.1)))

there-map : (s : Measures) (fs : List Field) (l : List (Option Content)) → There s fs l → map_of l + 1 ≡ 2 ^ length fs
unfolding map_of
there-map s [] [] h = refl
there-map s [] (x ∷ l) h = absurd h
there-map s (f ∷ fs) [] h = absurd h
there-map s (f ∷ fs) (none ∷ l) h = absurd h
there-map s (f ∷ fs) (some c ∷ l) h = omega (arith, there-map s fs l h.1, pow-suc 2 (length fs))

merge-there : (s : Measures) (fs : List Field) (map : ℕ) (u l : List (Option Content)) → GoodFields s fs map u → There s fs l → There s fs (merge u l)
unfolding merge
merge-there s [] map [] l g h = h
merge-there s [] map (x ∷ u) l g h = absurd g
merge-there s (f ∷ fs) map [] l g h = absurd g
merge-there s (f ∷ fs) map (x ∷ u) [] g h = absurd h
merge-there s (f ∷ fs) map (x ∷ u) (none ∷ l) g h = absurd h
merge-there s (f ∷ fs) map (none ∷ u) (some c ∷ l) g h = (h.0, merge-there s fs (map / 2) u l g.1 h.1)
merge-there s (f ∷ fs) map (some d ∷ u) (some c ∷ l) g h = (g.1.0, merge-there s fs (map / 2) u l g.1.1 h.1)

merged_there : (s : Measures) (u : List (Option Content)) (r : Row) → GoodRecord s u → GoodRow s r → There s (fields s) (merge u (row_fields r))
merged_there s u r g h =
    merge-there s (fields s) (map_of u) u (row_fields r) g.1
    (h.0.1.1.0, (h.0.1.1.1.1.0, (h.0.1.1.1.1.1.1.0, (h.0.1.1.1.1.1.1.1.1.0, tt))))

-- what stands in an updated row
pub update-fields : (s : Measures) (u : List (Option Content)) (r : Row) → GoodRecord s u → GoodRow s r → row_fields (update_row u r) ≡ merge u (row_fields r)
unfolding update_row
update-fields s u r g h =
    let l = merge u (row_fields r) in
    let a : There s (fields s) l = merged_there s u r g h in
    let m : map_of l ≡ 15 = omega (arith, there-map s (fields s) l a) in row_shape s l (rw m at (there_good s (fields s) l a))

-- a good record leaves a good row good, in its area too
pub update_good : (s : Measures) (u : List (Option Content)) (r : Row) → GoodRecord s u → GoodRow s r → GoodRow s (update_row u r)
update_good s u r g h =
    let l = merge u (row_fields r) in
    let a : There s (fields s) l = merged_there s u r g h in
    let m : map_of l ≡ 15 = omega (arith, there-map s (fields s) l a) in
    subst⁻¹ (λ (x : List (Option Content)). GoodRecord s x × (eqb (map_of x) 0x0F ≡ true)) (update-fields s u r g h)
    (((omega arith, lt-ltb (map_of l) (2 ^ length (fields s)) (omega arith)), there_good s (fields s) l a), eq-eqb (map_of l) 15 m)

-- map 0 changes nothing
pub update-nothing : (r : Row) → update_row (none ∷ none ∷ none ∷ none ∷ []) r ≡ r
unfolding update_row merge
update-nothing r = refl

-- ---- fresh rows

pub none_good : (s : Measures) → GoodPointer s none_pointer
unfolding proper_pointer
none_good s = (((omega arith, omega arith), (omega arith, (tt, sym (ap length (nodes-none 16))))), refl)

fresh-there : (s : Measures) → There s (fields s) (row_fields (fresh_row s))
fresh-there s = (
  ((none_good s, tt), refl),
  (
    (each-replicate (GoodPointer s) s.m none_pointer (none_good s), length-replicate s.m none_pointer),
    (
      (each-replicate GoodIndex s.m (record { 0 = 0 }) (omega arith), length-replicate s.m (record { 0 = 0 })),
      (
        ((omega arith, tt), refl),
        tt,
      ),
    ),
  ),
)

pub fresh_good : (s : Measures) → GoodRow s (fresh_row s)
unfolding map_of
fresh_good s = (((omega arith, refl), there_good s (fields s) (row_fields (fresh_row s)) (fresh-there s)), refl)

-- a fresh directory table reads as fresh rows
pub fresh-directory : (s : Measures) (rest : List ℕ)
    → read_directory s (write_directory s (fresh_directory s) ++ rest) ≡ some (record { value = fresh_directory s; rest = rest })
fresh-directory s rest =
    (format_directory s).back (fresh_directory s) (
      each-replicate (FitsRow s) s.m (fresh_row s)
          ((fresh_good s, tt), le-leb (length (write_row (fresh_row s))) (row_size s) (row_fits s (fresh_row s) (fresh_good s))),
      length-replicate s.m (fresh_row s),
    )
    rest
