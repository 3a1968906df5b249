-- Rows whose pointers are their owners': row by row and pointer by pointer, and what they have in common.
use mathlib.Core.Path.{◌≡◌, refl, sym, ap, subst, ◌∙◌}
use mathlib.Core.Logic.{inl, inr}
use mathlib.Core.Bool.{Bool, true, false, cond, ◌&&◌, ◌||◌, false≢true}
use mathlib.Core.List.{List, [], ◌∷◌}
use mathlib.Core.Option.{Option, some, none}
use Prim.Native.Nat.{ℕ, zero, suc, ◌+◌, ◌^◌, ◌<◌}
use native.Mathlib.Omega.{arith}
use borrow.Author.Tests.{eq-eqb, eqb-true, leb-true}
use lib.Dec.{leb, eqb, ltb}
use lib.ListN.{length, get_or, set, replicate, length-set}
use lib.Seq.{get_or-set_same, get_or-set_other}
use Rattle.coding.specs.Bytes.{Bytes}
use Rattle.coding.proofs.Cases.{and-true}
use Rattle.coding.proofs.PageLaws.{none≢some, some_eq}
use Rattle.parties.specs.declared.Measures.{Measures}
use Rattle.parties.specs.declared.ReadingIndex.{ReadingIndex}
use Rattle.parties.specs.protocol.Format.{Read}
use Rattle.parties.specs.protocol.Nodes.{nodes_in}
use Rattle.parties.specs.protocol.Pointer.{Pointer, none_pointer, is_none, proper_pointer, all_pointers}
use Rattle.parties.specs.protocol.Directory.{Content, Row, no_row, row_fields, pointers_in, all_fields, fresh_row, fresh_directory, read_directory, merge, update_row}
use Rattle.parties.specs.protocol.Reading.{candidate}
use Rattle.parties.specs.protocol.Owner.{own_pointer, own_fields, own_row, own_rows, Has, OneRow}
use Rattle.parties.specs.protocol.Verdict.{sound, broken, by_owner, rows_verdict}
use Rattle.parties.proofs.protocol.model.Cells.{chosen, by_eq}
use Rattle.parties.proofs.protocol.formats.FormatLaws.{Each}
use Rattle.parties.proofs.protocol.formats.EachLaws.{each_at, each_else, each_with}
use Rattle.parties.proofs.protocol.formats.PointerLaws.{GoodPointer}
use Rattle.parties.proofs.protocol.formats.DirectoryLaws.{GoodRecord}
use Rattle.parties.proofs.protocol.formats.VerdictLaws.{shown}
use Rattle.parties.proofs.protocol.formats.RowLaws.{GoodRow, FitsRow, format_directory, update-fields}

-- ---- pointer by pointer

abbrev Passes : (Pointer → Bool) → Pointer → Type 0
Passes test x = test x ≡ true

pub pointers_pass : (test : Pointer → Bool) (l : List Pointer) → Each (Passes test) l → all_pointers test l ≡ true
unfolding all_pointers
pointers_pass test [] h = refl
pointers_pass test (x ∷ l) h = simp (h.0, pointers_pass test l h.1)

pointers_at : (test : Pointer → Bool) (l : List Pointer) → all_pointers test l ≡ true → Each (Passes test) l
unfolding all_pointers
pointers_at test [] h = tt
pointers_at test (x ∷ l) h = let b = and-true (test x) (all_pointers test l) h in (b.0, pointers_at test l b.1)

-- the fields of a row are its pointers
pub row_pointers : (test : Pointer → Bool) (r : Row) → all_fields test (row_fields r) ≡ all_pointers test (r.written ∷ r.frozen)
unfolding all_fields all_pointers
row_pointers test r = go (test r.written) (all_pointers test r.frozen)
  where
    go : (a b : Bool) → ((a && true) && (b && true)) ≡ (a && b)
    go true true = refl
    go true false = refl
    go false b = refl

-- a client's own
pub client_own : (p : ℕ) (x : Pointer) → x.version.client ≡ p → own_pointer p x ≡ true
client_own p x e = go (is_none x) (eqb x.version.client p) (eq-eqb x.version.client p e)
  where
    go : (a b : Bool) → b ≡ true → (a || b) ≡ true
    go true b q = refl
    go false b q = q

-- ---- row by row

rows_pass : (l : List Row) (p : ℕ) → ((i : ℕ) → i < length l → own_row (p + i) (get_or l i no_row) ≡ true) → own_rows p l ≡ true
unfolding own_rows
rows_pass [] p h = refl
rows_pass (r ∷ l) p h =
    let z : p + 0 ≡ p = omega arith in
    simp (
      rw z at (h 0 (omega arith)),
      rows_pass l (suc p) (λ i b. let e : p + suc i ≡ suc p + i = omega arith in rw e at (h (suc i) (omega arith))),
    )

rows_at : (l : List Row) (p : ℕ) → own_rows p l ≡ true → (i : ℕ) → i < length l → own_row (p + i) (get_or l i no_row) ≡ true
unfolding own_rows
rows_at [] p h i b = absurd (omega arith)
rows_at (r ∷ l) p h zero b = let z : p + 0 ≡ p = omega arith in rw z (and-true (own_row p r) (own_rows (suc p) l) h).0
rows_at (r ∷ l) p h (suc i) b =
    let e : p + suc i ≡ suc p + i = omega arith in
    rw e (rows_at l (suc p) (and-true (own_row p r) (own_rows (suc p) l) h).1 i (omega arith))

-- from the first client on
pub own_rows_lem : (l : List Row) → ((p : ℕ) → p < length l → own_row p (get_or l p no_row) ≡ true) → own_rows 0 l ≡ true
own_rows_lem l h = rows_pass l 0 (λ i b. let z : 0 + i ≡ i = omega arith in rw z (h i b))

pub own_row_lem : (l : List Row) → own_rows 0 l ≡ true → (p : ℕ) → p < length l → own_row p (get_or l p no_row) ≡ true
own_row_lem l h p b = let z : 0 + p ≡ p = omega arith in rw z at (rows_at l 0 h p b)

-- another row in the stead of one
pub set_own : (l : List Row) (own : ℕ) (v : Row) → own_rows 0 l ≡ true → own_row own v ≡ true → own_rows 0 (set l own v) ≡ true
set_own l own v h o =
    own_rows_lem (set l own v) (λ i b.
    let c : i < length l = rw (length-set l own v) at b in
    by_eq i own (λ f e. subst (λ (k : ℕ). own_row k (get_or (set l own v) k no_row) ≡ true) (sym e)
    (ap (own_row own) (get_or-set_same l own v no_row (omega (arith, e))) ∙ o))
    (λ f e. ap (own_row i) (get_or-set_other l own i v no_row e) ∙ own_row_lem l h i c))

-- an update with its owner's pointers
pub merged_own : (test : Pointer → Bool) (u l : List (Option Content)) → all_fields test u ≡ true → all_fields test l ≡ true → all_fields test (merge u l) ≡ true
unfolding all_fields merge
merged_own test [] l a b = b
merged_own test (x ∷ u) [] a b = refl
merged_own test (none ∷ u) (y ∷ l) a b =
    let h = and-true (all_pointers test (pointers_in none)) _ a in
    let k = and-true (all_pointers test (pointers_in y)) _ b in simp (k.0, merged_own test u l h.1 k.1)
merged_own test (some c ∷ u) (y ∷ l) a b =
    let h = and-true (all_pointers test (pointers_in (some c))) _ a in
    let k = and-true (all_pointers test (pointers_in y)) _ b in simp (h.0, merged_own test u l h.1 k.1)

pub updated_own : (s : Measures) (own : ℕ) (u : List (Option Content)) (r : Row) → GoodRecord s u → GoodRow s r
    → own_fields own u ≡ true → own_row own r ≡ true → own_row own (update_row u r) ≡ true
updated_own s own u r g h a b =
    sym (row_pointers (own_pointer own) (update_row u r)) ∙ ap (all_fields (own_pointer own)) (update-fields s u r g h)
    ∙ merged_own (own_pointer own) u (row_fields r) a (row_pointers (own_pointer own) r ∙ b)

-- a fresh directory's pointers are none
pub fresh_own : (s : Measures) → own_rows 0 (fresh_directory s) ≡ true
unfolding all_pointers own_rows
fresh_own s = go s.m 0
  where
    nones : (p n : ℕ) → all_pointers (own_pointer p) (replicate n none_pointer) ≡ true
    nones p zero = refl
    nones p (suc n) = nones p n

    go : (n p : ℕ) → own_rows p (replicate n (fresh_row s)) ≡ true
    go zero p = refl
    go (suc n) p = simp (nones p s.m, go n (suc p))

-- ---- a version stands in one row

-- a proper pointer with the version of none is none
proper-none : (s : Measures) (x y : Pointer) → proper_pointer s x ≡ true → is_none y ≡ true → x.version ≡ y.version → is_none x ≡ true
unfolding proper_pointer
proper-none s x y g h e =
    go (is_none x) (ltb x.version.client s.m && (eqb (length (nodes_in x.named.nodes)) (s.t + s.k) && ltb x.named.nodes (2 ^ s.n))) refl g
  where
    zero_sequence : x.version.sequence.0 ≡ 0
    zero_sequence = ap (λ v. v.sequence.0) e ∙ eqb-true y.version.sequence.0 0 (and-true (eqb y.version.sequence.0 0) _ h).0

    go : (b c : Bool) → is_none x ≡ b → (b || (leb 1 x.version.sequence.0 && c)) ≡ true → is_none x ≡ true
    go true c q g = q
    go false c q g = let l = leb-true 1 x.version.sequence.0 (and-true (leb 1 x.version.sequence.0) c g).0 in absurd (omega (arith, zero_sequence))

-- its owner is then its client
own_client : (p : ℕ) (x : Pointer) → own_pointer p x ≡ true → is_none x ≡ false → x.version.client ≡ p
own_client p x h e = eqb-true x.version.client p (go (is_none x) e h)
  where
    go : (b : Bool) → b ≡ false → (b || eqb x.version.client p) ≡ true → eqb x.version.client p ≡ true
    go true q h = absurd (false≢true (sym q))
    go false q h = h

-- pointers of two rows
module _ (s : Measures) (p q : ℕ) (x y : Pointer) (px : proper_pointer s x ≡ true) (py : proper_pointer s y ≡ true)
    (ox : own_pointer p x ≡ true) (oy : own_pointer q y ≡ true) (e : x.version ≡ y.version) where
  same_row : is_none x ≡ false → p ≡ q
  same_row n = go (is_none y) refl
    where
      go : (b : Bool) → is_none y ≡ b → p ≡ q
      go true h = absurd (false≢true (sym n ∙ proper-none s x y px h e))
      go false h = sym (own_client p x ox n) ∙ ap (λ v. v.client) e ∙ own_client q y oy h

  both-none : (p ≡ q → ⊥) → (is_none x ≡ true) × (is_none y ≡ true)
  both-none d = let a = first in (a, proper-none s y x py a (sym e))
    where
      first : is_none x ≡ true
      first = go (is_none x) refl
        where
          go : (b : Bool) → is_none x ≡ b → is_none x ≡ true
          go true h = h
          go false h = absurd (d (same_row h))

-- the law
module _ (s : Measures) (l : List Row) (good : Each (FitsRow s) l) (own : own_rows 0 l ≡ true) where
  -- of a pointer in row p
  abbrev Kept : ℕ → Pointer → Type 0
  Kept p x = (proper_pointer s x ≡ true) × (own_pointer p x ≡ true)

  kept_row : (p : ℕ) → p < length l → Each (Kept p) ((get_or l p no_row).written ∷ (get_or l p no_row).frozen)
  kept_row p b =
      let r = get_or l p no_row in
      let g = (each_at (FitsRow s) no_row l good p b).0.0 in
      each_with (GoodPointer s) (Passes (own_pointer p)) (Kept p) (λ x h o. (h.1, o)) (r.written ∷ r.frozen)
      (g.0.1.1.0.0.0, g.0.1.1.1.1.0.0) (pointers_at (own_pointer p) (r.written ∷ r.frozen) (own_row_lem l own p b))

  kept-none : (p : ℕ) → Kept p none_pointer
  unfolding proper_pointer
  kept-none p = (refl, refl)

  kept_has : (p : ℕ) (x : Pointer) → p < length l → Has (get_or l p no_row) x → Kept p x
  kept_has p x b (inl e) = subst (Kept p) e (kept_row p b).0
  kept_has p x b (inr h) = subst (Kept p) h.2 (each_at (Kept p) none_pointer (get_or l p no_row).frozen (kept_row p b).1 h.0 h.1)

  kept-candidate : (p c : ℕ) (i : ReadingIndex) → p < length l → Kept p (candidate c i (get_or l p no_row))
  kept-candidate p c i b =
      chosen (Kept p) (ltb (get_or (get_or l p no_row).frozen_indices c (record { 0 = 0 })).0 i.0) _ _ (kept_row p b).0
      (each_else (Kept p) none_pointer (get_or l p no_row).frozen (kept-none p) (kept_row p b).1 c)

  pub own_one_row : OneRow l
  own_one_row =
      record {
        alone = λ p q x y a b h k n e.
            let kx = kept_has p x a h in
            let ky = kept_has q y b k in same_row s p q x y kx.0 ky.0 kx.1 ky.1 e n;
        ties = λ p q c i a b e.
            let kx = kept-candidate p c i (omega arith) in
            let ky = kept-candidate q c i b in both-none s p q _ _ kx.0 ky.0 kx.1 ky.1 e (λ d. omega arith);
      }

-- rows that read
pub owner_verdict : (o : Option (Read (List Row))) (r : Read (List Row)) (b : Bool) → o ≡ some r → own_rows 0 r.value ≡ b
    → by_owner o ≡ cond b (sound r) (broken 14)
owner_verdict o r b e f = ap by_owner e ∙ ap (λ (c : Bool). cond c (sound r) (broken 14)) f

-- rows that are not refused
verdict_own : (o : Option (Read (List Row))) (r : Read (List Row)) → by_owner o ≡ sound r → (o ≡ some r) × (own_rows 0 r.value ≡ true)
verdict_own none r e = absurd (none≢some (ap shown e))
verdict_own (some x) r e = go (own_rows 0 x.value) refl e
  where
    go : (b : Bool) → own_rows 0 x.value ≡ b → cond b (sound x) (broken 14) ≡ sound r → (some x ≡ some r) × (own_rows 0 r.value ≡ true)
    go true h q = let d = ap shown q in (d, subst (λ (y : Read (List Row)). own_rows 0 y.value ≡ true) (some_eq d) h)
    go false h q = absurd (none≢some (ap shown q))

pub one_row : (s : Measures) (t : List ℕ) (r : Read (List Row)) → Bytes t → rows_verdict s t ≡ sound r → OneRow r.value
one_row s t r b e =
    let x = verdict_own (read_directory s t) r e in
    own_one_row s r.value ((format_directory s).only t r b x.0).0.0 x.1
