-- An updated row is its fields' bytes, each from the record or from the old row.
use mathlib.Core.Path.{◌≡◌, refl, sym, ap, ap₂, ◌∙◌}
use mathlib.Core.Bool.{Bool, true, false, cond}
use mathlib.Core.List.{List, [], ◌∷◌, ◌++◌, append-nil}
use mathlib.Core.Option.{Option, some, none}
use Prim.Native.Nat.{ℕ, ◌+◌, ◌-◌, ◌/◌, ◌%◌, ◌≤◌}
use native.Mathlib.Omega.{arith}
use lib.Dec.{eqb}
use lib.ListN.{length, take, drop, length-append, length-drop}
use lib.Seq.{take_at}
use Rattle.coding.specs.Bytes.{Bytes}
use Rattle.coding.proofs.PageLaws.{none≢some, some_eq}
use Rattle.parties.specs.declared.Measures.{Measures}
use Rattle.parties.specs.protocol.Format.{Read, bind, both, mapped}
use Rattle.parties.specs.protocol.Pointer.{read_pointer}
use Rattle.parties.specs.protocol.Directory.{Field, Content, fields, read_content, write_content, read_fields, write_fields}
use Rattle.parties.specs.protocol.Directory.{Row, row_fields, write_row, merge, update_row}
use Rattle.parties.proofs.protocol.formats.DirectoryLaws.{GoodRecord, format_content}
use Rattle.parties.proofs.protocol.formats.RowLaws.{GoodRow, update-fields}
use Rattle.parties.specs.declared.records.form.Ends.{Ends}
use Rattle.parties.specs.records.Form.{rest, after, Ended}
use Rattle.parties.specs.directory.Room.{range, renewed}
use Rattle.parties.proofs.records.FormLaws.{left_read}
use Rattle.parties.proofs.records.RecordLaws.{bytes_drop, row_bytes}

-- a field's bytes, if it is there
abbrev bytes_of : Option Content → List ℕ
bytes_of none = []
bytes_of (some c) = write_content c

abbrev there : Option Content → Bool
there none = false
there (some c) = true

-- the first field of a reading, its bytes, and the reading of the others
record First (s : Measures) (fs : List Field) (map : ℕ) (u v : List ℕ) (r : Read (List (Option Content))) : Type 0 where
  pub field : Option Content
  pub others : List (Option Content)
  pub value : r.value ≡ field ∷ others
  pub stands : there field ≡ eqb (map % 2) 1
  pub bytes : u ≡ bytes_of field ++ v
  pub more : read_fields (read_pointer s) fs (map / 2) v ≡ some (record { value = others; rest = r.rest })

-- a reading of which another was made, with what that one leaves
same_rest : (l r : Read (List (Option Content))) (x : Option Content) → record { value = x ∷ l.value; rest = l.rest } ≡ r
    → some l ≡ some (record { value = l.value; rest = r.rest })
same_rest l r x e = ap (λ (q : Read (List (Option Content))). some (record { value = l.value; rest = q.rest })) e

first_field : (s : Measures) (f : Field) (fs : List Field) (map : ℕ) (u v : List ℕ) (r : Read (List (Option Content))) → Bytes u
    → after (read_pointer s) f (map % 2) u ≡ some v → read_fields (read_pointer s) (f ∷ fs) map u ≡ some r → First s fs map u v r
unfolding read_fields
first_field s f fs map u v r b a e = go (eqb (map % 2) 1) refl a e
  where
    tail : (c : Read Content) → c.rest ≡ v → u ≡ write_content c.value ++ v → eqb (map % 2) 1 ≡ true
        → (o : Option (Read (List (Option Content)))) → read_fields (read_pointer s) fs (map / 2) c.rest ≡ o
        → bind (bind o (λ l t. some (record { value = (c.value, l); rest = t })))
        (λ (x : Content × List (Option Content)) t. some (record { value = some x.0 ∷ x.1; rest = t })) ≡ some r
        → First s fs map u v r
    tail c q w d none p e = absurd (none≢some e)
    tail c q w d (some l) p e =
        record {
          field = some c.value;
          others = l.value;
          value = sym (ap (λ (x : Read (List (Option Content))). x.value) (some_eq e));
          stands = sym d;
          bytes = w;
          more = ap (read_fields (read_pointer s) fs (map / 2)) (sym q) ∙ p ∙ same_rest l r (some c.value) (some_eq e);
        }

    absent : eqb (map % 2) 1 ≡ false → u ≡ v → (o : Option (Read (List (Option Content)))) → read_fields (read_pointer s) fs (map / 2) u ≡ o
        → bind o (λ l t. some (record { value = none ∷ l; rest = t })) ≡ some r → First s fs map u v r
    absent d q none p e = absurd (none≢some e)
    absent d q (some l) p e =
        record {
          field = none;
          others = l.value;
          value = sym (ap (λ (x : Read (List (Option Content))). x.value) (some_eq e));
          stands = sym d;
          bytes = q;
          more = ap (read_fields (read_pointer s) fs (map / 2)) (sym q) ∙ p ∙ same_rest l r none (some_eq e);
        }

    go : (t : Bool) → eqb (map % 2) 1 ≡ t → cond t (rest (read_content (read_pointer s) f u)) (some u) ≡ some v
        → cond t
        (mapped (λ (x : Content × List (Option Content)). some x.0 ∷ x.1) (both (read_content (read_pointer s) f) (λ c. read_fields (read_pointer s) fs (map / 2)) (λ c l. (c, l))))
        (mapped (λ l. none ∷ l) (read_fields (read_pointer s) fs (map / 2))) u ≡ some r
        → First s fs map u v r
    go true d a e =
        let x = left_read (read_content (read_pointer s) f u) v a in
        let w = (format_content s f).only u x.0 b x.1 in
        tail x.0 x.2 (w.1 ∙ ap (λ (y : List ℕ). write_content x.0.value ++ y) x.2) d (read_fields (read_pointer s) fs (map / 2) x.0.rest) refl (rw x.1 at e)
    go false d a e = absent d (some_eq a) (read_fields (read_pointer s) fs (map / 2) u) refl e

-- bytes that go before those from a place on are the slice up to it
sliced : (t p : List ℕ) (at a : ℕ) → at ≤ a → a ≤ length t → drop at t ≡ p ++ drop a t → range at a t ≡ p
sliced t p at a h l e =
    let n : length p ≡ a - at = omega (arith, ap length e, length-append p (drop a t), length-drop at t, length-drop a t) in
    ap (take (a - at)) e ∙ take_at p (drop a t) (a - at) n

-- ---- the four fields

pub record ShownRecord (t : List ℕ) (at map : ℕ) (e : Ends) (l : List (Option Content)) : Type 0 where
  pub written : Option Content
  pub frozen : Option Content
  pub indices : Option Content
  pub index : Option Content
  pub value : l ≡ written ∷ frozen ∷ indices ∷ index ∷ []
  pub stand : (there written ≡ eqb (map % 2) 1) × (there frozen ≡ eqb (map / 2 % 2) 1)
      × (there indices ≡ eqb (map / 2 / 2 % 2) 1) × (there index ≡ eqb (map / 2 / 2 / 2 % 2) 1)
  pub bytes : (range at e.written t ≡ bytes_of written) × (range e.written e.frozen t ≡ bytes_of frozen)
      × (range e.frozen e.indices t ≡ bytes_of indices) × (range e.indices e.index t ≡ bytes_of index)

no_fields : (s : Measures) (map : ℕ) (u : List ℕ) (r : Read (List (Option Content))) → read_fields (read_pointer s) [] map u ≡ some r → r.value ≡ []
unfolding read_fields
no_fields s map u r e = sym (ap (λ (x : Read (List (Option Content))). x.value) (some_eq e))

pub shown : (s : Measures) (t : List ℕ) (at map : ℕ) (e : Ends) (r : Read (List (Option Content))) → Bytes t → Ended s (read_pointer s) t at map e
    → read_fields (read_pointer s) (fields s) map (drop at t) ≡ some r → ShownRecord t at map e r.value
shown s t at map e r b h q =
    let o = h.ordered in
    let w = first_field s (Field.pointers 1) (Field.pointers s.m ∷ Field.indices s.m ∷ Field.indices 1 ∷ []) map
    (drop at t) (drop e.written t) r (bytes_drop at t b) h.written q in
    let f = first_field s (Field.pointers s.m) (Field.indices s.m ∷ Field.indices 1 ∷ []) (map / 2)
    (drop e.written t) (drop e.frozen t) _ (bytes_drop e.written t b) h.frozen w.more in
    let i = first_field s (Field.indices s.m) (Field.indices 1 ∷ []) (map / 2 / 2)
    (drop e.frozen t) (drop e.indices t) _ (bytes_drop e.frozen t b) h.indices f.more in
    let j = first_field s (Field.indices 1) [] (map / 2 / 2 / 2)
    (drop e.indices t) (drop e.index t) _ (bytes_drop e.indices t b) h.index i.more in
    let z = no_fields s (map / 2 / 2 / 2 / 2) (drop e.index t) _ j.more in
    record {
      written = w.field;
      frozen = f.field;
      indices = i.field;
      index = j.field;
      value = w.value
          ∙ ap (λ (l : List (Option Content)). w.field ∷ l)
          (f.value ∙ ap (λ (l : List (Option Content)). f.field ∷ l) (i.value ∙ ap (λ (l : List (Option Content)). i.field ∷ l)
          (j.value ∙ ap (λ (l : List (Option Content)). j.field ∷ l) z)));
      stand = (w.stands, f.stands, i.stands, j.stands);
      bytes = (
        sliced t (bytes_of w.field) at e.written o.0 (omega (arith, o)) w.bytes,
        sliced t (bytes_of f.field) e.written e.frozen o.1 (omega (arith, o)) f.bytes,
        sliced t (bytes_of i.field) e.frozen e.indices o.2 (omega (arith, o)) i.bytes,
        sliced t (bytes_of j.field) e.indices e.index o.3 (omega (arith, o)) j.bytes,
      );
    }

-- ---- merged

abbrev merge1 : Option Content → Option Content → Option Content
merge1 none y = y
merge1 (some c) y = some c

merge_cons : (x y : Option Content) (u l : List (Option Content)) → merge (x ∷ u) (y ∷ l) ≡ merge1 x y ∷ merge u l
unfolding merge
merge_cons none y u l = refl
merge_cons (some c) y u l = refl

write_cons : (z : Option Content) (l : List (Option Content)) → write_fields (z ∷ l) ≡ bytes_of z ++ write_fields l
unfolding write_fields
write_cons none l = refl
write_cons (some c) l = refl

write_none : write_fields [] ≡ []
unfolding write_fields
write_none = refl

merge_none : merge [] [] ≡ []
unfolding merge
merge_none = refl

-- a merged field's bytes
one_part : (x y : Option Content) (b : Bool) (p q : List ℕ) → there x ≡ b → p ≡ bytes_of x → q ≡ bytes_of y → bytes_of (merge1 x y) ≡ cond b p q
one_part none y b p q t e f = sym f ∙ ap (λ (c : Bool). cond c p q) t
one_part (some c) y b p q t e f = sym e ∙ ap (λ (c : Bool). cond c p q) t

merged_bytes : (x y x' y' x'' y'' x''' y''' : Option Content)
    → write_fields (merge (x ∷ x' ∷ x'' ∷ x''' ∷ []) (y ∷ y' ∷ y'' ∷ y''' ∷ []))
    ≡ bytes_of (merge1 x y) ++ (bytes_of (merge1 x' y') ++ (bytes_of (merge1 x'' y'') ++ bytes_of (merge1 x''' y''')))
merged_bytes x y x' y' x'' y'' x''' y''' =
    ap write_fields (merge_cons x y _ _) ∙ write_cons (merge1 x y) _
    ∙ ap (λ (l : List ℕ). bytes_of (merge1 x y) ++ l)
    (ap write_fields (merge_cons x' y' _ _) ∙ write_cons (merge1 x' y') _
    ∙ ap (λ (l : List ℕ). bytes_of (merge1 x' y') ++ l)
    (ap write_fields (merge_cons x'' y'' _ _) ∙ write_cons (merge1 x'' y'') _
    ∙ ap (λ (l : List ℕ). bytes_of (merge1 x'' y'') ++ l)
    (ap write_fields (merge_cons x''' y''' _ _) ∙ write_cons (merge1 x''' y''') _
    ∙ ap (λ (l : List ℕ). bytes_of (merge1 x''' y''') ++ l) (ap write_fields merge_none ∙ write_none)
    ∙ append-nil (bytes_of (merge1 x''' y''')))))

module _ (s : Measures) (u : List (Option Content)) (r : Row) (record-bytes table : List ℕ) (at map : ℕ) (e f : Ends) where
  pub renewed_row : ShownRecord record-bytes 1 map e u → ShownRecord table (at + 1) 15 f (row_fields r) → GoodRecord s u → GoodRow s r
      → renewed map record-bytes e table at f ≡ write_row (update_row u r)
  unfolding renewed
  renewed_row x y g h =
      sym (row_bytes (update_row u r)
      ∙ ap (λ (l : List ℕ). 15 ∷ l)
      (ap write_fields (update-fields s u r g h ∙ ap₂ merge x.value y.value)
      ∙ merged_bytes x.written y.written x.frozen y.frozen x.indices y.indices x.index y.index
      ∙ ap₂ (λ (k l : List ℕ). k ++ l) (one_part x.written y.written (eqb (map % 2) 1) _ _ x.stand.0 x.bytes.0 y.bytes.0)
      (ap₂ (λ (k l : List ℕ). k ++ l) (one_part x.frozen y.frozen (eqb (map / 2 % 2) 1) _ _ x.stand.1 x.bytes.1 y.bytes.1)
      (ap₂ (λ (k l : List ℕ). k ++ l) (one_part x.indices y.indices (eqb (map / 2 / 2 % 2) 1) _ _ x.stand.2 x.bytes.2 y.bytes.2)
      (one_part x.index y.index (eqb (map / 2 / 2 / 2 % 2) 1) _ _ x.stand.3 x.bytes.3 y.bytes.3)))))
