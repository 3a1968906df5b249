-- What is left after pointers, directory records and rows.
use mathlib.Core.Path.{◌≡◌, refl, sym, ap, subst, ◌∙◌}
use mathlib.Core.Bool.{Bool, true, false, cond, ◌&&◌, ◌||◌}
use mathlib.Core.List.{List, [], ◌∷◌, ◌++◌, append_assoc}
use mathlib.Core.Option.{Option, some, none}
use Prim.Native.Nat.{ℕ, suc, ◌+◌, ◌-◌, ◌*◌, ◌/◌, ◌%◌, ◌^◌, ◌<◌, ◌≤◌}
use native.Mathlib.Decide.{dec_le}
use native.Mathlib.Omega.{arith}
use borrow.Author.Tests.{eq-eqb, ne_eqb, eqb-true, lt-leb, ltb-true, lt-ltb, le-ltb}
use lib.Dec.{eqb, leb, ltb}
use lib.ListN.{length, take, drop, get_or, replicate, length-append, length-drop}
use lib.Seq.{drop-drop, get_or-drop, drop-cons}
use Rattle.std.specs.Prelude.{Option as StdOption, Some, None, Result, Ok, Err}
use Rattle.std.specs.Option.{ok_or}
use Rattle.coding.specs.Nodes.{all}
use Rattle.coding.specs.Bytes.{Bytes}
use Rattle.coding.proofs.Cases.{and-true}
use Rattle.coding.proofs.PageLaws.{none≢some, some_eq}
use Rattle.parties.specs.declared.Measures.{Measures}
use Rattle.parties.specs.declared.Version.{Version}
use Rattle.parties.specs.protocol.Format.{Read, Reader, bind, check, both, given, mapped, chain, whole}
use Rattle.parties.specs.protocol.Format.{read_number, write_number, read_many, read_bytes, read_zeros, write_area}
use Rattle.parties.specs.protocol.Measures.{row_size}
use Rattle.parties.specs.protocol.Version.{is_no_version}
use Rattle.parties.specs.protocol.Nodes.{count}
use Rattle.parties.specs.protocol.Pointer.{Named, Pointer, is_none, proper_pointer, read_version, read_named, read_any_pointer, read_pointer}
use Rattle.parties.specs.protocol.Message.{proper_version}
use Rattle.parties.specs.protocol.Directory.{Field, pointers, indices, Content, fields, read_index, read_content, read_fields}
use Rattle.parties.specs.protocol.Directory.{map_of, read_record, write_fields, write_record, Row, row_fields, all_fields, as_row, write_row, read_row, read_directory}
use Rattle.parties.specs.protocol.Owner.{own_pointer, own_fields, own_row, own_rows}
use Rattle.parties.specs.protocol.Verdict.{sound, broken, by_length, record_verdict, rows_verdict}
use Rattle.parties.proofs.protocol.model.Cells.{and_none}
use Rattle.parties.proofs.protocol.formats.FormatLaws.{number_one}
use Rattle.parties.proofs.protocol.formats.DirectoryLaws.{format_fields, format_record}
use Rattle.parties.proofs.protocol.formats.VerdictLaws.{tested, content_tested, fields_tested, fields-proper}
use Rattle.parties.proofs.protocol.formats.RowLaws.{GoodRow, format_row_fields, format_row, row_fits}
use Rattle.parties.proofs.protocol.formats.OwnerLaws.{client_own, row_pointers, owner_verdict}
use Rattle.parties.specs.declared.records.form.Ends.{Ends}
use Rattle.parties.specs.declared.Refusal.{Refusal}
use Rattle.parties.specs.declared.records.form.Rule.{Rule}
use Rattle.parties.specs.declared.records.form.Fields.{Fields}
use Rattle.parties.specs.records.Answer.{number}
use Rattle.parties.specs.records.Form.{rest, front, pointer_by, proper_front, allowed_front, after, Ended, Parted, holds, OwnParted, Recorded, Rowed, Tabled, Judged}
use Rattle.parties.proofs.records.FormLaws.{left_read, none_read, rest-check, given-held, given_unheld, given_both, none_either, rest_make, rest-mapped, rest_both, rest_zeros, rest_area, none_area, Fixed, fixed_fits, fixed_short, fixed_then, fixed_bytes, fixed_number, fixed_mapped, fixed_many}

pub bytes_drop : (at : ℕ) (t : List ℕ) → Bytes t → Bytes (drop at t)
bytes_drop at t b i = rw (get_or-drop at t i 0) (b (at + i))

-- ---- a pointer

pub or_nothing : (b : Bool) → b ≡ (b || false)
or_nothing true = refl
or_nothing false = refl

fixed_version : Fixed 5 read_version
unfolding read_version
fixed_version = fixed_then 4 1 (read_number 4) (read_number 1) (λ q c. record { sequence = record { 0 = q }; client = c }) (fixed_number 4) (fixed_number 1)

any_short : (u : List ℕ) → length u < 7 → read_any_pointer u ≡ none
unfolding read_named
any_short u h = go (dec_le 5 (length u))
  where
    go : Dec (5 ≤ length u) → read_any_pointer u ≡ none
    go (yes l) =
        let x = left_read (read_version u) (drop 5 u) (fixed_fits 5 read_version fixed_version u l) in
        let e : length x.0.rest < 2 = omega (arith, ap length x.2, length-drop 5 u) in
        rw x.1 (rw (none_read (read_number 2 x.0.rest) (fixed_short 2 (read_number 2) (fixed_number 2) x.0.rest e)) refl)
    go (no l) = rw (none_read (read_version u) (fixed_short 5 read_version fixed_version u (omega arith))) refl

pub pointer-short : (s : Measures) (rule : Rule) (u : List ℕ) → length u < 7 → rest (pointer_by s rule u) ≡ none
unfolding read_pointer
pointer-short s Rule.Length u h = rw (any_short u h) refl
pointer-short s Rule.Proper u h = rw (any_short u h) refl
pointer-short s (Rule.Owner own) u h = rw (any_short u h) refl

-- one that has its seven bytes: the test goes by them, and the digests follow
module _ (s : Measures) (u w x : List ℕ) (v : Version) (map : ℕ)
    (version : read_version u ≡ some (record { value = v; rest = w }))
    (nodes : read_number 2 w ≡ some (record { value = map; rest = x })) where
  -- a test that goes by them
  rest_tested : (test : Pointer → Bool)
      → ((ds : List (List ℕ)) → test (record { version = v; named = record { nodes = map; digests = ds } }) ≡ test (front v map))
      → rest (given test read_any_pointer u) ≡ cond (test (front v map)) (rest (read_many (read_bytes 32) (count map) x)) none
  unfolding read_named
  rest_tested test same = rw version (rw nodes (go (read_many (read_bytes 32) (count map) x)))
    where
      go : (o : Option (Read (List (List ℕ))))
          → rest (bind (bind (bind o (λ l u. some (record { value = record { nodes = map; digests = l }; rest = u })))
          (λ n u. some (record { value = record { version = v; named = n }; rest = u })))
          (λ p t. check (test p) p t)) ≡ cond (test (front v map)) (rest o) none
      go none = none_either (test (front v map))
      go (some r) =
          rest-check (test (record { version = v; named = record { nodes = map; digests = r.value } })) _ r.rest
          ∙ ap (λ (b : Bool). cond b (some r.rest) none) (same r.value)

  pub rest-pointer : (rule : Rule) → rest (pointer_by s rule u) ≡ cond (allowed_front s rule v map) (rest (read_many (read_bytes 32) (count map) x)) none
  unfolding read_pointer read_named proper_pointer
  rest-pointer Rule.Length = rw version (rw nodes (go (read_many (read_bytes 32) (count map) x)))
    where
      go : (o : Option (Read (List (List ℕ))))
          → rest {A = Pointer} (bind (bind {B = Named} o (λ l u. some (record { value = record { nodes = map; digests = l }; rest = u })))
          (λ n u. some (record { value = record { version = v; named = n }; rest = u }))) ≡ rest o
      go none = refl
      go (some r) = refl
  rest-pointer Rule.Proper = rest_tested (proper_pointer s) (λ ds. refl)
  rest-pointer (Rule.Owner own) =
      ap rest (given_both (proper_pointer s) (own_pointer own) read_any_pointer u)
      ∙ rest_tested (λ p. proper_pointer s p && own_pointer own p) (λ ds. refl)

-- a pointer whose version is not none
pub grouped : (a b c : Bool) → (a && (b && c)) ≡ ((a && b) && c)
grouped true b c = refl
grouped false b c = refl

pub not_none : (p : Pointer) → is_no_version p.version ≡ false → is_none p ≡ false
not_none p e = grouped (eqb p.version.sequence.0 0) (eqb p.version.client 255) (eqb p.named.nodes 0) ∙ ap (λ (b : Bool). b && eqb p.named.nodes 0) e

-- the test's two cases
module _ (s : Measures) (v : Version) (map : ℕ) where
  pub front-none : is_no_version v ≡ true → eqb map 0 ≡ proper_front s v map
  unfolding proper_pointer
  front-none e =
      let q = v.sequence.0 in
      let x = and-true (eqb q 0) (eqb v.client 255) e in
      let z = eqb-true q 0 x.0 in
      simp (x.0, x.1, lt-leb 1 q (omega arith)) (or_nothing (eqb map 0))

  pub front_some : is_no_version v ≡ false → (proper_version s v && (eqb (count map) (s.t + s.k) && ltb map (2 ^ s.n))) ≡ proper_front s v map
  unfolding proper_pointer
  front_some e =
      let l = eqb (count map) (s.t + s.k) && ltb map (2 ^ s.n) in
      sym (ap (λ (b : Bool). b || (leb 1 v.sequence.0 && (ltb v.client s.m && l)))
      (not_none (record { version = v; named = record { nodes = map; digests = [] } }) e)
      ∙ grouped (leb 1 v.sequence.0) (ltb v.client s.m) l)

  -- of a pointer that keeps its rule: its owner's, or none by its version
  pub front_own : (own : ℕ) → proper_front s v map ≡ true → v.client ≡ own → true ≡ (proper_front s v map && own_pointer own (front v map))
  front_own own g e = rw g (sym (client_own own (front v map) e))

  pub front-other : (own : ℕ) → proper_front s v map ≡ true → (v.client ≡ own → ⊥) → is_no_version v ≡ (proper_front s v map && own_pointer own (front v map))
  front-other own g e = rw g (rw (ne_eqb v.client own e) (go (is_no_version v) refl ∙ or_nothing (is_none (front v map))))
    where
      go : (b : Bool) → is_no_version v ≡ b → is_no_version v ≡ is_none (front v map)
      go true h =
          let x = and-true (eqb v.sequence.0 0) (eqb v.client 255) h in
          h ∙ sym (simp (x.0, x.1, front-none h ∙ g))
      go false h = h ∙ sym (not_none (front v map) h)

-- at a place of t
module _ (s : Measures) (rule : Rule) (t : List ℕ) (at : ℕ) (v : Version) (map : ℕ) (room : 7 ≤ length t - at)
    (version : read_version (drop at t) ≡ some (record { value = v; rest = drop (at + 5) t }))
    (nodes : read_number 2 (drop (at + 5) t) ≡ some (record { value = map; rest = drop (at + 5 + 2) t })) where
  pointer_at_lem : rest (pointer_by s rule (drop at t))
      ≡ cond (allowed_front s rule v map) (rest (read_many (read_bytes 32) (count map) (drop (at + 5 + 2) t))) none
  pointer_at_lem = rest-pointer s (drop at t) (drop (at + 5) t) (drop (at + 5 + 2) t) v map version nodes rule

  digests : Fixed (count map * 32) (read_many (read_bytes 32) (count map))
  digests = fixed_many 32 (read_bytes 32) (fixed_bytes 32) (count map)

  pub pointer_improper : allowed_front s rule v map ≡ false → rest (pointer_by s rule (drop at t)) ≡ none
  pointer_improper p = pointer_at_lem ∙ ap (λ (b : Bool). cond b (rest (read_many (read_bytes 32) (count map) (drop (at + 5 + 2) t))) none) p

  pub pointer-long : allowed_front s rule v map ≡ true → length t - at < 7 + 32 * count map → rest (pointer_by s rule (drop at t)) ≡ none
  pointer-long p h =
      pointer_at_lem ∙ ap (λ (b : Bool). cond b (rest (read_many (read_bytes 32) (count map) (drop (at + 5 + 2) t))) none) p
      ∙ fixed_short (count map * 32) (read_many (read_bytes 32) (count map)) digests (drop (at + 5 + 2) t) (omega (arith, length-drop (at + 5 + 2) t))

  pub pointer-sound : allowed_front s rule v map ≡ true → 7 + 32 * count map ≤ length t - at
      → rest (pointer_by s rule (drop at t)) ≡ some (drop (at + (7 + 32 * count map)) t)
  pointer-sound p h =
      let e : at + 5 + 2 + count map * 32 ≡ at + (7 + 32 * count map) = omega arith in
      pointer_at_lem ∙ ap (λ (b : Bool). cond b (rest (read_many (read_bytes 32) (count map) (drop (at + 5 + 2) t))) none) p
      ∙ fixed_fits (count map * 32) (read_many (read_bytes 32) (count map)) digests (drop (at + 5 + 2) t) (omega (arith, length-drop (at + 5 + 2) t))
      ∙ ap some (drop-drop (count map * 32) (at + 5 + 2) t ∙ ap (λ (k : ℕ). drop k t) e)

-- ---- fields

pub rest-pointers : (r : Reader Pointer) (n : ℕ) (u : List ℕ) → rest (read_content r (pointers n) u) ≡ rest (read_many r n u)
unfolding read_content
rest-pointers r n u = rest-mapped Content.pointers_of (read_many r n) u

pub indices_fixed : (n : ℕ) → Fixed (n * 4) (read_many read_index n)
unfolding read_index
indices_fixed n = fixed_many 4 read_index (fixed_mapped 4 (λ n. record { 0 = n }) (read_number 4) (fixed_number 4)) n

pub fixed_indices : (r : Reader Pointer) (n : ℕ) → Fixed (n * 4) (read_content r (indices n))
unfolding read_content
fixed_indices r n = fixed_mapped (n * 4) Content.indices_of (read_many read_index n) (indices_fixed n)

pub rest-fields : (r : Reader Pointer) (f : Field) (fs : List Field) (map : ℕ) (u : List ℕ)
    → rest (read_fields r (f ∷ fs) map u) ≡ chain (after r f (map % 2) u) (λ v. rest (read_fields r fs (map / 2) v))
unfolding read_fields
rest-fields r f fs map u = go (eqb (map % 2) 1)
  where
    go : (b : Bool)
        → rest (cond b
        (mapped (λ (x : Content × List (Option Content)). some x.0 ∷ x.1) (both (read_content r f) (λ c. read_fields r fs (map / 2)) (λ c l. (c, l))))
        (mapped (λ l. none ∷ l) (read_fields r fs (map / 2))) u)
        ≡ chain (cond b (rest (read_content r f u)) (some u)) (λ v. rest (read_fields r fs (map / 2) v))
    go true =
        rest-mapped (λ (x : Content × List (Option Content)). some x.0 ∷ x.1) (both (read_content r f) (λ c. read_fields r fs (map / 2)) (λ c l. (c, l))) u
        ∙ rest_both (read_content r f) (read_fields r fs (map / 2)) (λ c l. (c, l)) u
    go false = rest-mapped (λ l. none ∷ l) (read_fields r fs (map / 2)) u

rest_no_fields : (r : Reader Pointer) (map : ℕ) (u : List ℕ) → rest (read_fields r [] map u) ≡ some u
unfolding read_fields
rest_no_fields r map u = refl

-- a chain goes on where something is left, and ends where nothing is
pub chain_some : {A B : Type 0} (o : Option A) (a : A) (f : A → Option B) → o ≡ some a → chain o f ≡ f a
chain_some o a f e = ap (λ (x : Option _). chain x f) e

pub chain-none : {A B : Type 0} (o : Option A) (f : A → Option B) → o ≡ none → chain o f ≡ none
chain-none o f e = ap (λ (x : Option _). chain x f) e

module _ (s : Measures) (r : Reader Pointer) (t : List ℕ) (at map : ℕ) where
  pub broken-written : after r (pointers 1) (map % 2) (drop at t) ≡ none → rest (read_fields r (fields s) map (drop at t)) ≡ none
  broken-written e = rest-fields r (pointers 1) _ map (drop at t) ∙ chain-none _ _ e

  pub broken-frozen : (a : ℕ) → after r (pointers 1) (map % 2) (drop at t) ≡ some (drop a t) → after r (pointers s.m) (map / 2 % 2) (drop a t) ≡ none
      → rest (read_fields r (fields s) map (drop at t)) ≡ none
  broken-frozen a d e =
      rest-fields r (pointers 1) _ map (drop at t) ∙ chain_some _ _ _ d ∙ rest-fields r (pointers s.m) _ (map / 2) (drop a t) ∙ chain-none _ _ e

  pub broken-indices : (a b : ℕ) → after r (pointers 1) (map % 2) (drop at t) ≡ some (drop a t)
      → after r (pointers s.m) (map / 2 % 2) (drop a t) ≡ some (drop b t)
      → after r (indices s.m) (map / 2 / 2 % 2) (drop b t) ≡ none
      → rest (read_fields r (fields s) map (drop at t)) ≡ none
  broken-indices a b d e f =
      rest-fields r (pointers 1) _ map (drop at t) ∙ chain_some _ _ _ d ∙ rest-fields r (pointers s.m) _ (map / 2) (drop a t) ∙ chain_some _ _ _ e
      ∙ rest-fields r (indices s.m) _ (map / 2 / 2) (drop b t) ∙ chain-none _ _ f

  pub broken-index : (a b c : ℕ) → after r (pointers 1) (map % 2) (drop at t) ≡ some (drop a t)
      → after r (pointers s.m) (map / 2 % 2) (drop a t) ≡ some (drop b t)
      → after r (indices s.m) (map / 2 / 2 % 2) (drop b t) ≡ some (drop c t)
      → after r (indices 1) (map / 2 / 2 / 2 % 2) (drop c t) ≡ none
      → rest (read_fields r (fields s) map (drop at t)) ≡ none
  broken-index a b c d e f g =
      rest-fields r (pointers 1) _ map (drop at t) ∙ chain_some _ _ _ d ∙ rest-fields r (pointers s.m) _ (map / 2) (drop a t) ∙ chain_some _ _ _ e
      ∙ rest-fields r (indices s.m) _ (map / 2 / 2) (drop b t) ∙ chain_some _ _ _ f
      ∙ rest-fields r (indices 1) _ (map / 2 / 2 / 2) (drop c t) ∙ chain-none _ _ g

  pub ended_left : (e : Ends) → Ended s r t at map e → rest (read_fields r (fields s) map (drop at t)) ≡ some (drop e.index t)
  ended_left e h =
      rest-fields r (pointers 1) _ map (drop at t) ∙ chain_some _ _ _ h.written
      ∙ rest-fields r (pointers s.m) _ (map / 2) (drop e.written t) ∙ chain_some _ _ _ h.frozen
      ∙ rest-fields r (indices s.m) _ (map / 2 / 2) (drop e.frozen t) ∙ chain_some _ _ _ h.indices
      ∙ rest-fields r (indices 1) _ (map / 2 / 2 / 2) (drop e.indices t) ∙ chain_some _ _ _ h.index
      ∙ rest_no_fields r (map / 2 / 2 / 2 / 2) (drop e.index t)

-- ---- fields whose pointers are tested

module _ (test : Pointer → Bool) (r : Reader Pointer) where
  after_loose : (f : Field) (bit : ℕ) (u v : List ℕ) → after (given test r) f bit u ≡ some v → after r f bit u ≡ some v
  after_loose f bit u v = go (eqb bit 1)
    where
      go : (b : Bool) → cond b (rest (read_content (given test r) f u)) (some u) ≡ some v → cond b (rest (read_content r f u)) (some u) ≡ some v
      go true h = (given-held (tested test r) (read_content r f) u v (sym (ap rest (content_tested test r f u)) ∙ h)).0
      go false h = h

  -- they end where they end without the test
  pub ended_loose : (s : Measures) (t : List ℕ) (at map : ℕ) (e : Ends) → Ended s (given test r) t at map e → Ended s r t at map e
  ended_loose s t at map e h =
      record {
        written = after_loose (pointers 1) (map % 2) (drop at t) (drop e.written t) h.written;
        frozen = after_loose (pointers s.m) (map / 2 % 2) (drop e.written t) (drop e.frozen t) h.frozen;
        indices = after_loose (indices s.m) (map / 2 / 2 % 2) (drop e.frozen t) (drop e.indices t) h.indices;
        index = after_loose (indices 1) (map / 2 / 2 / 2 % 2) (drop e.indices t) (drop e.index t) h.index;
        ordered = h.ordered;
      }

  -- and the test holds of all or not
  module _ (fs : List Field) (map : ℕ) (u : List ℕ) where
    pub fields-held : (v : List ℕ) → rest (read_fields (given test r) fs map u) ≡ some v → true ≡ holds (all_fields test) (read_fields r fs map u)
    fields-held v e = (given-held (all_fields test) (read_fields r fs map) u v (sym (ap rest (fields_tested test r fs map u)) ∙ e)).1

    pub fields_unheld : rest (read_fields (given test r) fs map u) ≡ none → false ≡ holds (all_fields test) (read_fields r fs map u)
    fields_unheld e = given_unheld (all_fields test) (read_fields r fs map) u (sym (ap rest (fields_tested test r fs map u)) ∙ e)

-- ---- records and rows

pub rest_record : (s : Measures) (b : ℕ) (v : List ℕ) → rest (read_record s (b ∷ v)) ≡ cond (ltb b 16) (rest (read_fields (read_pointer s) (fields s) b v)) none
unfolding read_record
rest_record s b v = rw (number_one b v) (go (ltb b 16))
  where
    go : (c : Bool)
        → rest (bind (check c b v) (λ map t. bind (read_fields (read_pointer s) (fields s) map t) (λ l u. some (record { value = l; rest = u }))))
        ≡ cond c (rest (read_fields (read_pointer s) (fields s) b v)) none
    go true = rest_make (λ l. l) (read_fields (read_pointer s) (fields s) b v)
    go false = refl

-- the first byte of a record that reads is its map
record_map : (s : Measures) (b : ℕ) (v : List ℕ) (r : Read (List (Option Content))) → Bytes (b ∷ v) → read_record s (b ∷ v) ≡ some r → map_of r.value ≡ b
unfolding write_record write_number
record_map s b v r h e =
    let x = (format_record s).only (b ∷ v) r h e in
    let l : map_of r.value < 16 = ltb-true (map_of r.value) 16 x.0.0.1 in
    let y : b ≡ map_of r.value % 256 = ap (λ (z : List ℕ). get_or z 0 0) x.1 in omega arith

abbrev read_front : Measures → Reader Row
read_front s = mapped as_row (given (λ l. eqb (map_of l) 0x0F) (read_record s))

module _ (s : Measures) (b : ℕ) (v : List ℕ) (h : Bytes (b ∷ v)) where
  by_map : (c : Bool) → eqb b 15 ≡ c → (o : Option (Read (List (Option Content)))) → read_record s (b ∷ v) ≡ o
      → rest (bind (bind o (λ a t. check (eqb (map_of a) 0x0F) a t)) (λ a t. some (record { value = as_row a; rest = t }))) ≡ cond c (rest o) none
  by_map true d none e = refl
  by_map false d none e = refl
  by_map true d (some r) e = rw (record_map s b v r h e) (rw d refl)
  by_map false d (some r) e = rw (record_map s b v r h e) (rw d refl)

  rest-front : rest (read_front s (b ∷ v)) ≡ cond (eqb b 15) (rest (read_record s (b ∷ v))) none
  rest-front = by_map (eqb b 15) refl (read_record s (b ∷ v)) refl

-- a row at a place of the table
module _ (s : Measures) (t : List ℕ) (h : Bytes t) (at : ℕ) (room : at + row_size s ≤ length t) where
  row_cons : drop at t ≡ get_or t at 0 ∷ drop (at + 1) t
  row_cons = let e : at + 1 ≡ suc at = omega arith in rw e (drop-cons t at 0 (omega arith))

  row_front : rest (read_front s (drop at t)) ≡ cond (eqb (get_or t at 0) 15) (rest (read_record s (get_or t at 0 ∷ drop (at + 1) t))) none
  row_front = rw row_cons (rest-front s (get_or t at 0) (drop (at + 1) t) (rw row_cons at (bytes_drop at t h)))

  pub row_other : (get_or t at 0 ≡ 15 → ⊥) → rest (read_row s (drop at t)) ≡ none
  unfolding read_row
  row_other d =
      none_area (row_size s) (read_front s) write_row (GoodRow s) (format_row_fields s) (row_fits s) (drop at t) (bytes_drop at t h)
      (row_front ∙ simp (ne_eqb (get_or t at 0) 15 d))

  row_fields_lem : get_or t at 0 ≡ 15 → rest (read_front s (drop at t)) ≡ rest (read_fields (read_pointer s) (fields s) 15 (drop (at + 1) t))
  row_fields_lem d =
      row_front ∙ simp (eq-eqb (get_or t at 0) 15 d)
      (rw d (rest_record s 15 (drop (at + 1) t)))

  pub row_broken : get_or t at 0 ≡ 15 → rest (read_fields (read_pointer s) (fields s) 15 (drop (at + 1) t)) ≡ none → rest (read_row s (drop at t)) ≡ none
  unfolding read_row
  row_broken d e =
      none_area (row_size s) (read_front s) write_row (GoodRow s) (format_row_fields s) (row_fits s) (drop at t) (bytes_drop at t h) (row_fields_lem d ∙ e)

  module _ (e : Ends) (d : get_or t at 0 ≡ 15) (p : Ended s (read_pointer s) t (at + 1) 15 e) where
    row_read : (x : Read Row) × (read_front s (drop at t) ≡ some x) × (x.rest ≡ drop e.index t)
    row_read = left_read (read_front s (drop at t)) (drop e.index t) (row_fields_lem d ∙ ended_left s (read_pointer s) t (at + 1) 15 e p)

    -- the fields end within the row
    pub row_ends : e.index ≤ at + row_size s
    row_ends =
        let x = row_read in
        let o = (format_row_fields s).only (drop at t) x.0 (bytes_drop at t h) x.1 in
        omega (
          arith,
          row_fits s x.0.value o.0,
          ap length o.1,
          length-append (write_row x.0.value) x.0.rest,
          ap length x.2,
          length-drop at t,
          length-drop e.index t,
          p.ordered,
        )

    row_left : rest (read_row s (drop at t))
        ≡ cond (all (λ b. eqb b 0) (take (at + row_size s - e.index) (drop e.index t))) (some (drop (at + row_size s) t)) none
    unfolding read_row
    row_left =
        let l : row_size s - (length (drop at t) - length (drop e.index t)) ≡ at + row_size s - e.index =
        omega (arith, length-drop at t, length-drop e.index t, row_ends, p.ordered)
        in
        let f : at + row_size s - e.index ≤ length (drop e.index t) = omega (arith, length-drop e.index t, row_ends) in
        let g : e.index + (at + row_size s - e.index) ≡ at + row_size s = omega (arith, row_ends) in
        rest_area (row_size s) (read_front s) write_row (GoodRow s) (format_row_fields s) (row_fits s) (drop at t) (bytes_drop at t h) (drop e.index t)
        (row_fields_lem d ∙ ended_left s (read_pointer s) t (at + 1) 15 e p)
        ∙ ap (λ (k : ℕ). rest (read_zeros k (drop e.index t))) l
        ∙ rest_zeros (at + row_size s - e.index) (drop e.index t) f
        ∙ ap (λ (z : List ℕ). cond (all (λ b. eqb b 0) (take (at + row_size s - e.index) (drop e.index t))) (some z) none)
        (drop-drop (at + row_size s - e.index) e.index t ∙ ap (λ (k : ℕ). drop k t) g)

    -- with what the test of its zeros says
    pub row_zeros : (size : ℕ) (z : Bool) → size ≡ row_size s → z ≡ all (λ b. eqb b 0) (take (at + size - e.index) (drop e.index t))
        → rest (read_row s (drop at t)) ≡ cond z (some (drop (at + row_size s) t)) none
    row_zeros size z k q =
        row_left
        ∙ ap (λ (x : Bool). cond x (some (drop (at + row_size s) t)) none)
        (ap (λ (k : ℕ). all (λ b. eqb b 0) (take (at + k - e.index) (drop e.index t))) (sym k) ∙ sym q)

-- ---- a record that is all of the bytes

module _ (s : Measures) (rule : Rule) (t : List ℕ) (at map : ℕ) (r : StdOption Ends) (p : Parted s rule t at map r) where
  pub parted_sound : (e : Ends) → r ≡ Some e → Ended s (pointer_by s rule) t at map e
  parted_sound e q = subst (Parted s rule t at map) q p

  pub parted_broken : r ≡ None → rest (read_fields (pointer_by s rule) (fields s) map (drop at t)) ≡ none
  parted_broken q = subst (Parted s rule t at map) q p

module _ (s : Measures) (own : ℕ) (t : List ℕ) (at map : ℕ) (r : StdOption Fields) (p : OwnParted s own t at map r) where
  pub own_parted_sound : (x : Fields) → r ≡ Some x → OwnParted s own t at map (Some x)
  own_parted_sound x q = subst (OwnParted s own t at map) q p

  pub own_parted_broken : r ≡ None → rest (read_fields (read_pointer s) (fields s) map (drop at t)) ≡ none
  own_parted_broken q = subst (OwnParted s own t at map) q p

whole-none : {A : Type 0} (r : Reader A) (u : List ℕ) → rest (r u) ≡ none → whole r u ≡ none
whole-none r u e = rw (none_read (r u) e) refl

whole_long : {A : Type 0} (r : Reader A) (u v : List ℕ) → rest (r u) ≡ some v → 0 < length v → whole r u ≡ none
whole_long r u v e h =
    let x = left_read (r u) v e in
    let n : length x.0.rest ≡ 0 → ⊥ = λ z. omega (arith, ap length x.2) in rw x.1 (simp (ne_eqb (length x.0.rest) 0 n))

pub record_none : (s : Measures) (t : List ℕ) → length t < 1 → record_verdict s t ≡ broken 11
unfolding record_verdict
record_none s [] h = refl
record_none s (b ∷ v) h = absurd (omega arith)

module _ (s : Measures) where
  verdict_cons : (b : ℕ) (v : List ℕ)
      → record_verdict s (b ∷ v) ≡ cond (ltb b 16) (by_length s (whole (read_fields read_any_pointer (fields s) b) v)) (broken 4)
  unfolding record_verdict
  verdict_cons b v = refl

  pub record_high : (t : List ℕ) → 1 ≤ length t → 16 ≤ get_or t 0 0 → record_verdict s t ≡ broken 4
  record_high [] l h = absurd (omega arith)
  record_high (b ∷ v) l h = verdict_cons b v ∙ simp (le-ltb b 16 h)

  record_walked : (t : List ℕ) → 1 ≤ length t → get_or t 0 0 < 16
      → record_verdict s t ≡ by_length s (whole (read_fields read_any_pointer (fields s) (get_or t 0 0)) (drop 1 t))
  record_walked [] l h = absurd (omega arith)
  record_walked (b ∷ v) l h = verdict_cons b v ∙ simp (lt-ltb b 16 h)

  module _ (t : List ℕ) (l : 1 ≤ length t) (h : get_or t 0 0 < 16) where
    pub record_short : rest (read_fields read_any_pointer (fields s) (get_or t 0 0) (drop 1 t)) ≡ none → record_verdict s t ≡ broken 11
    record_short e = record_walked t l h ∙ ap (by_length s) (whole-none (read_fields read_any_pointer (fields s) (get_or t 0 0)) (drop 1 t) e)

    -- where its fields end by their lengths
    module _ (e : Ends) (p : Ended s read_any_pointer t 1 (get_or t 0 0) e) where
      pub record_long : e.index < length t → record_verdict s t ≡ broken 11
      record_long d =
          record_walked t l h
          ∙ ap (by_length s)
          (whole_long (read_fields read_any_pointer (fields s) (get_or t 0 0)) (drop 1 t) (drop e.index t)
          (ended_left s read_any_pointer t 1 (get_or t 0 0) e p) (omega (arith, length-drop e.index t)))

      module _ (d : length t ≤ e.index) where
        walked : (r : Read (List (Option Content))) × (read_fields read_any_pointer (fields s) (get_or t 0 0) (drop 1 t) ≡ some r) × (r.rest ≡ drop e.index t)
        walked = left_read (read_fields read_any_pointer (fields s) (get_or t 0 0) (drop 1 t)) (drop e.index t) (ended_left s read_any_pointer t 1 (get_or t 0 0) e p)

        ruled_left : rest (read_fields (read_pointer s) (fields s) (get_or t 0 0) (drop 1 t)) ≡ cond (all_fields (proper_pointer s) walked.0.value) (some walked.0.rest) none
        ruled_left =
            ap rest (fields-proper s (fields s) (get_or t 0 0) (drop 1 t)
            ∙ ap (λ (o : Option (Read (List (Option Content)))). bind o (λ a u. check (all_fields (proper_pointer s) a) a u)) walked.1)
            ∙ rest-check (all_fields (proper_pointer s) walked.0.value) walked.0.value walked.0.rest

        pub record_rule : rest (read_fields (read_pointer s) (fields s) (get_or t 0 0) (drop 1 t)) ≡ none → record_verdict s t ≡ broken 12
        record_rule n =
            let z : length walked.0.rest ≡ 0 = omega (arith, ap length walked.2, length-drop e.index t) in
            record_walked t l h ∙ rw walked.1 (simp (eq-eqb (length walked.0.rest) 0 z) (go (all_fields (proper_pointer s) walked.0.value) (sym ruled_left ∙ n)))
          where
            go : (b : Bool) → cond b (some walked.0.rest) none ≡ none → cond b (sound walked.0.value) (broken 12) ≡ broken 12
            go true x = absurd (none≢some (sym x))
            go false x = refl

        pub record_ends : (f : Ends) → Ended s (read_pointer s) t 1 (get_or t 0 0) f → f.index ≡ length t
        record_ends f q = go (all_fields (proper_pointer s) walked.0.value) (sym ruled_left ∙ ended_left s (read_pointer s) t 1 (get_or t 0 0) f q)
          where
            go : (b : Bool) → cond b (some walked.0.rest) none ≡ some (drop f.index t) → f.index ≡ length t
            go true x =
                omega (arith, ap length (some_eq x), ap length walked.2, length-drop e.index t, length-drop f.index t, q.ordered)
            go false x = absurd (none≢some x)

        -- with what the walk by the rules answers
        pub record_by : (own : ℕ) (o : StdOption Fields) → OwnParted s own t 1 (get_or t 0 0) o → (r : Result Fields Refusal) → r ≡ ok_or o Refusal.Rule → Recorded s own t r
        record_by own None q r x = subst (Recorded s own t) (sym x) (record_rule q)
        record_by own (Some f) q r x = subst (Recorded s own t) (sym x) ((l, h, q.0, record_ends f.ends q.0), q.1)

-- ---- a row, and a table

-- the fields of a row that reads
pub row_bytes : (r : Row) → write_row r ≡ 15 ∷ write_fields (row_fields r)
unfolding write_record write_number map_of
row_bytes r = refl

pub record RowRead (s : Measures) (t : List ℕ) (at : ℕ) (v : Row) : Type 0 where
  pub good : GoodRow s v
  pub after : List ℕ
  pub read : read_fields (read_pointer s) (fields s) 15 (drop (at + 1) t) ≡ some (record { value = row_fields v; rest = after })

pub row_reads : (s : Measures) (t : List ℕ) (at : ℕ) (r : Read Row) → Bytes t → read_row s (drop at t) ≡ some r → RowRead s t at r.value
unfolding write_area map_of
row_reads s t at r b e =
    let v = r.value in
    let x = (format_row s).only (drop at t) r (bytes_drop at t b) e in
    let z = replicate {A = ℕ} (row_size s - length (write_row v)) 0 in
    let d : drop (at + 1) t ≡ write_fields (row_fields v) ++ (z ++ r.rest) =
    sym (drop-drop 1 at t) ∙ ap (drop 1) (x.1 ∙ append_assoc (write_row v) z r.rest ∙ ap (λ (l : List ℕ). l ++ (z ++ r.rest)) (row_bytes v))
    in
    record {
      good = x.0.0.0;
      after = z ++ r.rest;
      read = ap (read_fields (read_pointer s) (fields s) 15) d ∙ (format_fields s (fields s) 15).back (row_fields v) x.0.0.0.0.1 (z ++ r.rest);
    }

-- the pointers of a row are its fields'
pub row_holds : (s : Measures) (own : ℕ) (t : List ℕ) (at : ℕ) (v : List ℕ) → Bytes t → rest (read_row s (drop at t)) ≡ some v
    → holds (own_fields own) (read_fields (read_pointer s) (fields s) 15 (drop (at + 1) t)) ≡ holds (own_row own) (read_row s (drop at t))
row_holds s own t at v b e =
    let x = left_read (read_row s (drop at t)) v e in
    ap (holds (own_fields own)) (row_reads s t at x.0 b x.1).read
    ∙ row_pointers (own_pointer own) x.0.value
    ∙ sym (ap (holds (own_row own)) x.1)

module _ (s : Measures) (own : ℕ) (t : List ℕ) (at : ℕ) (r : StdOption Bool) (h : Rowed s own t at r) where
  pub rowed_sound : (owned : Bool) → r ≡ Some owned → Rowed s own t at (Some owned)
  rowed_sound owned q = subst (Rowed s own t at) q h

  pub rowed_broken : r ≡ None → rest (read_row s (drop at t)) ≡ none
  rowed_broken q = ap rest (subst (Rowed s own t at) q h)

-- one row more of a table, of which i are read; the end
module _ (s : Measures) (i : ℕ) (u : List ℕ) where
  pub held_turn : i < s.m → (v : List ℕ) → rest (read_row s u) ≡ some v
      → holds (own_rows i) (read_many (read_row s) (s.m - i) u) ≡ (holds (own_row i) (read_row s u) && holds (own_rows (i + 1)) (read_many (read_row s) (s.m - (i + 1)) v))
  unfolding read_many own_rows
  held_turn l v e =
      let d : s.m - i ≡ suc (s.m - (i + 1)) = omega arith in
      let x = left_read (read_row s u) v e in
      rw (d, x.1, x.2) (go x.0.value (read_many (read_row s) (s.m - (i + 1)) v))
    where
      next : suc i ≡ i + 1
      next = omega arith

      go : (r : Row) (o : Option (Read (List Row)))
          → holds (own_rows i) (bind o (λ l w. some (record { value = r ∷ l; rest = w }))) ≡ (own_row i r && holds (own_rows (i + 1)) o)
      go r none = sym (and_none (own_row i r))
      go r (some y) = ap (λ (k : ℕ). own_row i r && own_rows k y.value) next

  pub held_end : s.m ≤ i → holds (own_rows i) (read_many (read_row s) (s.m - i) u) ≡ true
  unfolding read_many own_rows
  held_end h = let d : s.m - i ≡ 0 = omega arith in rw d refl

module _ (s : Measures) (t : List ℕ) (r : StdOption Bool) (h : Tabled s t r) where
  pub tabled_sound : (all : Bool) → r ≡ Some all → Tabled s t (Some all)
  tabled_sound all q = subst (Tabled s t) q h

  pub tabled_broken : r ≡ None → read_directory s t ≡ none
  tabled_broken q = subst (Tabled s t) q h

module _ (s : Measures) (t : List ℕ) (r : Result (Unit {0}) Refusal) (h : Judged s t r) where
  pub judged_sound : (x : Unit {0}) → r ≡ Ok x → Judged s t (Ok x)
  judged_sound x q = subst (Judged s t) q h

  pub judged_broken : (n : Refusal) → r ≡ Err n → rows_verdict s t ≡ broken (number n)
  judged_broken n q = subst (Judged s t) q h

-- rows that read
module _ (s : Measures) (t v : List ℕ) (e : rest (read_directory s t) ≡ some v) where
  -- their owners' all
  pub rows-sound : true ≡ holds (own_rows 0) (read_directory s t) → (r : Read (List Row)) × (read_directory s t ≡ some r) × (rows_verdict s t ≡ sound r)
  rows-sound o =
      let x = left_read (read_directory s t) v e in
      let q : own_rows 0 x.0.value ≡ true = sym (o ∙ ap (holds (own_rows 0)) x.1) in
      (x.0, x.1, owner_verdict (read_directory s t) x.0 true x.1 q)

  -- or not
  pub rows_foreign : false ≡ holds (own_rows 0) (read_directory s t) → rows_verdict s t ≡ broken 14
  rows_foreign o =
      let x = left_read (read_directory s t) v e in
      let q : own_rows 0 x.0.value ≡ false = sym (o ∙ ap (holds (own_rows 0)) x.1) in
      owner_verdict (read_directory s t) x.0 false x.1 q
