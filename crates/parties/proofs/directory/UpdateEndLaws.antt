-- A sound record over a sound row of a sound table, and how the update ends.
use mathlib.Core.Path.{◌≡◌, refl, sym, ap, ap₂, subst, ◌∙◌}
use mathlib.Core.Bool.{Bool, true, false, cond, ◌&&◌}
use mathlib.Core.List.{List, [], ◌∷◌, ◌++◌}
use mathlib.Core.Option.{Option, some, none}
use Prim.Native.Nat.{ℕ, ◌+◌, ◌*◌, ◌<◌, ◌≤◌}
use native.Mathlib.Omega.{arith}
use borrow.Author.Tests.{eq-eqb, leb-true, le-leb, lt-leb, lt-ltb, le-ltb}
use lib.ListN.{length, take, drop, get_or, set, length-drop}
use lib.Seq.{take_all, paste}
use Rattle.std.specs.Prelude.{Result, Ok, Err}
use Rattle.coding.specs.Bytes.{Bytes}
use Rattle.coding.proofs.PageLaws.{none≢some, some_eq}
use Rattle.parties.specs.declared.Measures.{Measures}
use Rattle.parties.specs.protocol.Format.{Read, whole, write_area}
use Rattle.parties.specs.protocol.Measures.{passes, row_size}
use Rattle.parties.specs.protocol.Answer.{refuses, serves}
use Rattle.parties.specs.protocol.Pointer.{read_pointer}
use Rattle.parties.specs.protocol.Directory.{Content, fields, read_fields, read_record}
use Rattle.parties.specs.protocol.Directory.{Row, no_row, write_row, read_row, read_directory, write_directory, update_row}
use Rattle.parties.specs.protocol.Owner.{own_fields, own_rows}
use Rattle.parties.specs.protocol.Verdict.{broken, record_verdict}
use Rattle.parties.specs.protocol.DirectoryEvents.{DirectoryEnd, directory_size, on_table, directory_update}
use Rattle.parties.proofs.protocol.formats.FormatLaws.{number_one, length_area}
use Rattle.parties.proofs.protocol.formats.EachLaws.{each_at}
use Rattle.parties.proofs.protocol.formats.DirectoryLaws.{GoodRecord, format_record}
use Rattle.parties.proofs.protocol.formats.VerdictLaws.{as_before}
use Rattle.parties.proofs.protocol.formats.RowLaws.{GoodRow, FitsRow, format_row, format_directory, update_good, row_fits}
use Rattle.parties.specs.declared.records.form.Ends.{Ends}
use Rattle.parties.specs.declared.records.form.Fields.{Fields}
use Rattle.parties.specs.declared.Refusal.{Refusal}
use Rattle.parties.specs.records.Answer.{number}
use Rattle.parties.specs.records.Form.{rest, Ended, holds, Walked, Recorded}
use Rattle.parties.specs.directory.Room.{longest_row, Built, renewed, Renewed}
use Rattle.parties.proofs.records.FormLaws.{left_read}
use Rattle.parties.proofs.records.RecordLaws.{ended_left, row_reads}
use Rattle.parties.proofs.records.SizeLaws.{row_bound}
use Rattle.parties.proofs.records.SpliceLaws.{many_at, many-set}
use Rattle.parties.proofs.directory.RoomLaws.{built_area}
use Rattle.parties.proofs.directory.UpdateLaws.{ShownRecord, shown, renewed_row}

-- ---- the record

module _ (s : Measures) (own : ℕ) (t : List ℕ) (r : Result Fields Refusal) (h : Recorded s own t r) where
  pub recorded_sound : (x : Fields) → r ≡ Ok x → Recorded s own t (Ok x)
  recorded_sound x q = subst (Recorded s own t) q h

  pub recorded_broken : (n : Refusal) → r ≡ Err n → record_verdict s t ≡ broken (number n)
  recorded_broken n q = subst (Recorded s own t) q h

record_reads : (s : Measures) (t : List ℕ) (r : Read (List (Option Content))) → 0 < length t → get_or t 0 0 < 16
    → read_fields (read_pointer s) (fields s) (get_or t 0 0) (drop 1 t) ≡ some r → read_record s t ≡ some r
unfolding read_record
record_reads s [] r l h e = absurd (omega arith)
record_reads s (b ∷ v) r l h e = rw (number_one b v) (simp (lt-ltb b 16 h) (rw e refl))

-- what a sound record says
pub record Says (s : Measures) (t : List ℕ) (e : Ends) : Type 0 where
  pub update : List (Option Content)
  pub read : whole (read_record s) t ≡ some update
  pub good : GoodRecord s update
  pub shown : ShownRecord t 1 (get_or t 0 0) e update
  pub held : (test : List (Option Content) → Bool) → holds test (read_fields (read_pointer s) (fields s) (get_or t 0 0) (drop 1 t)) ≡ test update

pub says : (s : Measures) (t : List ℕ) (e : Ends) → Bytes t → Walked s t e → Says s t e
says s t e b h =
    let x = left_read (read_fields (read_pointer s) (fields s) (get_or t 0 0) (drop 1 t)) (drop e.index t) (ended_left s (read_pointer s) t 1 (get_or t 0 0) e h.2) in
    let r = x.0 in
    let y : read_record s t ≡ some r = record_reads s t r h.0 h.1 x.1 in
    let z : length r.rest ≡ 0 = omega (arith, ap length x.2, length-drop e.index t, h.3) in
    record {
      update = r.value;
      read = rw y (simp (eq-eqb (length r.rest) 0 z));
      good = ((format_record s).only t r b y).0;
      shown = shown s t 1 (get_or t 0 0) e r b h.2 x.1;
      held = λ test. ap (holds test) x.1;
    }

-- ---- the row

-- a row that reads has sound fields
pub row_fields_sound : (s : Measures) (t : List ℕ) (at : ℕ) (r : Read Row) → Bytes t → read_row s (drop at t) ≡ some r
    → rest (read_fields (read_pointer s) (fields s) 15 (drop (at + 1) t)) ≡ none → ⊥
row_fields_sound s t at r b e n = let x = row_reads s t at r b e in none≢some (sym n ∙ ap rest x.read)

-- ---- the row put together anew

module _ (s : Measures) (p : passes s ≡ true) (record-bytes table : List ℕ) (at : ℕ) (e f : Ends) (a : Bytes record-bytes) (b : Bytes table)
    (sound : Walked s record-bytes e) (ended : Ended s (read_pointer s) table (at + 1) 15 f) where
  renews : (r : Read Row) → read_row s (drop at table) ≡ some r
      → let u = (says s record-bytes e a sound).update in
      (renewed (get_or record-bytes 0 0) record-bytes e table at f ≡ write_row (update_row u r.value)) × GoodRow s (update_row u r.value)
  renews r q =
      let u = says s record-bytes e a sound in
      let x = row_reads s table at r b q in (
        renewed_row s u.update r.value record-bytes table at (get_or record-bytes 0 0) e f u.shown
            (shown s table (at + 1) 15 f _ b ended x.read) u.good x.good,
        update_good s u.update r.value u.good x.good,
      )

  pub renewed-fits : (v : List ℕ) → rest (read_row s (drop at table)) ≡ some v → length (renewed (get_or record-bytes 0 0) record-bytes e table at f) ≤ longest_row
  renewed-fits v h =
      let x = left_read (read_row s (drop at table)) v h in
      let y = renews x.0 x.1 in
      omega (arith, ap length y.0, row_fits s _ y.1, row_bound s p)

  pub renewed_end : (room : List ℕ) → Built (renewed (get_or record-bytes 0 0) record-bytes e table at f) room → (size : ℕ) → size ≡ row_size s
      → Renewed s at record-bytes table (paste table at room size)
  unfolding write_area
  renewed_end room h size z u r d q =
      let x = says s record-bytes e a sound in
      let y = renews (record { value = r; rest = drop (at + row_size s) table }) q in
      let same : x.update ≡ u = some_eq (sym x.read ∙ d) in
      let w = write_row (update_row x.update r) in
      let fits : length w ≤ row_size s = row_fits s (update_row x.update r) y.1 in
      let l : length (write_area (row_size s) write_row (update_row x.update r)) ≡ row_size s = length_area (row_size s) write_row (update_row x.update r) fits in
      let g : take (row_size s) room ≡ take (row_size s) (write_area (row_size s) write_row (update_row x.update r)) =
      built_area w room (subst (λ (k : List ℕ). Built k room) y.0 h) (row_size s) fits (row_bound s p)
      ∙ sym (take_all (row_size s) (write_area (row_size s) write_row (update_row x.update r)) (omega arith))
      in
      ap (λ (k : ℕ). paste table at room k) z
      ∙ ap (λ (k : List ℕ). (take at table ++ k) ++ drop (at + row_size s) table) g
      ∙ ap (λ (k : List (Option Content)). paste table at (write_area (row_size s) write_row (update_row k r)) (row_size s)) same

-- ---- the table

module _ (s : Measures) (table : List ℕ) (b : Bytes table) (own : ℕ) (o : own < s.m) (r : Read (List Row)) (q : read_directory s table ≡ some r) where
  size_row : (v : Row) → FitsRow s v → length (write_area (row_size s) write_row v) ≡ row_size s
  size_row v h = length_area (row_size s) write_row v (leb-true (length (write_row v)) (row_size s) h.1)

  -- the client's row reads
  pub own_row_lem : read_row s (drop (own * row_size s) table) ≡ some (record { value = get_or r.value own no_row; rest = drop (own * row_size s + row_size s) table })
  unfolding write_directory
  own_row_lem =
      let x = (format_directory s).only table r b q in
      let n : own < length r.value = omega (arith, x.0.1) in
      let e = ap (drop (own * row_size s)) x.1
      ∙ many_at (write_area (row_size s) write_row) (FitsRow s) (row_size s) size_row r.rest no_row r.value own x.0.0 n
      ∙ ap (λ (y : List ℕ). write_area (row_size s) write_row (get_or r.value own no_row) ++ drop (own * row_size s + row_size s) y) (sym x.1)
      in
      ap (read_row s) e
      ∙ (format_row s).back (get_or r.value own no_row) (each_at (FitsRow s) no_row r.value x.0.0 own n) (drop (own * row_size s + row_size s) table)

  -- and another row in its stead
  own_set : (v : Row) → FitsRow s v → write_directory s (set r.value own v) ++ r.rest
      ≡ paste table (own * row_size s) (write_area (row_size s) write_row v) (row_size s)
  unfolding write_directory
  own_set v h =
      let x = (format_directory s).only table r b q in
      let n : own < length r.value = omega (arith, x.0.1) in
      many-set (write_area (row_size s) write_row) (FitsRow s) (row_size s) size_row r.rest no_row r.value own v x.0.0 n
      ∙ ap₂ (λ (y z : List ℕ). (take (own * row_size s) y ++ z) ++ drop (own * row_size s + row_size s) y) (sym x.1)
      (sym (take_all (row_size s) (write_area (row_size s) write_row v) (omega (arith, size_row v h))))

-- ---- how the event ends

module _ (s : Measures) (own : ℕ) (table record-bytes : List ℕ) where
  pub update-measures : passes s ≡ false → directory_update s own table record-bytes ≡ record { answer = refuses 1; table = table; room = [] }
  unfolding directory_update
  update-measures p = simp p

  module _ (p : passes s ≡ true) where
    pub update-short : length table < directory_size s → directory_update s own table record-bytes ≡ record { answer = refuses 2; table = table; room = [] }
    unfolding directory_update
    update-short h = simp (p, lt-leb (directory_size s) (length table) h)

    module _ (h : directory_size s ≤ length table) where
      pub update-number : s.m ≤ own → directory_update s own table record-bytes ≡ record { answer = refuses 3; table = table; room = [] }
      unfolding directory_update
      update-number o = simp (p, le-leb (directory_size s) (length table) h, le-ltb own s.m o)

      module _ (o : own < s.m) where
        update-reads : directory_update s own table record-bytes ≡ on_table s own table (read_directory s table) (record_verdict s record-bytes)
        unfolding directory_update
        update-reads = simp (p, le-leb (directory_size s) (length table) h, lt-ltb own s.m o)

        pub update-broken-table : read_directory s table ≡ none
            → directory_update s own table record-bytes ≡ record { answer = refuses 4; table = table; room = [] }
        update-broken-table e = update-reads ∙ ap (λ (x : Option (Read (List Row))). on_table s own table x (record_verdict s record-bytes)) e

        pub update_broken_record : (v : List ℕ) → rest (read_directory s table) ≡ some v → (n : ℕ) → record_verdict s record-bytes ≡ broken n
            → directory_update s own table record-bytes ≡ record { answer = refuses n; table = table; room = [] }
        update_broken_record v e n d =
            update-reads ∙ ap₂ (on_table s own table) (left_read (read_directory s table) v e).1 d

        -- the row put in, or 14
        abbrev puts : Read (List Row) → List (Option Content) → DirectoryEnd
        puts r u =
            record {
              answer = serves 0;
              table = write_directory s (set r.value own (update_row u (get_or r.value own no_row))) ++ r.rest;
              room = [];
            }

        abbrev foreign : DirectoryEnd
        foreign = record { answer = refuses 14; table = table; room = [] }

        -- by whether all pointers of the table and of a sound record are their owners'
        module _ (all : Bool) (v : List ℕ) (d : rest (read_directory s table) ≡ some v) (q : all ≡ holds (own_rows 0) (read_directory s table))
            (a : Bytes record-bytes) (x : Fields) (recorded : Recorded s own record-bytes (Ok x)) where
          update_judged : directory_update s own table record-bytes
              ≡ cond (all && x.owned) (puts (left_read (read_directory s table) v d).0 (says s record-bytes x.ends a recorded.0).update) foreign
          update_judged =
              let y = left_read (read_directory s table) v d in
              let u = says s record-bytes x.ends a recorded.0 in
              update-reads ∙ ap₂ (on_table s own table) y.1 ((as_before s record-bytes).conversely u.update u.read)
              ∙ ap₂ (λ (f g : Bool). cond (f && g) (puts y.0 u.update) foreign)
              (sym (q ∙ ap (holds (own_rows 0)) y.1)) (sym (recorded.1 ∙ u.held (own_fields own)))

          pub update_foreign : (all && x.owned) ≡ false → directory_update s own table record-bytes ≡ foreign
          update_foreign f =
              update_judged
              ∙ ap (λ (b : Bool). cond b (puts (left_read (read_directory s table) v d).0 (says s record-bytes x.ends a recorded.0).update) foreign) f

        pub update-done : (all : Bool) (v : List ℕ) → rest (read_directory s table) ≡ some v → all ≡ holds (own_rows 0) (read_directory s table)
            → Bytes table → Bytes record-bytes → (f : Fields) → Recorded s own record-bytes (Ok f) → (all && f.owned) ≡ true
            → (end : List ℕ) → Renewed s (own * row_size s) record-bytes table end
            → directory_update s own table record-bytes ≡ record { answer = serves 0; table = end; room = [] }
        update-done all v d q b a f recorded both end renew =
            let x = left_read (read_directory s table) v d in
            let r = x.0 in
            let u = says s record-bytes f.ends a recorded.0 in
            let y = (format_directory s).only table r b x.1 in
            let n : own < length r.value = omega (arith, y.0.1) in
            let row = get_or r.value own no_row in
            let new = update_row u.update row in
            let good : GoodRow s new = update_good s u.update row u.good (each_at (FitsRow s) no_row r.value y.0.0 own n).0.0 in
            let fits : FitsRow s new = ((good, tt), le-leb (length (write_row new)) (row_size s) (row_fits s new good)) in
            update_judged all v d q a f recorded
            ∙ ap (λ (k : Bool). cond k (puts r u.update) foreign) both
            ∙ ap (λ (y : List ℕ). record { answer = serves 0; table = y; room = [] })
            (own_set s table b own o r x.1 new fits ∙ sym (renew u.update row u.read (own_row_lem s table b own o r x.1)))

-- the form of the client's row
pub own_row_left : (s : Measures) (table : List ℕ) → Bytes table → (own : ℕ) → own < s.m → (v : List ℕ) → rest (read_directory s table) ≡ some v
    → rest (read_row s (drop (own * row_size s) table)) ≡ some (drop (own * row_size s + row_size s) table)
own_row_left s table b own o v e =
    let x = left_read (read_directory s table) v e in ap rest (own_row_lem s table b own o x.0 x.1)
