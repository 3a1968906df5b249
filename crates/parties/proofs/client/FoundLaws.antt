-- What a step finds in a client's area, of bytes that read and of a record that is shown.
use mathlib.Core.Path.{◌≡◌, sym, ap, subst, ◌∙◌}
use mathlib.Core.Bool.{true, false, not}
use mathlib.Core.List.{List, ◌++◌}
use mathlib.Core.Option.{some}
use Prim.Native.Nat.{ℕ, ◌+◌, ◌-◌}
use borrow.Author.Tests.{not-true}
use lib.ListN.{length, drop, replicate}
use lib.Seq.{drop_at, drop-drop}
use Rattle.coding.specs.Bytes.{Bytes}
use Rattle.parties.specs.declared.Measures.{Measures}
use Rattle.parties.specs.protocol.Format.{Read, write_area}
use Rattle.parties.specs.protocol.Measures.{passes, pointer_size}
use Rattle.parties.specs.protocol.Pointer.{Pointer, is_none, read_pointer, write_pointer}
use Rattle.parties.specs.protocol.Client.{Client, retained, read_retained, write_retained, read_some, write_work, work_size}
use Rattle.parties.proofs.protocol.formats.PointerLaws.{GoodPointer, format_pointer, some_length}
use Rattle.parties.proofs.protocol.formats.ClientLaws.{keeper, retained-back, retained_only, length_retained, format_some}
use Rattle.parties.specs.declared.Phase.{Phase}
use Rattle.parties.specs.client.Record.{work_at, is_some}
use Rattle.parties.specs.client.Found.{retained_of, retained_in, pointer_of, pointer_in}
use Rattle.parties.proofs.records.RecordLaws.{bytes_drop}
use Rattle.parties.proofs.client.GateLaws.{some_value}
use Rattle.parties.proofs.client.AreaLaws.{ShownClient, Retains, work_front}

-- what an area retains that reads
pub kept : (s : Measures) (area : List ℕ) → Bytes area → is_some (read_retained s area) ≡ true
    → Retains s area (keeper (retained_in s area)) (drop (work_at s) area)
unfolding retained_in
kept s area b o =
    let r = some_value (read_retained s area) o in
    let x = retained_only s area r.0 b r.1 in
    let v : retained_of (read_retained s area) ≡ r.0.value = ap retained_of r.1 in
    let l = length_retained s (keeper r.0.value) x.0 in
    rw v
    (record {
      good = x.0;
      parts = x.1 ∙ ap (λ (t : List ℕ). write_retained s r.0.value ++ t) (sym (ap (drop (work_at s)) x.1 ∙ drop_at (write_retained s r.0.value) r.0.rest (work_at s) l));
    })

-- of a record that is shown
module _ (s : Measures) (h : passes s ≡ true) (p : Phase) (area : List ℕ) (c : Client) (rest : List ℕ) (x : ShownClient s p area c rest) where
  kept_read : read_retained s area ≡ some (record { value = retained c; rest = write_area (work_size s) (write_work s) c.phase ++ rest })
  kept_read = ap (read_retained s) x.parts ∙ retained-back s c x.good (write_area (work_size s) (write_work s) c.phase ++ rest)

  pub kept-reads : is_some (read_retained s area) ≡ true
  kept-reads = ap is_some kept_read

  pub kept_is : retained_in s area ≡ retained c
  unfolding retained_in
  kept_is = ap retained_of kept_read

  module _ (q : Pointer) (e : write_work s c.phase ≡ write_pointer q) (g : GoodPointer s q) (n : is_none q ≡ false) where
    abbrev behind : List ℕ
    behind = replicate (work_size s - length (write_work s c.phase)) 0 ++ rest

    there : drop (work_at s) area ≡ write_pointer q ++ behind
    there = work_front s h p area c rest x ∙ ap (λ (w : List ℕ). w ++ behind) e

    pub pointer-reads : is_some (read_some s (drop (work_at s) area)) ≡ true
    pointer-reads = ap (λ (t : List ℕ). is_some (read_some s t)) there ∙ ap is_some ((format_some s).back q (g, ap not n) behind)

    pub pointer_is : pointer_in s area ≡ q
    unfolding pointer_in
    pointer_is = ap (λ (t : List ℕ). pointer_of (read_pointer s t)) there ∙ ap pointer_of ((format_pointer s).back q g behind)

-- a pointer other than none at the front of the work
module _ (s : Measures) (area : List ℕ) (b : Bytes area) (o : is_some (read_some s (drop (work_at s) area)) ≡ true) where
  abbrev found : Read Pointer
  found = (some_value (read_some s (drop (work_at s) area)) o).0

  only : ((GoodPointer s found.value) × (not (is_none found.value) ≡ true)) × (drop (work_at s) area ≡ write_pointer found.value ++ found.rest)
  only = (format_some s).only (drop (work_at s) area) found (bytes_drop (work_at s) area b) (some_value (read_some s (drop (work_at s) area)) o).1

  found_is : pointer_in s area ≡ found.value
  unfolding pointer_in
  found_is = ap (λ (t : List ℕ). pointer_of (read_pointer s t)) only.1 ∙ ap pointer_of ((format_pointer s).back found.value only.0.0 found.rest)

  pointer_good : GoodPointer s (pointer_in s area)
  pointer_good = subst (GoodPointer s) (sym found_is) only.0.0

  pointer_some : is_none (pointer_in s area) ≡ false
  pointer_some = ap is_none found_is ∙ not-true (is_none found.value) only.0.1

  pub pointer-length : length (write_pointer (pointer_in s area)) ≡ pointer_size s
  pointer-length = some_length s (pointer_in s area) pointer_good pointer_some

  pub pointer-there : drop (work_at s) area ≡ write_pointer (pointer_in s area) ++ drop (work_at s + pointer_size s) area
  pointer-there =
      let w = write_pointer (pointer_in s area) in
      let e : drop (work_at s) area ≡ w ++ found.rest = only.1 ∙ ap (λ (q : Pointer). write_pointer q ++ found.rest) (sym found_is) in
      e
      ∙ ap (λ (t : List ℕ). w ++ t)
      (sym (drop_at w found.rest (pointer_size s) pointer-length) ∙ ap (drop (pointer_size s)) (sym e) ∙ drop-drop (pointer_size s) (work_at s) area)
