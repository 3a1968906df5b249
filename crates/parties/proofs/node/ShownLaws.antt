-- What a table of form shows, and that its bytes are those of what it shows.
use mathlib.Core.Path.{◌≡◌, sym, ap, ◌∙◌}
use mathlib.Core.Bool.{Bool, true, cond}
use mathlib.Core.List.{List, [], ◌∷◌, ◌++◌}
use mathlib.Core.Option.{some, none}
use Prim.Native.Nat.{ℕ, ◌+◌, ◌-◌, ◌*◌, ◌≤◌}
use borrow.Author.Tests.{leb-true}
use lib.Dec.{leb, ltb}
use lib.ListN.{length, take, drop}
use lib.Seq.{take_at, get_or-drop}
use Rattle.coding.specs.Bytes.{Bytes}
use Rattle.coding.proofs.Cases.{and-true}
use Rattle.parties.specs.declared.Measures.{Measures}
use Rattle.parties.specs.protocol.Format.{write_many}
use Rattle.parties.specs.protocol.Measures.{places, place_size}
use Rattle.parties.specs.protocol.Version as version
use Rattle.parties.specs.protocol.Pointer.{write_version}
use Rattle.parties.specs.protocol.NodeTable.{Held, read_held, write_held, in_order, read_table, write_table}
use Rattle.parties.proofs.protocol.formats.FormatLaws.{Each, length_area, length-same, format_area}
use Rattle.parties.proofs.protocol.formats.PointerLaws.{format_version, length-version}
use Rattle.parties.proofs.protocol.formats.NodeTableLaws.{FitsPlace, GoodHeld, GoodTable, format_held, format_table}
use Rattle.parties.specs.records.Places.{number_at, version_at, length_at, held_at, held_from, zero_run, sound_at, sound_from, sound_table, every, place_of}
use Rattle.parties.proofs.records.PlaceLaws.{read-version, place_read}
use Rattle.parties.proofs.node.TableLaws.{sound-ordered, table-read}

pub bytes_drop : (t : List ℕ) (n : ℕ) → Bytes t → Bytes (drop n t)
bytes_drop t n b i = rw (get_or-drop n t i 0) (b (n + i))

-- the bytes of a version are the version's
pub version-bytes : (t : List ℕ) (at : ℕ) → Bytes t → at + 5 ≤ length t → take 5 (drop at t) ≡ write_version (version_at t at)
version-bytes t at b h =
    let x = format_version.only (drop at t) _ (bytes_drop t at b) (read-version t at h) in
    ap (take 5) x.1 ∙ take_at (write_version (version_at t at)) (drop (at + 5) t) 5 (length-version (version_at t at))

pub each_left : {A : Type 0} (g : A → Type 0) (a b : List A) → Each g (a ++ b) → Each g a
each_left g [] b e = tt
each_left g (x ∷ a) b e = (e.0, each_left g a b e.1)

pub each_right : {A : Type 0} (g : A → Type 0) (a b : List A) → Each g (a ++ b) → Each g b
each_right g [] b e = e
each_right g (x ∷ a) b e = each_right g a b e.1

-- places have one size
pub place_size_lem : (s : Measures) (h : Held) → FitsPlace s h → length (place_of s h) ≡ place_size s
place_size_lem s h f = length_area (place_size s) write_held h (leb-true (length (write_held h)) (place_size s) f.1)

pub places-size : (s : Measures) (l : List Held) → Each (FitsPlace s) l → length (write_many (place_of s) l) ≡ length l * place_size s
places-size s l e = length-same (place_of s) (FitsPlace s) (place_size s) (place_size_lem s) l e

-- the bytes of a place of form are those of what it shows
module _ (s : Measures) (t : List ℕ) (at : ℕ) (b : Bytes t) (h : at + place_size s ≤ length t) (q : sound_at s t at ≡ true) where
  place_only : FitsPlace s (held_at t at) × (drop at t ≡ place_of s (held_at t at) ++ drop (at + place_size s) t)
  place_only =
      (format_area (place_size s) (read_held s) write_held (GoodHeld s) (format_held s)).only (drop at t) _ (bytes_drop t at b)
      (place_read s t at h ∙ ap (λ (c : Bool). cond c (some (record { value = held_at t at; rest = drop (at + place_size s) t })) none) q)

  pub place_fits : FitsPlace s (held_at t at)
  place_fits = place_only.0

  pub place_bytes : take (place_size s) (drop at t) ≡ place_of s (held_at t at)
  place_bytes = ap (take (place_size s)) place_only.1 ∙ take_at (place_of s (held_at t at)) (drop (at + place_size s) t) (place_size s) (place_size_lem s (held_at t at) place_fits)

-- its piece is no longer than F
pub place_short : (s : Measures) (t : List ℕ) (at : ℕ) → sound_at s t at ≡ true → length_at t at ≤ s.f
unfolding sound_at
place_short s t at q =
    let a = (and-true _ (zero_run t (at + 7 + length_at t at) (s.f - length_at t at)) q).0 in
    let b = (and-true (leb 1 (version_at t at).sequence.0) _ a).1 in
    let c = (and-true (ltb (version_at t at).client s.m) _ b).1 in
    leb-true (length_at t at) s.f (and-true (leb 1 (length_at t at)) _ c).1

-- a table of form
module _ (s : Measures) (t : List ℕ) (h : 2 + places s * place_size s ≤ length t) (q : sound_table s t ≡ true) where
  pub table-shown : read_table s t ≡ some (record { value = held_from (place_size s) t 2 (number_at t 0); rest = drop (2 + places s * place_size s) t })
  table-shown =
      table-read s t h
      ∙ ap (λ (c : Bool). cond c (some (record { value = held_from (place_size s) t 2 (number_at t 0); rest = drop (2 + places s * place_size s) t })) none) q

  pub table-few : number_at t 0 ≤ places s
  unfolding sound_table
  table-few = leb-true (number_at t 0) (places s) (and-true (leb (number_at t 0) (places s)) _ q).0

  table-from : sound_from s t version.no_version 2 (number_at t 0) ≡ true
  unfolding sound_table
  table-from = (and-true (sound_from s t version.no_version 2 (number_at t 0)) _ (and-true (leb (number_at t 0) (places s)) _ q).1).0

  pub table-each : every (sound_at s t) (place_size s) 2 (number_at t 0) ≡ true
  table-each = (and-true (every (sound_at s t) (place_size s) 2 (number_at t 0)) _ (sym (sound-ordered s t 2 (number_at t 0)) ∙ table-from)).0

  pub table-order : in_order (held_from (place_size s) t 2 (number_at t 0)) ≡ true
  table-order = (and-true (every (sound_at s t) (place_size s) 2 (number_at t 0)) _ (sym (sound-ordered s t 2 (number_at t 0)) ∙ table-from)).1

  module _ (b : Bytes t) where
    pub table_good : GoodTable s (held_from (place_size s) t 2 (number_at t 0))
    table_good = ((format_table s).only t _ b table-shown).0

    pub table-bytes : t ≡ write_table s (held_from (place_size s) t 2 (number_at t 0)) ++ drop (2 + places s * place_size s) t
    table-bytes = ((format_table s).only t _ b table-shown).1
