-- Form tests that say why, as document 02, (g) and (k), has it.
use Rattle.std.specs.Prelude.{◌≡◌, true, cond, ◌||◌, List, [], ◌∷◌, ℕ, eqb}
use Rattle.std.proofs.Math.Option.{Option, some, none}
use Rattle.parties.specs.declared.Measures.{Measures}
use Rattle.parties.specs.protocol.Format.{Read, whole}
use Rattle.parties.specs.protocol.Pointer.{proper_pointer, read_any_pointer}
use Rattle.parties.specs.protocol.Directory.{Content, fields, proper_map, read_fields, read_record, all_fields, Row, read_directory}
use Rattle.parties.specs.protocol.Owner.{own_rows}

-- what bytes show, or the number by which they are refused
pub data Verdict (A : Type 0) : Type 0 where
  sound : A → Verdict A
  broken : ℕ → Verdict A

-- rows and tables: 4, whatever breaks their form; then 14, a pointer with another client than its row's
abbrev pub by_owner : Option (Read (List Row)) → Verdict (Read (List Row))
by_owner none = broken 4
by_owner (some r) = cond (own_rows 0 r.value) (sound r) (broken 14)

abbrev pub rows_verdict : Measures → List ℕ → Verdict (Read (List Row))
rows_verdict s table = by_owner (read_directory s table)

-- 12, a pointer breaks its rule
abbrev pub by_rule : Measures → List (Option Content) → Verdict (List (Option Content))
by_rule s l = cond (all_fields (proper_pointer s) l) (sound l) (broken 12)

-- 11, the length differs from what the fields need, each pointer by its own length
abbrev pub by_length : Measures → Option (List (Option Content)) → Verdict (List (Option Content))
by_length s none = broken 11
by_length s (some l) = by_rule s l

-- the record of an update, before its owner is asked for: 4, a bad bit map; then 11, also for no byte at all; then 12
unfoldable pub record_verdict : Measures → List ℕ → Verdict (List (Option Content))
record_verdict s [] = broken 11
record_verdict s (map ∷ u) = cond (proper_map s map) (by_length s (whole (read_fields read_any_pointer (fields s) map) u)) (broken 4)

-- where none of the three applies the record reads as in document 01, and conversely
pub record AsBefore (s : Measures) (t : List ℕ) : Type 0 where
  pub numbers : (n : ℕ) → record_verdict s t ≡ broken n → (eqb n 4 || (eqb n 11 || eqb n 12)) ≡ true
  pub reads : (l : List (Option Content)) → record_verdict s t ≡ sound l → whole (read_record s) t ≡ some l
  pub conversely : (l : List (Option Content)) → whole (read_record s) t ≡ some l → record_verdict s t ≡ sound l
