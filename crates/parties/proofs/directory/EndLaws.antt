-- How each of the directory's events ends.
use mathlib.Core.Path.{◌≡◌, sym, ap, ◌∙◌}
use mathlib.Core.Bool.{true, false}
use mathlib.Core.List.{List, ◌++◌}
use mathlib.Core.Option.{some}
use Prim.Native.Nat.{ℕ, ◌*◌, ◌<◌, ◌≤◌}
use borrow.Author.Tests.{le-leb, lt-leb}
use lib.ListN.{length, take, drop}
use Rattle.parties.specs.declared.Measures.{Measures}
use Rattle.parties.specs.protocol.Measures.{passes, row_size}
use Rattle.parties.specs.protocol.Answer.{refuses, serves}
use Rattle.parties.specs.protocol.Directory.{read_directory}
use Rattle.parties.specs.protocol.Owner.{own_rows}
use Rattle.parties.specs.protocol.Verdict.{broken, rows_verdict}
use Rattle.parties.specs.protocol.DirectoryEvents.{DirectoryEnd, directory_size, scanned, directory_scan}
use Rattle.parties.specs.records.Form.{rest, holds}
use Rattle.parties.proofs.records.RecordLaws.{rows-sound}

-- the answer and the bytes of an end
pub ends-room : (x e : DirectoryEnd) → x ≡ e → (e.answer ≡ x.answer) × (e.room ≡ x.room)
ends-room x e q = (sym (ap (λ (d : DirectoryEnd). d.answer) q), sym (ap (λ (d : DirectoryEnd). d.room) q))

pub ends-table : (x e : DirectoryEnd) → x ≡ e → (e.answer ≡ x.answer) × (e.table ≡ x.table)
ends-table x e q = (sym (ap (λ (d : DirectoryEnd). d.answer) q), sym (ap (λ (d : DirectoryEnd). d.table) q))

-- so many rows are the directory's bytes
pub directory_bytes : (s : Measures) (size : ℕ) → size ≡ row_size s → s.m * size ≡ directory_size s
directory_bytes s size e = ap (λ (k : ℕ). s.m * k) e

-- ---- scan

module _ (s : Measures) (table room : List ℕ) where
  pub scan-measures : passes s ≡ false → directory_scan s table room ≡ record { answer = refuses 1; table = table; room = room }
  unfolding directory_scan
  scan-measures p = simp p

  module _ (p : passes s ≡ true) where
    pub scan-short-table : length table < directory_size s → directory_scan s table room ≡ record { answer = refuses 2; table = table; room = room }
    unfolding directory_scan
    scan-short-table h = simp (p, lt-leb (directory_size s) (length table) h)

    pub scan-short-room : directory_size s ≤ length table → length room < directory_size s
        → directory_scan s table room ≡ record { answer = refuses 2; table = table; room = room }
    unfolding directory_scan
    scan-short-room g h = simp (p, le-leb (directory_size s) (length table) g, lt-leb (directory_size s) (length room) h)

    module _ (g : directory_size s ≤ length table) (h : directory_size s ≤ length room) where
      scan-reads : directory_scan s table room ≡ scanned s table room (rows_verdict s table)
      unfolding directory_scan
      scan-reads = simp (p, le-leb (directory_size s) (length table) g, le-leb (directory_size s) (length room) h)

      pub scan-broken : (n : ℕ) → rows_verdict s table ≡ broken n → directory_scan s table room ≡ record { answer = refuses n; table = table; room = room }
      scan-broken n e = scan-reads ∙ ap (scanned s table room) e

      pub scan-rows : (v : List ℕ) → rest (read_directory s table) ≡ some v → true ≡ holds (own_rows 0) (read_directory s table)
          → directory_scan s table room
          ≡ record { answer = serves (directory_size s); table = table; room = take (directory_size s) table ++ drop (directory_size s) room }
      scan-rows v e o = scan-reads ∙ ap (scanned s table room) (rows-sound s table v e o).2
