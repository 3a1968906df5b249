-- A pointer with another client than its row's is refused 14, wherever it is lent.
use mathlib.Core.Path.{◌≡◌, ap, ap₂, ◌∙◌}
use mathlib.Core.Bool.{Bool, true, false, ◌&&◌}
use mathlib.Core.List.{List, []}
use mathlib.Core.Option.{Option, some}
use Prim.Native.Nat.{ℕ, ◌≤◌, ◌<◌}
use borrow.Author.Tests.{le-leb, lt-ltb}
use lib.ListN.{length}
use Rattle.parties.specs.declared.Measures.{Measures}
use Rattle.parties.specs.protocol.Format.{Read}
use Rattle.parties.specs.protocol.Measures.{passes}
use Rattle.parties.specs.protocol.Directory.{Content, Row, read_directory}
use Rattle.parties.specs.protocol.Owner.{own_fields, own_rows}
use Rattle.parties.specs.protocol.Verdict.{sound, broken, record_verdict, rows_verdict}
use Rattle.parties.specs.protocol.Client.{Client, read_client, client_size}
use Rattle.parties.specs.protocol.Answer.{refused, refuses}
use Rattle.parties.specs.protocol.DirectoryEvents.{directory_size, on_table, directory_update, scanned, directory_scan}
use Rattle.parties.specs.protocol.ClientEvents.{room_size, unchanged, after, on_client, on_rows, scanned_at, scan_answer}
use Rattle.parties.specs.protocol.Foreign.{HasForeign, Foreign}
use Rattle.parties.proofs.protocol.model.Cells.{and_none}
use Rattle.parties.proofs.protocol.formats.OwnerLaws.{owner_verdict}

-- its verdict
foreign_verdict : (s : Measures) (table : List ℕ) → HasForeign s table → rows_verdict s table ≡ broken 14
foreign_verdict s table h = owner_verdict (read_directory s table) h.0 false h.1 h.2

module _ (s : Measures) (p : passes s ≡ true) where
  -- where the table reads and the record is sound, the owners decide
  owners_decide : (own : ℕ) (table fields : List ℕ) (r : Read (List Row)) (u : List (Option Content)) → own < s.m → directory_size s ≤ length table
      → read_directory s table ≡ some r → record_verdict s fields ≡ sound u → (own_rows 0 r.value && own_fields own u) ≡ false
      → directory_update s own table fields ≡ record { answer = refuses 14; table = table; room = [] }
  unfolding directory_update
  owners_decide own table fields r u o l d e f =
      simp (p, le-leb (directory_size s) (length table) l, lt-ltb own s.m o)
      (ap₂ (on_table s own table) d e ∙ simp f)

  scan_foreign : (table room : List ℕ) → directory_size s ≤ length table → directory_size s ≤ length room → HasForeign s table
      → directory_scan s table room ≡ record { answer = refuses 14; table = table; room = room }
  unfolding directory_scan
  scan_foreign table room l k h =
      simp (p, le-leb (directory_size s) (length table) l, le-leb (directory_size s) (length room) k)
      (ap (scanned s table room) (foreign_verdict s table h))

  rows_foreign : (own : ℕ) (client rows room : List ℕ) (c : Read Client) → own < s.m → client_size s ≤ length client → directory_size s ≤ length rows
      → room_size s ≤ length room → read_client s client ≡ some c → HasForeign s rows
      → scan_answer s own client rows room ≡ unchanged (refused 14) client room []
  unfolding scan_answer
  rows_foreign own client rows room c o l k m e h =
      simp (
        p,
        le-leb (client_size s) (length client) l,
        le-leb (directory_size s) (length rows) k,
        le-leb (room_size s) (length room) m,
        lt-ltb own s.m o,
      )
      (ap (λ x. on_client s client room [] x (λ k. on_rows (rows_verdict s rows) (λ y. scanned_at s own k room y k.phase))) e
      ∙ ap (λ v. after s client room [] c.rest (on_rows v (λ y. scanned_at s own c.value room y c.value.phase))) (foreign_verdict s rows h))

  -- the theorem
  pub foreign : Foreign s
  foreign =
      record {
        update = λ own table fields r u o l d e f.
            owners_decide own table fields r u o l d e (ap (λ (b : Bool). own_rows 0 r.value && b) f ∙ and_none (own_rows 0 r.value));
        table = λ own table fields u o l h e.
            owners_decide own table fields h.0 u o l h.1 e (ap (λ (b : Bool). b && own_fields own u) h.2);
        scan = scan_foreign;
        rows = rows_foreign;
      }
