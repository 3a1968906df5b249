-- What document 02, (k), says of a pointer with another client than its row's: every call that is lent it refuses.
use Rattle.std.specs.Prelude.{◌≡◌, false, List, [], ℕ, ◌≤◌, ◌<◌, length}
use Rattle.std.proofs.Math.Option.{Option, some}
use Rattle.parties.specs.declared.Measures.{Measures}
use Rattle.parties.specs.protocol.Format.{Read}
use Rattle.parties.specs.protocol.Directory.{Content, Row, read_directory}
use Rattle.parties.specs.protocol.Owner.{own_fields, own_rows}
use Rattle.parties.specs.protocol.Verdict.{sound, record_verdict}
use Rattle.parties.specs.protocol.Client.{Client, read_client, client_size}
use Rattle.parties.specs.protocol.Answer.{refused, refuses}
use Rattle.parties.specs.protocol.DirectoryEvents.{directory_size, directory_update, directory_scan}
use Rattle.parties.specs.protocol.ClientEvents.{room_size, unchanged, scan_answer}

-- the table reads, and has such a row
abbrev pub HasForeign : Measures → List ℕ → Type 0
HasForeign s table = (r : Read (List Row)) × (read_directory s table ≡ some r) × (own_rows 0 r.value ≡ false)

-- of calls of proper measures, with the lengths that are wanted and numbers within bounds
pub record Foreign (s : Measures) : Type 0 where
  -- the directory refuses such an update
  pub update : (own : ℕ) (table fields : List ℕ) (r : Read (List Row)) (u : List (Option Content)) → own < s.m → directory_size s ≤ length table
      → read_directory s table ≡ some r → record_verdict s fields ≡ sound u → own_fields own u ≡ false
      → directory_update s own table fields ≡ record { answer = refuses 14; table = table; room = [] }
  -- and a table with such a row, also where the update would replace the pointer
  pub table : (own : ℕ) (table fields : List ℕ) (u : List (Option Content)) → own < s.m → directory_size s ≤ length table → HasForeign s table
      → record_verdict s fields ≡ sound u → directory_update s own table fields ≡ record { answer = refuses 14; table = table; room = [] }
  pub scan : (table room : List ℕ) → directory_size s ≤ length table → directory_size s ≤ length room → HasForeign s table
      → directory_scan s table room ≡ record { answer = refuses 14; table = table; room = room }
  -- a client refuses such a scan answer and still awaits one: its record stays, whatever its step is
  pub rows : (own : ℕ) (client rows room : List ℕ) (c : Read Client) → own < s.m → client_size s ≤ length client → directory_size s ≤ length rows
      → room_size s ≤ length room → read_client s client ≡ some c → HasForeign s rows
      → scan_answer s own client rows room ≡ unchanged (refused 14) client room []
