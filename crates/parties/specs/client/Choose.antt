-- What the rows of a scan offer a reading.
use Rattle.std.specs.Prelude.{List, [], ℕ, drop}
use Rattle.std.proofs.Math.Option.{Option, some, none}
use Rattle.parties.specs.declared.Measures.{Measures}
use Rattle.parties.specs.declared.ReadingIndex.{ReadingIndex}
use Rattle.parties.specs.protocol.Format.{Read}
use Rattle.parties.specs.protocol.Pointer.{Pointer}
use Rattle.parties.specs.protocol.Directory.{Row, no_row, read_row, read_directory}
use Rattle.parties.specs.protocol.Reading.{candidate, pick}
use Rattle.parties.specs.protocol.Client.{read_client}
use Rattle.parties.specs.protocol.ClientEvents.{ClientEnd, on_client, fetch}
use Rattle.parties.specs.client.Draw.{rows_of}

abbrev pub row_of : Option (Read Row) → Row
row_of none = no_row
row_of (some r) = r.value

-- the candidate of the row at a place of some bytes
unfoldable pub offered : Measures → ℕ → ReadingIndex → List ℕ → ℕ → Pointer
offered s own i t at = candidate own i (row_of (read_row s (drop at t)))

-- what a reading's scan does to a client's record and room
unfoldable pub fetch_end : Measures → ℕ → List ℕ → List ℕ → List ℕ → ClientEnd
fetch_end s own client rows room =
    on_client s client room [] (read_client s client) (λ c. fetch s c room (pick own c.reading_index (rows_of (read_directory s rows))))
