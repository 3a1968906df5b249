-- The rows of a scan, where both the client's record and the rows read.
use Rattle.std.specs.Prelude.{List, [], ℕ}
use Rattle.parties.specs.declared.Measures.{Measures}
use Rattle.parties.specs.protocol.Answer.{spent}
use Rattle.parties.specs.protocol.Directory.{read_directory}
use Rattle.parties.specs.protocol.Client.{idle, read_client}
use Rattle.parties.specs.protocol.ClientEvents.{ClientEnd, does, with_phase, scanned_at, on_client}
use Rattle.parties.specs.client.Draw.{rows_of}

-- what they do to a client's record and room
unfoldable pub scanned_end : Measures → ℕ → List ℕ → List ℕ → List ℕ → ClientEnd
scanned_end s own client rows room =
    on_client s client room [] (read_client s client) (λ c. scanned_at s own c room (rows_of (read_directory s rows)) c.phase)

-- a deposit that has no sequence ends
unfoldable pub spent_end : Measures → List ℕ → List ℕ → ClientEnd
spent_end s client room = on_client s client room [] (read_client s client) (λ c. does spent (with_phase idle c) room [])
