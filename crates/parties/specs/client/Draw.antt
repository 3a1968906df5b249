-- What a deposit's first scan takes from the rows, and from the room that holds the pieces.
use Rattle.std.specs.Prelude.{List, [], ◌++◌, ℕ, ◌+◌, ◌-◌, ◌*◌, take, drop, replicate}
use Rattle.std.proofs.Math.Option.{Option, some, none}
use Rattle.coding.specs.Bytes.{tabulate}
use Rattle.coding.specs.Placed.{piece_digest}
use Rattle.parties.specs.declared.Measures.{Measures}
use Rattle.parties.specs.declared.Sequence.{Sequence}
use Rattle.parties.specs.declared.Version.{Version}
use Rattle.std.specs.Prelude.{Some}
use Rattle.parties.specs.protocol.Format.{Read, write_number, write_many}
use Rattle.parties.specs.protocol.Pointer.{write_version}
use Rattle.parties.specs.protocol.Directory.{Row}
use Rattle.parties.specs.protocol.Client.{Phase as Work, work_size, read_client}
use Rattle.parties.specs.protocol.ClientEvents.{ClientEnd, on_client, draw}

-- the rows of a directory table that reads
abbrev pub rows_of : Option (Read (List Row)) → List Row
rows_of none = []
rows_of (some r) = r.value

-- the digest of node j + 1's piece, of len bytes in its area of f bytes behind the messages' front
abbrev pub room_digest : ℕ → Version → ℕ → List ℕ → ℕ → List ℕ
room_digest f v len room j = piece_digest (write_version v) (j + 1) (take len (drop (6 + j * f) room))

-- of all n nodes, as they are written
abbrev pub room_digests : ℕ → ℕ → Version → ℕ → List ℕ → List ℕ
room_digests n f v len room = write_many (λ d. d) (tabulate n (room_digest f v len room))

-- the work of a deposit whose pieces are sent: version, no node that acknowledged it, digests, spare bytes
abbrev pub stores_work : Measures → Version → List ℕ → List ℕ
stores_work s v digests = (write_version v ++ (write_number 2 0 ++ digests)) ++ replicate (work_size s - (7 + 32 * s.n)) 0

-- the page of a deposit's first scan
abbrev pub page_of : Work → List ℕ
page_of Work.idle = []
page_of (Work.scanning bytes) = bytes
page_of (Work.storing v a ds) = []
page_of (Work.updating p) = []
page_of (Work.freezing p) = []
page_of Work.raising = []
page_of Work.picking = []
page_of (Work.fetching p c m ps) = []

-- what drawing sequence q does to a client's record and room
unfoldable pub draw_end : Measures → ℕ → Sequence → List ℕ → List ℕ → ClientEnd
draw_end s own q client room =
    on_client s client room [] (read_client s client) (λ c. draw s own c room (page_of c.phase) (Some q))
