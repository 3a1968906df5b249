-- Replies to a reading.
use Rattle.std.specs.Prelude.{Option as StdOption, Some, None, ◌≡◌, Bool, true, cond, not, ◌&&◌, List, ℕ, ◌+◌, ◌-◌, ◌*◌, leb, length, take, drop, replicate, set}
use Rattle.std.proofs.Math.Option.{Option}
use Rattle.std.proofs.Math.Seq.{paste}
use Rattle.coding.specs.Bytes.{tabulate}
use Rattle.coding.specs.Placed.{piece_digest}
use Rattle.coding.specs.Nodes.{nodes_of}
use Rattle.parties.specs.declared.Measures.{Measures}
use Rattle.parties.specs.declared.Version.{Version}
use Rattle.parties.specs.protocol.Format.{write_number, write_area}
use Rattle.parties.specs.protocol.Measures.{pointer_size}
use Rattle.parties.specs.protocol.Nodes.{stands}
use Rattle.parties.specs.protocol.Pointer.{write_version}
use Rattle.parties.specs.protocol.Answer.{waits}
use Rattle.parties.specs.protocol.Client.{fetching_step, read_client, work_size}
use Rattle.parties.specs.protocol.Reading.{same_version, same_bytes}
use Rattle.parties.specs.protocol.ClientEvents.{ClientEnd, unchanged, on_client, replied_at}
use Rattle.parties.specs.declared.ClientAnswer.{ClientAnswer}
use Rattle.parties.specs.declared.client.reply.Standing.{Standing}
use Rattle.parties.specs.records.Places.{number_at, version_at}
use Rattle.parties.specs.declared.Phase.{Phase}
use Rattle.parties.specs.client.Record.{record_of, work_at}

-- what a reply, with a piece or with none, does to a client's record and output
unfoldable pub replied_end : Measures → ℕ → Version → Option (List ℕ) → List ℕ → List ℕ → List ℕ → ClientEnd
replied_end s i v x client room out = on_client s client room out (read_client s client) (λ c. replied_at s i c room out v x c.phase)

-- ---- what the code reads of a reading's work

-- where the maps of counted and of matching nodes stand, after the pointer
abbrev pub maps_at : Measures → ℕ
maps_at s = work_at s + pointer_size s

-- the picked version and its nodes at a place, the two maps at another
abbrev pub standing_at : List ℕ → ℕ → ℕ → Standing
standing_at t at maps = record { version = version_at t at; named = number_at t (at + 5); counted = number_at t maps; matching = number_at t (maps + 2) }

-- the first reply of a named node with the picked version
abbrev pub counts_at : Standing → ℕ → Version → Bool
counts_at x i v = same_version v x.version && (stands x.named i && not (stands x.counted i))

-- a reading waits for this reply; or else it changes nothing, whatever it brings
abbrev pub Awaits : Measures → ℕ → Version → Phase → List ℕ → StdOption Standing → Type 0
Awaits s i v p area (Some x) = (p.step ≡ fetching_step) × (x ≡ standing_at area (work_at s) (maps_at s)) × (counts_at x i v ≡ true)
Awaits s i v p area None =
    (y : Option (List ℕ)) (room out : List ℕ) → replied_end s i v y (record_of p area) room out ≡ unchanged waits (record_of p area) room out

-- where a named node's digest stands in the pointer
abbrev pub digest_place : ℕ → ℕ → ℕ → ℕ
digest_place at named i = at + 7 + 32 * length (nodes_of named (i - 1))

-- a piece of 1 to f bytes whose digest stands at a place
unfoldable pub matches_at : ℕ → Version → ℕ → List ℕ → List ℕ → ℕ → Bool
matches_at f v i piece t at =
    leb 1 (length piece) && (leb (length piece) f && same_bytes (piece_digest (write_version v) i piece) (take 32 (drop at t)))

-- ---- what the code writes

-- every named node counted or not: the answer, and the area
abbrev pub went_on : Bool → ClientAnswer
went_on b = cond b ClientAnswer.Failed ClientAnswer.Waits

unfoldable pub cleared : Measures → List ℕ → List ℕ
cleared s area = paste area (work_at s) (replicate (work_size s) 0) (work_size s)

unfoldable pub mapped : Measures → ℕ → ℕ → List ℕ → List ℕ
mapped s counted matching area = paste (paste area (maps_at s) (write_number 2 counted) 2) (maps_at s + 2) (write_number 2 matching) 2

-- node i's piece in its area of f bytes, where n areas stand after n lengths of 2 bytes
abbrev pub area_put : ℕ → ℕ → ℕ → ℕ → List ℕ → List ℕ → List ℕ
area_put at n f i piece t = paste t (at + 2 * n + (i - 1) * f) (write_area f (λ p. p) piece) f

-- and its length
unfoldable pub piece_put : ℕ → ℕ → ℕ → ℕ → List ℕ → List ℕ → List ℕ
piece_put at n f i piece t = area_put at n f i piece (paste t (at + 2 * (i - 1)) (write_number 2 (length piece)) 2)

-- the n lengths, of which node i's is another
abbrev pub lengths_with : List ℕ → ℕ → ℕ → ℕ → ℕ → List ℕ
lengths_with t at n i len = set (tabulate n (λ j. number_at t (at + 2 * j))) (i - 1) len
