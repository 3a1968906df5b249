-- Events at a client: for every input the answer, and the final bytes of all that is lent.
use Rattle.std.specs.Prelude.{Bool, true, false, cond, not, ◌&&◌, List, [], ◌++◌, ℕ, ◌+◌, ◌-◌, ◌*◌, leb, ltb, length, take, drop, replicate, set}
use Rattle.std.proofs.Math.Option.{Option, some, none}
use Rattle.coding.specs.Pieces.{columns}
use Rattle.coding.specs.Split.{split}
use Rattle.coding.specs.Join.{JoinEnd, join}
use Rattle.coding.specs.Answer.{Outcome}
use Rattle.parties.specs.declared.Measures.{Measures}
use Rattle.parties.specs.declared.Version.{Version}
use Rattle.std.specs.Prelude.{Option as StdOption, Some, None}
use Rattle.parties.specs.declared.Sequence.{Sequence}
use Rattle.parties.specs.declared.ReadingIndex.{ReadingIndex}
use Rattle.parties.specs.protocol.Format.{Read}
use Rattle.parties.specs.protocol.Measures.{passes, row_size}
use Rattle.parties.specs.protocol.Version.{next_sequence, next_index}
use Rattle.parties.specs.protocol.Nodes.{count, stands, with_node}
use Rattle.parties.specs.protocol.Pointer.{Pointer, is_none}
use Rattle.parties.specs.protocol.Directory.{Row, write_record}
use Rattle.parties.specs.protocol.Verdict.{Verdict, sound, broken, rows_verdict}
use Rattle.parties.specs.protocol.Message.{ToNode, ToClient, read_to_client, write_to_node}
use Rattle.parties.specs.protocol.Client.{Phase, idle, scanning, storing, updating, freezing, raising, picking, fetching, Client, read_client, write_client, client_size, fresh_client, lengths, areas}
use Rattle.parties.specs.protocol.Deposit.{highest, digests_of, pointer_of, deposit_fields, frozen_after, freed}
use Rattle.parties.specs.protocol.Reading.{reading_fields, pick, counts, matches, all_counted, same_version}
use Rattle.parties.specs.protocol.Answer.{ClientAnswer, refused, waits, scan, update, stores, requests, deposited, empty, page, spent, failed}

-- ---- steps on a record that reads

-- what a step does: nothing beside its answer, or the record, the room and the output after it
pub data Step : Type 0 where
  stays : ClientAnswer → Step
  does : ClientAnswer → Client → List ℕ → List ℕ → Step

abbrev pub with_phase : Phase → Client → Client
with_phase p c =
    record {
      phase = p;
      reading_index = c.reading_index;
      written = c.written;
      frozen = c.frozen;
      reserved = c.reserved;
      frozen_indices = c.frozen_indices;
    }

-- bytes at the front of a room
abbrev pub lay : List ℕ → List ℕ → List ℕ
lay b room = b ++ drop (length b) room

abbrev pub is_idle : Phase → Bool
is_idle idle = true
is_idle (scanning bytes) = false
is_idle (storing v a ds) = false
is_idle (updating p) = false
is_idle (freezing p) = false
is_idle raising = false
is_idle picking = false
is_idle (fetching p c m ps) = false

-- upon r-Write | v: the page is kept, a scan is asked for
unfoldable pub begin_deposit : Measures → Client → List ℕ → Step
begin_deposit s c bytes =
    cond (is_idle c.phase)
    (cond (leb (length bytes) (s.k * s.f - 4)) (does scan (with_phase (scanning bytes) c) [] []) (stays (refused 6)))
    (stays (refused 5))

-- readindex ← readindex + 1; dir-Update | c, (*, *, *, readindex)
abbrev pub raise : Client → List ℕ → StdOption ReadingIndex → Step
raise c room (Some i) =
    does (update (length (write_record (reading_fields i))))
    (record {
      phase = raising;
      reading_index = i;
      written = c.written;
      frozen = c.frozen;
      reserved = c.reserved;
      frozen_indices = c.frozen_indices;
    })
    (lay (write_record (reading_fields i)) room) []
raise c room None = stays (refused 7)

-- upon r-Read
unfoldable pub begin_reading : Client → List ℕ → Step
begin_reading c room = cond (is_idle c.phase) (raise c room (next_index c.reading_index)) (stays (refused 5))

-- dir-UpdateAck: the scan after the update is asked for
abbrev pub acknowledged_at : Client → List ℕ → Phase → Step
acknowledged_at c room idle = stays (refused 5)
acknowledged_at c room (scanning bytes) = stays (refused 5)
acknowledged_at c room (storing v a ds) = stays (refused 5)
acknowledged_at c room (updating p) = does scan (with_phase (freezing p) c) room []
acknowledged_at c room (freezing p) = stays (refused 5)
acknowledged_at c room raising = does scan (with_phase picking c) room []
acknowledged_at c room picking = stays (refused 5)
acknowledged_at c room (fetching p n m ps) = stays (refused 5)

-- the room of n store messages: their common front, tag and version, then n areas of F bytes with the pieces
abbrev pub stores_room : Measures → Version → List ℕ → List ℕ → List ℕ
stores_room s v bytes room = write_to_node (ToNode.store v []) ++ (split s.n s.k s.f bytes (drop 6 room)).room

-- writeptr.ts ← (wsn + 1, c); the pieces are cut and sent; 7 if there is no number after wsn
abbrev pub draw : Measures → ℕ → Client → List ℕ → List ℕ → StdOption Sequence → Step
draw s own c room bytes (Some q) =
    does (stores (record { sequence = q; client = own }) (columns s.k (length bytes)))
    (with_phase (storing (record { sequence = q; client = own }) 0 (digests_of s (record { sequence = q; client = own }) bytes)) c)
    (stores_room s (record { sequence = q; client = own }) bytes room) []
draw s own c room bytes None = does spent (with_phase idle c) room []

-- the second scan: freeze, reserve, and free the rest
abbrev pub freeze : Measures → ℕ → Client → List ℕ → List Row → Pointer → Step
freeze s own c room rows p =
    does (deposited p.version (length (write_to_node (ToNode.free (freed s own c rows p)))))
    (frozen_after s own c rows p)
    (lay (write_to_node (ToNode.free (freed s own c rows p))) room) []

-- readptr ← highestread(M, c, readindex); the named nodes are asked
abbrev pub fetch : Measures → Client → List ℕ → Pointer → Step
fetch s c room p =
    cond (is_none p) (does empty (with_phase idle c) room [])
    (does (requests p.version p.named.nodes) (with_phase (fetching p 0 0 (replicate s.n [])) c)
    (lay (write_to_node (ToNode.request p.version)) room) [])

-- dir-ScanResp | M
abbrev pub scanned_at : Measures → ℕ → Client → List ℕ → List Row → Phase → Step
scanned_at s own c room rows idle = stays (refused 5)
scanned_at s own c room rows (scanning bytes) = draw s own c room bytes (next_sequence (highest rows))
scanned_at s own c room rows (storing v a ds) = stays (refused 5)
scanned_at s own c room rows (updating p) = stays (refused 5)
scanned_at s own c room rows (freezing p) = freeze s own c room rows p
scanned_at s own c room rows raising = stays (refused 5)
scanned_at s own c room rows picking = fetch s c room (pick own c.reading_index rows)
scanned_at s own c room rows (fetching p n m ps) = stays (refused 5)

-- upon d_i-WriteAck | ats: a node is added once; at t + k nodes the pointer is published
abbrev pub acknowledge : Measures → Client → List ℕ → List ℕ → Version → ℕ → List (List ℕ) → Step
acknowledge s c room out v a ds =
    cond (ltb (count a) (s.t + s.k)) (does waits (with_phase (storing v a ds) c) room out)
    (does (update (length (write_record (deposit_fields c (pointer_of v a ds)))))
    (with_phase (updating (pointer_of v a ds)) c)
    (lay (write_record (deposit_fields c (pointer_of v a ds))) room) out)

abbrev pub stored_at : Measures → ℕ → Client → List ℕ → List ℕ → Version → Phase → Step
stored_at s i c room out v idle = stays waits
stored_at s i c room out v (scanning bytes) = stays waits
stored_at s i c room out v (storing w a ds) =
    cond (same_version v w && not (stands a i)) (acknowledge s c room out w (with_node a i) ds) (stays waits)
stored_at s i c room out v (updating p) = stays waits
stored_at s i c room out v (freezing p) = stays waits
stored_at s i c room out v raising = stays waits
stored_at s i c room out v picking = stays waits
stored_at s i c room out v (fetching p n m ps) = stays waits

-- every named node's reply counted and fewer than k match: 9
abbrev pub go_on : Client → List ℕ → List ℕ → Pointer → ℕ → ℕ → List (List ℕ) → Step
go_on c room out p n m ps =
    cond (all_counted p n) (does failed (with_phase idle c) room out) (does waits (with_phase (fetching p n m ps) c) room out)

-- retval ← Reconstruct(readlist); pieces that differ in length or join to a broken frame are 4
abbrev pub joined_at : Client → List ℕ → Version → List ℕ → Outcome → Step
joined_at c room v out (Outcome.gives len) = does (page v len) (with_phase idle c) room out
joined_at c room v out (Outcome.refuses n) = stays (refused 4)

abbrev pub ends : Client → List ℕ → Version → JoinEnd → Step
ends c room v e = joined_at c room v e.out e.outcome

-- a reply that counts: |{j | readlist[j] ≠ ⊥}| = k ends the reading
abbrev pub counted : Measures → ℕ → Client → List ℕ → List ℕ → Pointer → ℕ → ℕ → List (List ℕ) → Option (List ℕ) → Step
counted s i c room out p n m ps none = go_on c room out p n m ps
counted s i c room out p n m ps (some x) =
    cond (matches s p i x)
    (cond (ltb (count (with_node m i)) s.k)
    (go_on c room out p n (with_node m i) (set ps (i - 1) x))
    (ends c room p.version
    (join s.n s.k s.f (with_node m i) (areas s (set ps (i - 1) x)) (lengths (set ps (i - 1) x)) out)))
    (go_on c room out p n m ps)

-- upon d_i-ReadResp | vts, v
abbrev pub replied_at : Measures → ℕ → Client → List ℕ → List ℕ → Version → Option (List ℕ) → Phase → Step
replied_at s i c room out v x idle = stays waits
replied_at s i c room out v x (scanning bytes) = stays waits
replied_at s i c room out v x (storing w a ds) = stays waits
replied_at s i c room out v x (updating p) = stays waits
replied_at s i c room out v x (freezing p) = stays waits
replied_at s i c room out v x raising = stays waits
replied_at s i c room out v x picking = stays waits
replied_at s i c room out v x (fetching p n m ps) =
    cond (counts p n i v) (counted s i c room out p (with_node n i) m ps x) (stays waits)

abbrev pub message_at : Measures → ℕ → Client → List ℕ → List ℕ → ToClient → Step
message_at s i c room out (ToClient.stored v) = stored_at s i c room out v c.phase
message_at s i c room out ToClient.freed = stays waits
message_at s i c room out (ToClient.reply v x) = replied_at s i c room out v (some x) c.phase
message_at s i c room out (ToClient.missing v) = replied_at s i c room out v none c.phase

-- ---- the same on bytes

pub record ClientEnd : Type 0 where
  pub answer : ClientAnswer
  pub client : List ℕ
  pub room : List ℕ
  pub out : List ℕ

-- the room that a client's events want: for an update's record, or for n pieces behind their front
abbrev pub room_size : Measures → ℕ
room_size s = row_size s + (6 + s.n * s.f)

-- nothing is changed
abbrev pub unchanged : ClientAnswer → List ℕ → List ℕ → List ℕ → ClientEnd
unchanged a client room out = record { answer = a; client = client; room = room; out = out }

-- the record after a step; what stands beyond it is as it was
abbrev pub after : Measures → List ℕ → List ℕ → List ℕ → List ℕ → Step → ClientEnd
after s client room out rest (stays a) = unchanged a client room out
after s client room out rest (does a c r o) = record { answer = a; client = write_client s c ++ rest; room = r; out = o }

-- a step on the record that some bytes show, where they show one
abbrev pub on_client : Measures → List ℕ → List ℕ → List ℕ → Option (Read Client) → (Client → Step) → ClientEnd
on_client s client room out none f = unchanged (refused 4) client room out
on_client s client room out (some r) f = after s client room out r.rest (f r.value)

-- measures (1), short slices (2), numbers out of bounds (3), in this order
abbrev pub guarded : Measures → Bool → Bool → ClientEnd → (ClientAnswer → ClientEnd) → ClientEnd
guarded s enough within e refuse =
    cond (passes s) (cond enough (cond within e (refuse (refused 3))) (refuse (refused 2))) (refuse (refused 1))

-- a fresh record is written
unfoldable pub client_fresh : Measures → List ℕ → ClientEnd
client_fresh s client =
    guarded s (leb (client_size s) (length client)) true
    (record { answer = waits; client = write_client s (fresh_client s) ++ drop (client_size s) client; room = []; out = [] })
    (λ a. unchanged a client [] [])

-- start of a deposit
unfoldable pub start_deposit : Measures → ℕ → List ℕ → List ℕ → ClientEnd
start_deposit s own client bytes =
    guarded s (leb (client_size s) (length client)) (ltb own s.m)
    (on_client s client [] [] (read_client s client) (λ c. begin_deposit s c bytes))
    (λ a. unchanged a client [] [])

-- start of a reading
unfoldable pub start_reading : Measures → ℕ → List ℕ → List ℕ → ClientEnd
start_reading s own client room =
    guarded s (leb (client_size s) (length client) && leb (room_size s) (length room)) (ltb own s.m)
    (on_client s client room [] (read_client s client) (λ c. begin_reading c room))
    (λ a. unchanged a client room [])

-- the acknowledgement of an update
unfoldable pub update_answer : Measures → ℕ → List ℕ → List ℕ → ClientEnd
update_answer s own client room =
    guarded s (leb (client_size s) (length client) && leb (room_size s) (length room)) (ltb own s.m)
    (on_client s client room [] (read_client s client) (λ c. acknowledged_at c room c.phase))
    (λ a. unchanged a client room [])

abbrev pub on_rows : Verdict (Read (List Row)) → (List Row → Step) → Step
on_rows (broken n) f = stays (refused n)
on_rows (sound r) f = f r.value

-- the rows of a scan
unfoldable pub scan_answer : Measures → ℕ → List ℕ → List ℕ → List ℕ → ClientEnd
scan_answer s own client rows room =
    guarded s (leb (client_size s) (length client) && (leb (s.m * row_size s) (length rows) && leb (room_size s) (length room))) (ltb own s.m)
    (on_client s client room [] (read_client s client) (λ c. on_rows (rows_verdict s rows) (λ l. scanned_at s own c room l c.phase)))
    (λ a. unchanged a client room [])

abbrev pub on_message : {A : Type 0} → Option A → (A → Step) → Step
on_message none f = stays (refused 4)
on_message (some m) f = f m

-- a message from a node
unfoldable pub client_message : Measures → ℕ → ℕ → List ℕ → List ℕ → List ℕ → List ℕ → ClientEnd
client_message s own i client message room out =
    guarded s (leb (client_size s) (length client) && (leb (room_size s) (length room) && leb (s.k * s.f - 4) (length out)))
    (ltb own s.m && (leb 1 i && leb i s.n))
    (on_client s client room out (read_client s client) (λ c. on_message (read_to_client s message) (λ m. message_at s i c room out m)))
    (λ a. unchanged a client room out)

-- ---- what is sent: read off the answer and the room

-- the message to a node
abbrev pub message_to : Measures → ClientAnswer → List ℕ → ℕ → Option (List ℕ)
message_to s (refused n) room i = none
message_to s waits room i = none
message_to s scan room i = none
message_to s (update len) room i = none
message_to s (stores v len) room i = some (take 6 room ++ take len (drop (6 + (i - 1) * s.f) room))
message_to s (requests v nodes) room i = cond (stands nodes i) (some (take 6 room)) none
message_to s (deposited v len) room i = some (take len room)
message_to s empty room i = none
message_to s (page v len) room i = none
message_to s spent room i = none
message_to s failed room i = none
