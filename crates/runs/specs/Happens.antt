-- One event of a run, carried out on memory and parcels.
use Rattle.std.specs.Prelude.{◌≡◌, Bool, true, false, cond, not, ◌&&◌, ◌⊎◌, List, [], ◌∷◌, ◌++◌, ℕ, ◌+◌, ◌-◌, ◌*◌, ◌≤◌, ◌<◌, leb, ltb, length}
use Rattle.std.proofs.Math.Option.{Option, some, none}
use Rattle.parties.specs.declared.Measures.{Measures}
use Rattle.parties.specs.protocol.Measures.{passes}
use Rattle.parties.specs.protocol.Nodes.{stands}
use Rattle.parties.specs.protocol.Answer.{number}
use Rattle.parties.specs.protocol.ClientEvents.{room_size, start_reading, update_answer, scan_answer, client_message}
use Rattle.parties.specs.protocol.DirectoryEvents.{directory_scan}
use Rattle.parties.specs.protocol.NodeEvents.{node_message}
use Rattle.parties.specs.protocol.Run.{State, Call, scan_call, update_call, Return, updated, rows, Event, deposit, reading, carry, hand, bring, deliver, lie}
use Rattle.parties.specs.protocol.Claim.{served_number}
use Rattle.parties.specs.protocol.Run.{Answered, nothing, by_client, by_server, carry_out, fresh, run}
use Rattle.parties.specs.records.Answer.{number as number_of}
use Rattle.parties.specs.Answer.{served}
use Rattle.parties.specs.client.Answer.{answered}
use Rattle.runs.specs.declared.answer.Happened.{Happened}
use Rattle.runs.specs.declared.answer.EventEnd.{EventEnd}
use Rattle.title.specs.Memory.{memory_size}
use Rattle.runs.specs.Parcels.{IsList, Broken}
use Rattle.runs.specs.Sent.{needed}
use Rattle.runs.specs.UnderWay.{After}
use Rattle.runs.specs.Acts.{Lent, Acts}

-- the dishonest nodes of a bit map
abbrev pub lies_in : ℕ → ℕ → Bool
lies_in liars i = leb 1 i && (leb i 16 && stands liars i)

abbrev pub honest_in : ℕ → ℕ → Bool
honest_in liars i = not (lies_in liars i)

-- a client below m and, where an event has a node, one of 1 to n
abbrev pub in_bounds : Measures → Event → Bool
in_bounds s (deposit c page) = ltb c s.m
in_bounds s (reading c room) = ltb c s.m
in_bounds s (carry c room) = ltb c s.m
in_bounds s (hand c room) = ltb c s.m
in_bounds s (bring c i room) = ltb c s.m && (leb 1 i && leb i s.n)
in_bounds s (deliver i c room out) = ltb c s.m && (leb 1 i && leb i s.n)
in_bounds s (lie i c bytes room out) = ltb c s.m && (leb 1 i && leb i s.n)

-- starts and a dishonest node's bytes go to a client whatever is under way: whether the slices suffice that it wants
abbrev pub suffices : Measures → (ℕ → Bool) → Event → Lent → Bool
suffices s honest (deposit c page) x = leb (memory_size s) (length x.memory) && true
suffices s honest (reading c room) x = leb (memory_size s) (length x.memory) && leb (room_size s) (length room)
suffices s honest (carry c room) x = true
suffices s honest (hand c room) x = true
suffices s honest (bring c i room) x = true
suffices s honest (deliver i c room out) x = true
suffices s honest (lie i c bytes room out) x =
    cond (honest i) true (leb (memory_size s) (length x.memory) && (leb (room_size s) (length room) && leb (s.k * s.f - 4) (length out)))

-- before a list is looked at: measures that pass, and a slice with room for what an event sends
pub record PostRoomy (s : Measures) (post used : ℕ) : Type 0 where
  pub measures : passes s ≡ true
  pub enough : used + needed s ≤ post

-- an event is not carried out: 1; 2 for the slice of parcels; and where a number is out of bounds or the bytes are no list of parcels,
-- 2 for another slice, 3, or 4
pub data Unready (s : Measures) (honest : ℕ → Bool) (e : Event) (used : ℕ) (x : Lent) : ℕ → Type 0 where
  measures : passes s ≡ false → Unready s honest e used x 1
  short : passes s ≡ true → length x.post < used + needed s → Unready s honest e used x 2
  lacks : PostRoomy s (length x.post) used → suffices s honest e x ≡ false → (in_bounds s e ≡ false) ⊎ Broken s used x.post → Unready s honest e used x 2
  outside : PostRoomy s (length x.post) used → suffices s honest e x ≡ true → in_bounds s e ≡ false → Unready s honest e used x 3
  form : PostRoomy s (length x.post) used → suffices s honest e x ≡ true → in_bounds s e ≡ true → Broken s used x.post → Unready s honest e used x 4

-- it is carried out
pub record Ready (s : Measures) (e : Event) (used : ℕ) (x : Lent) : Type 0 where
  pub roomy : PostRoomy s (length x.post) used
  pub bounds : in_bounds s e ≡ true
  pub list : IsList s used x.post

-- what an answer says of the run's event
abbrev pub answer_of : Happened → Option Answered
answer_of (Happened.Refused r) = none
answer_of Happened.Nothing = some nothing
answer_of Happened.Taken = some nothing
answer_of (Happened.ByClient a) = some (by_client (answered a))
answer_of (Happened.ByServer a) = some (by_server (served a))

-- the papers' number of an answer, if it has one
abbrev pub number_happened : Happened → Option ℕ
number_happened (Happened.Refused r) = some (number_of r)
number_happened Happened.Nothing = none
number_happened Happened.Taken = none
number_happened (Happened.ByClient a) = number (answered a)
number_happened (Happened.ByServer a) = served_number (served a)

-- the output after an event that has one
abbrev pub out_delivered : Measures → ℕ → ℕ → List ℕ → List ℕ → List ℕ → List (List ℕ) → List ℕ
out_delivered s i c client room out [] = out
out_delivered s i c client room out (m ∷ q) = (client_message s c i client m room out).out

abbrev pub out_after : Measures → (ℕ → Bool) → Event → State → List ℕ
out_after s honest (deposit c page) st = []
out_after s honest (reading c room) st = []
out_after s honest (carry c room) st = []
out_after s honest (hand c room) st = []
out_after s honest (bring c i room) st = []
out_after s honest (deliver i c room out) st = out_delivered s i c (st.clients c) room out (st.to_client i c)
out_after s honest (lie i c bytes room out) st = cond (honest i) out (client_message s c i (st.clients c) bytes room out).out

-- the room after an event: what a party wrote there
abbrev pub room_carried : Measures → List ℕ → List ℕ → List Call → List ℕ
room_carried s directory room [] = room
room_carried s directory room (scan_call ∷ q) = (directory_scan s directory room).room
room_carried s directory room (update_call fields ∷ q) = room

abbrev pub room_handed : Measures → ℕ → List ℕ → List ℕ → List Return → List ℕ
room_handed s c client room [] = room
room_handed s c client room (updated ∷ q) = (update_answer s c client room).room
room_handed s c client room (rows b ∷ q) = (scan_answer s c client b room).room

abbrev pub room_brought : Measures → Bool → ℕ → List ℕ → List ℕ → List (List ℕ) → List ℕ
room_brought s honest i table room [] = room
room_brought s honest i table room (m ∷ q) = cond honest (node_message s i table m room).room room

abbrev pub room_delivered : Measures → ℕ → ℕ → List ℕ → List ℕ → List ℕ → List (List ℕ) → List ℕ
room_delivered s i c client room out [] = room
room_delivered s i c client room out (m ∷ q) = (client_message s c i client m room out).room

abbrev pub room_after : Measures → (ℕ → Bool) → Event → State → List ℕ
room_after s honest (deposit c page) st = []
room_after s honest (reading c room) st = (start_reading s c (st.clients c) room).room
room_after s honest (carry c room) st = room_carried s st.directory room (st.calls c)
room_after s honest (hand c room) st = room_handed s c (st.clients c) room (st.returns c)
room_after s honest (bring c i room) st = room_brought s (honest i) i (st.nodes i) room (st.to_node c i)
room_after s honest (deliver i c room out) st = room_delivered s i c (st.clients c) room out (st.to_client i c)
room_after s honest (lie i c bytes room out) st = cond (honest i) room (client_message s c i (st.clients c) bytes room out).room

-- after a list of events, one more: memory, parcels, answer, room and output are the run's
pub record Goes (s : Measures) (honest : ℕ → Bool) (es : List Event) (e : Event) (result : EventEnd) (memory post room out : List ℕ) : Type 0 where
  pub after : After s honest (es ++ (e ∷ [])) memory post result.used
  pub answer : answer_of result.what ≡ some (carry_out s honest e (run s honest es (fresh s))).answer
  pub written : room ≡ room_after s honest e (run s honest es (fresh s))
  pub output : out ≡ out_after s honest e (run s honest es (fresh s))

-- an event: nothing changes, or it is the run's next
pub data Happens (s : Measures) (honest : ℕ → Bool) (e : Event) (used : ℕ) (x y : Lent) : EventEnd → Type 0 where
  unready : (r : _) → Unready s honest e used x (number_of r) → y ≡ x
      → Happens s honest e used x y (record { used = used; what = Happened.Refused r })
  happens : (result : EventEnd) → Ready s e used x → length y.post ≡ length x.post
      → Acts s honest used x y e result
      → ((es : List Event) → After s honest es x.memory x.post used → Goes s honest es e result y.memory y.post y.room y.out)
      → Happens s honest e used x y result
