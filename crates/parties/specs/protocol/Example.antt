-- A worked run of 102 events, each with the answer that it is to give. Every value here is worked out by hand from document 01's rules.
-- Client 2's reading gets its rows late: the version that it picks is no longer the newest, since its writer has deposited three pages more. It is
-- reserved and the one after it frozen, so neither is dropped; the one after those is. A dishonest node answers with an old page's piece.
use Rattle.std.specs.Prelude.{◌≡◌, Bool, true, false, not, List, [], ◌∷◌, ◌++◌, map, ℕ, ◌-◌, ◌*◌, ◌≤◌, eqb, length, replicate}
use Rattle.std.proofs.Math.Option.{Option, some, none}
use Rattle.coding.specs.Placed.{piece_digest}
use Rattle.coding.specs.Pieces.{piece}
use Rattle.parties.specs.declared.Measures.{Measures}
use Rattle.parties.specs.declared.Version.{Version}
use Rattle.parties.specs.protocol.Version.{below, no_version}
use Rattle.parties.specs.protocol.Format.{Read}
use Rattle.parties.specs.protocol.Pointer.{Pointer, write_version}
use Rattle.parties.specs.protocol.NodeTable.{Held, read_table}
use Rattle.parties.specs.protocol.Node.{hand_back}
use Rattle.parties.specs.protocol.Message.{ToClient, write_to_client}
use Rattle.parties.specs.protocol.Client.{Client, read_client}
use Rattle.parties.specs.protocol.Deposit.{still_retained}
use Rattle.parties.specs.protocol.Reading.{matches}
use Rattle.parties.specs.protocol.Answer.{waits, scan, update, stores, requests, deposited, page, serves}
use Rattle.parties.specs.protocol.ClientEvents.{room_size}
use Rattle.parties.specs.protocol.DirectoryEvents.{directory_size}
use Rattle.parties.specs.protocol.NodeEvents.{answer_size}
use Rattle.parties.specs.protocol.Run.{Operation, Put, Reply, State, Event, deposit, reading, carry, hand, bring, deliver, lie, Answered, nothing, by_client, by_server, carry_out, fresh, run}
use Rattle.parties.specs.protocol.Claim.{Bears, IsDeposit, Open, Precedes, Concerns, Alike, places, pieces_of, Claim, dishonest, AllLent, RunString, Differ}

-- ---- measures, pages and lent memory

abbrev pub measures : Measures
measures = record { m = 3; n = 4; k = 2; t = 1; f = 5 }

abbrev pub honest : ℕ → Bool
honest i = not (eqb i 4)

abbrev pub version : ℕ → ℕ → Version
version q c = record { sequence = record { 0 = q }; client = c }

-- of one byte, of kF − 4 bytes, and empty
abbrev pub page_a : List ℕ
page_a = 0x41 ∷ []

abbrev pub page_b : List ℕ
page_b = 0x42 ∷ 0x62 ∷ 0x42 ∷ 0x62 ∷ 0x42 ∷ 0x62 ∷ []

abbrev pub page_c : List ℕ
page_c = []

-- lent memory of the lengths that are needed, with some bytes in it
abbrev pub rows : List ℕ
rows = replicate (directory_size measures) 0xEE

abbrev pub room : List ℕ
room = replicate (room_size measures) 0xEE

abbrev pub small : List ℕ
small = replicate (answer_size measures) 0xEE

abbrev pub out : List ℕ
out = replicate (measures.k * measures.f - 4) 0xEE

-- ---- the events, each with what it is to answer

abbrev pub Script : Type 0
Script = List (Event × Answered)

-- the first scan of three rows of 429 bytes, and the draw: a version, and pieces of so many bytes
abbrev pub begins : ℕ → List ℕ → Version → ℕ → Script
begins c bytes v len =
    (deposit c bytes, by_client scan) ∷ (carry c rows, by_server (serves 1287)) ∷ (hand c room, by_client (stores v len)) ∷ []

-- the update, the second scan, and a free list's message of so many bytes
abbrev pub concludes : ℕ → Version → ℕ → Script
concludes c v len =
    (carry c rows, by_server (serves 0)) ∷ (hand c room, by_client scan)
    ∷ (carry c rows, by_server (serves 1287)) ∷ (hand c room, by_client (deposited v len)) ∷ []

-- an honest node's acknowledgement is 6 bytes of a store, 1 of a free list; a dishonest node's message is gone
abbrev pub stored_by : ℕ → ℕ → Event × Answered
stored_by c i = (bring c i small, by_server (serves 6))

abbrev pub freed_by : ℕ → ℕ → Event × Answered
freed_by c i = (bring c i small, by_server (serves 1))

abbrev pub lost_by : ℕ → ℕ → Event × Answered
lost_by c i = (bring c i small, nothing)

-- a message to a client after which it waits: one that counts and is not the last, or one that is passed over
abbrev pub heard_from : ℕ → ℕ → Event × Answered
heard_from i c = (deliver i c room out, by_client waits)

-- the third node's acknowledgement: an update's record of so many bytes
abbrev pub enough_from : ℕ → ℕ → ℕ → Event × Answered
enough_from i c len = (deliver i c room out, by_client (update len))

-- Client 0 deposits A: no row has a version, so it draws (1, 0). Nodes 1, 2 and 3 are counted; the update's record is a map, a pointer with three
-- digests, three none and three indices: 1 + 103 + 21 + 12 bytes. Nothing is to be freed.
unfoldable pub deposit_a : Script
deposit_a =
    begins 0 page_a (version 1 0) 3
    ++ (stored_by 0 1 ∷ stored_by 0 2 ∷ stored_by 0 3 ∷ lost_by 0 4 ∷ heard_from 1 0 ∷ heard_from 2 0 ∷ enough_from 3 0 137 ∷ concludes 0 (version 1 0) 1)

-- a dishonest node's acknowledgement of B
abbrev pub falsely_stored : Event × Answered
falsely_stored = (lie 4 1 (write_to_client (ToClient.stored (version 2 1))) room out, by_client waits)

-- Client 1 deposits B: (2, 1). Counted are nodes 2, 4 and 3. Node 4 keeps nothing and says "stored" twice, which counts once; node 1's store stays under
-- way. Nothing is to be freed.
unfoldable pub deposit_b : Script
deposit_b =
    begins 1 page_b (version 2 1) 5
    ++ (stored_by 1 2 ∷ stored_by 1 3 ∷ lost_by 1 4
    ∷ heard_from 2 1 ∷ falsely_stored ∷ falsely_stored ∷ enough_from 3 1 137
    ∷ concludes 1 (version 2 1) 1)

-- Client 2 begins to read: it raises its index to 1 (a map and 4 bytes), and its scan is carried out; the rows are under way.
unfoldable pub reading_begins : Script
reading_begins =
    (reading 2 room, by_client (update 5)) ∷ (carry 2 rows, by_server (serves 0))
    ∷ (hand 2 room, by_client scan) ∷ (carry 2 rows, by_server (serves 1287)) ∷ []

-- Client 1 deposits C: (3, 1). Node 1 gets the store of B only now, then its free list and the store of C; the others get the latter two. Acknowledgements
-- of B's are passed over, so that node 1 is counted last. The second scan shows index 1 of client 2: (3, 1) is frozen for it and (2, 1), the previous one,
-- reserved; so the list is empty.
unfoldable pub deposit_c : Script
deposit_c =
    begins 1 page_c (version 3 1) 2
    ++ (stored_by 1 1 ∷ freed_by 1 1 ∷ stored_by 1 1 ∷ freed_by 1 2 ∷ stored_by 1 2 ∷ freed_by 1 3 ∷ stored_by 1 3
    ∷ heard_from 1 1 ∷ heard_from 1 1 ∷ heard_from 2 1 ∷ heard_from 2 1 ∷ heard_from 3 1 ∷ heard_from 3 1 ∷ enough_from 1 1 137
    ∷ concludes 1 (version 3 1) 1)

-- Client 1 deposits B's page again, as D: (4, 1). Its update publishes the frozen pointer (1 + 103 + 7 + 7 + 103 + 12 bytes). The index is no higher than
-- the one kept; the previous version, (3, 1), is frozen, so the list is empty.
unfoldable pub deposit_d : Script
deposit_d =
    begins 1 page_b (version 4 1) 5
    ++ (freed_by 1 1 ∷ stored_by 1 1 ∷ freed_by 1 2 ∷ stored_by 1 2 ∷ freed_by 1 3 ∷ stored_by 1 3
    ∷ heard_from 1 1 ∷ heard_from 1 1 ∷ heard_from 2 1 ∷ heard_from 2 1 ∷ heard_from 3 1 ∷ enough_from 3 1 233
    ∷ concludes 1 (version 4 1) 1)

-- Client 1 deposits A's page again, as E: (5, 1). The previous version, (4, 1), is neither frozen nor reserved: the list has it (1 + 5 bytes).
unfoldable pub deposit_e : Script
deposit_e =
    begins 1 page_a (version 5 1) 3
    ++ (freed_by 1 1 ∷ stored_by 1 1 ∷ freed_by 1 2 ∷ stored_by 1 2 ∷ freed_by 1 3 ∷ stored_by 1 3
    ∷ heard_from 1 1 ∷ heard_from 1 1 ∷ heard_from 2 1 ∷ heard_from 2 1 ∷ heard_from 3 1 ∷ enough_from 3 1 233
    ∷ concludes 1 (version 5 1) 6)

-- a dishonest node's reply
abbrev pub falsely_replied : List ℕ → Event × Answered
falsely_replied bytes = (lie 4 2 (write_to_client (ToClient.reply (version 2 1) bytes)) room out, by_client waits)

-- The last list reaches nodes 1, 2 and 3. Then client 2 gets its rows: of (1, 0), (2, 1) and none it picks (2, 1), and asks nodes 2, 3 and 4 (bits 1, 2
-- and 3: 14). Node 4's reply has the version asked for, and the piece of A: it is counted and does not match. A second one, with the right piece, is
-- passed over. That of node 2 matches.
unfoldable pub reading_asks : Script
reading_asks =
    freed_by 1 1 ∷ freed_by 1 2 ∷ freed_by 1 3
    ∷ (hand 2 room, by_client (requests (version 2 1) 14))
    ∷ (bring 2 2 small, by_server (serves 12)) ∷ (bring 2 3 small, by_server (serves 12)) ∷ lost_by 2 4
    ∷ falsely_replied (0x00 ∷ 0x04 ∷ 0x41 ∷ []) ∷ falsely_replied (0x00 ∷ 0x18 ∷ 0xD7 ∷ 0xD7 ∷ 0xD7 ∷ [])
    ∷ heard_from 2 2 ∷ []

-- Node 3's reply is the second that matches: with node 2's it gives B.
abbrev pub last : Event × Answered
last = (deliver 3 2 room out, by_client (page (version 2 1) 6))

-- all but the last event: the reading is open
unfoldable pub opening : Script
unfolding deposit_a deposit_b reading_begins deposit_c deposit_d deposit_e reading_asks
opening = deposit_a ++ (deposit_b ++ (reading_begins ++ (deposit_c ++ (deposit_d ++ (deposit_e ++ reading_asks)))))

abbrev pub front : List Event
front = map (λ x. x.0) opening

abbrev pub events : List Event
events = front ++ (last.0 ∷ [])

-- the states that they leave
abbrev pub opened : State
opened = run measures honest front (fresh measures)

abbrev pub ended : State
ended = run measures honest events (fresh measures)

-- what the events of a list answer
unfoldable pub answers : Measures → (ℕ → Bool) → List Event → State → List Answered
answers s honest [] st = []
answers s honest (e ∷ es) st = (carry_out s honest e st).answer ∷ answers s honest es (carry_out s honest e st).state

-- ---- what the run leaves behind it

-- what is looked at after it
pub record Ending : Type 0 where
  pub answered : List Answered
  -- the filled places of the honest nodes' tables
  pub node_1 : List Held
  pub node_2 : List Held
  pub node_3 : List Held
  -- what is still under way from client 1 to node 4
  pub under_way : List (List ℕ)
  -- the versions that client 1 freezes, then those that it reserves, by client
  pub retained : List Version
  -- before the last event: how many operations have begun, and the reading
  pub asking : ℕ × Operation
  -- the history: how many events and operations, each operation, the versions put in as written with their operations, the replies with a piece
  pub time : ℕ
  pub begun : ℕ
  pub operations : List Operation
  pub puts : List (Version × ℕ)
  pub replied : List Reply

abbrev pub retained_in : Option (Read Client) → List Version
retained_in none = []
retained_in (some r) = still_retained r.value

abbrev pub put_by : Put → Version × ℕ
put_by x = (x.pointer.version, x.operation)

abbrev pub ending : List Answered → State → State → Ending
ending l before st =
    record {
      answered = l;
      node_1 = places measures st 1;
      node_2 = places measures st 2;
      node_3 = places measures st 3;
      under_way = st.to_node 1 4;
      retained = retained_in (read_client measures (st.clients 1));
      asking = (before.history.begun, before.history.operation 2);
      time = st.history.time;
      begun = st.history.begun;
      operations = map st.history.operation (0 ∷ 1 ∷ 2 ∷ 3 ∷ 4 ∷ 5 ∷ []);
      puts = map put_by st.history.puts;
      replied = st.history.replied;
    }

abbrev pub held : ℕ → ℕ → List ℕ → Held
held q c bytes = record { version = version q c; piece = bytes }

-- the pointer that the reading picks: B's pieces at nodes 2, 3 and 4
abbrev pub pointer_b : Pointer
pointer_b =
    record {
      version = version 2 1;
      named =
          record {
            nodes = 14;
            digests =
                piece_digest (write_version (version 2 1)) 2 (0x00 ∷ 0x0C ∷ 0x86 ∷ 0x86 ∷ 0x86 ∷ [])
                ∷ piece_digest (write_version (version 2 1)) 3 (0x00 ∷ 0x0A ∷ 0xE4 ∷ 0xE4 ∷ 0xE4 ∷ [])
                ∷ piece_digest (write_version (version 2 1)) 4 (0x00 ∷ 0x18 ∷ 0xD7 ∷ 0xD7 ∷ 0xD7 ∷ [])
                ∷ [];
          };
    }

-- a deposit that ended, and the reading
abbrev pub of_deposit : ℕ → List ℕ → ℕ → ℕ → Version → Operation
of_deposit c bytes from to v =
    record { client = c; page = some bytes; began = from; ended = some to; version = some v; pointer = none; given = none }

abbrev pub of_reading : Option ℕ → Option (List ℕ) → Operation
of_reading ended given =
    record {
      client = 2;
      page = none;
      began = 28;
      ended = ended;
      version = some (version 2 1);
      pointer = some pointer_b;
      given = given;
    }

-- a reply that client 2 was handed, at some event
abbrev pub reply_of : ℕ → ℕ → List ℕ → Reply
reply_of i time bytes = record { client = 2; node = i; version = version 2 1; piece = bytes; time = time; refused = false }

unfoldable pub expected : Ending
unfolding opening
expected =
    record {
      -- no event is refused
      answered = map (λ x. x.1) opening ++ (last.1 ∷ []);
      -- each honest node holds A, B, C and E: D is dropped, and what the reading picked is not, though its pieces are D's
      node_1 =
          held 1 0 (0x00 ∷ 0x01 ∷ 0x41 ∷ []) ∷ held 2 1 (0x00 ∷ 0x06 ∷ 0x20 ∷ 0x20 ∷ 0x20 ∷ []) ∷ held 3 1 (0x00 ∷ 0x00 ∷ [])
          ∷ held 5 1 (0x00 ∷ 0x01 ∷ 0x41 ∷ []) ∷ [];
      node_2 =
          held 1 0 (0x00 ∷ 0x02 ∷ 0x41 ∷ []) ∷ held 2 1 (0x00 ∷ 0x0C ∷ 0x86 ∷ 0x86 ∷ 0x86 ∷ []) ∷ held 3 1 (0x00 ∷ 0x00 ∷ [])
          ∷ held 5 1 (0x00 ∷ 0x02 ∷ 0x41 ∷ []) ∷ [];
      node_3 =
          held 1 0 (0x00 ∷ 0x03 ∷ 0x41 ∷ []) ∷ held 2 1 (0x00 ∷ 0x0A ∷ 0xE4 ∷ 0xE4 ∷ 0xE4 ∷ []) ∷ held 3 1 (0x00 ∷ 0x00 ∷ [])
          ∷ held 5 1 (0x00 ∷ 0x03 ∷ 0x41 ∷ []) ∷ [];
      -- all that client 1 sent after B's pieces: the free lists (tag 3) of B, C and D are empty, that of E has (4, 1) alone; between them the
      -- stores (tag 1) of (3, 1), (4, 1) and (5, 1) with their pieces 4
      under_way =
          (3 ∷ [])
          ∷ (1 ∷ 0 ∷ 0 ∷ 0 ∷ 3 ∷ 1 ∷ 0x00 ∷ 0x00 ∷ [])
          ∷ (3 ∷ [])
          ∷ (1 ∷ 0 ∷ 0 ∷ 0 ∷ 4 ∷ 1 ∷ 0x00 ∷ 0x18 ∷ 0xD7 ∷ 0xD7 ∷ 0xD7 ∷ [])
          ∷ (3 ∷ [])
          ∷ (1 ∷ 0 ∷ 0 ∷ 0 ∷ 5 ∷ 1 ∷ 0x00 ∷ 0x04 ∷ 0x41 ∷ [])
          ∷ (3 ∷ 0 ∷ 0 ∷ 0 ∷ 4 ∷ 1 ∷ [])
          ∷ [];
      -- for client 2, (3, 1) is frozen and (2, 1) reserved
      retained = no_version ∷ no_version ∷ version 3 1 ∷ no_version ∷ no_version ∷ version 2 1 ∷ [];
      asking = (6, of_reading none none);
      time = 102;
      begun = 6;
      -- the reading bears the version that it picked, and gave B's bytes
      operations =
          of_deposit 0 page_a 0 13 (version 1 0)
          ∷ of_deposit 1 page_b 14 27 (version 2 1)
          ∷ of_reading (some 101) (some page_b)
          ∷ of_deposit 1 page_c 32 52 (version 3 1)
          ∷ of_deposit 1 page_b 53 71 (version 4 1)
          ∷ of_deposit 1 page_a 72 90 (version 5 1)
          ∷ [];
      puts = (version 1 0, 0) ∷ (version 2 1, 1) ∷ (version 3 1, 3) ∷ (version 4 1, 4) ∷ (version 5 1, 5) ∷ [];
      -- A's piece and B's from node 4, B's from nodes 2 and 3
      replied =
          reply_of 4 98 (0x00 ∷ 0x04 ∷ 0x41 ∷ [])
          ∷ reply_of 4 99 (0x00 ∷ 0x18 ∷ 0xD7 ∷ 0xD7 ∷ 0xD7 ∷ [])
          ∷ reply_of 2 100 (0x00 ∷ 0x0C ∷ 0x86 ∷ 0x86 ∷ 0x86 ∷ [])
          ∷ reply_of 3 101 (0x00 ∷ 0x0A ∷ 0xE4 ∷ 0xE4 ∷ 0xE4 ∷ [])
          ∷ [];
    }

-- the run answers and ends so; at most t nodes are dishonest, and lent memory has bytes in it
pub record Worked : Type 0 where
  pub ends : ending (answers measures honest events (fresh measures)) opened ended ≡ expected
  pub few : dishonest honest measures.n ≤ measures.t
  pub lent : AllLent events

-- ---- what demand 3 says of it

pub record Claimed : Type 0 where
  -- its premise: no two different strings of the run share a digest
  pub differ : Differ (RunString measures honest events (fresh measures))
  -- its conclusion, at the end and before the last event
  pub claim : Claim measures honest ended
  pub claim_open : Claim measures honest opened
  -- Its clauses here, each with what it asks for. B's deposit and the reading bear (2, 1): they concern the same deposit.
  pub equal : Bears ended.history 1 (version 2 1) × Bears ended.history 2 (version 2 1) × Alike ended.history 1 2
  -- A's deposit bears (1, 0) and the reading (2, 1): they do not
  pub alike : Alike ended.history 0 2 → ⊥
  -- A's deposit ended before the reading began: (1, 0) is no higher than (2, 1); also before B's began: it is lower
  pub order : Precedes ended.history 0 2 × (below (version 2 1) (version 1 0) ≡ false)
  pub strict : Precedes ended.history 0 1 × (below (version 1 0) (version 2 1) ≡ true)
  -- the reading gave its deposit's bytes
  pub exact : ((ended.history.operation 2).given ≡ some page_b)
      × ((d : ℕ) × Concerns ended.history 2 d × IsDeposit ended.history d page_b)
  -- node 1's table reads, with four places filled
  pub reads : (read_table measures (ended.nodes 1) ≡ some (record { value = places measures ended 1; rest = [] }))
      × (length (places measures ended 1) ≡ 4)
  -- before the last event the reading is open, and nodes 2 and 3 hold their pieces of its deposit
  pub held : Open opened.history 2
      × ((d : ℕ) × (bytes : List ℕ) × Concerns opened.history 2 d × IsDeposit opened.history d bytes
      × (hand_back (version 2 1) (places measures opened 2) ≡ some (piece 2 bytes 2))
      × (hand_back (version 2 1) (places measures opened 3) ≡ some (piece 2 bytes 3)))
  -- of the pieces that came to it, A's from node 4 does not match, and those of B from node 4 and node 2 do
  pub matched : (matches measures pointer_b 4 (0x00 ∷ 0x04 ∷ 0x41 ∷ []) ≡ true → ⊥)
      × (matches measures pointer_b 4 (0x00 ∷ 0x18 ∷ 0xD7 ∷ 0xD7 ∷ 0xD7 ∷ []) ≡ true)
      × (matches measures pointer_b 2 (0x00 ∷ 0x0C ∷ 0x86 ∷ 0x86 ∷ 0x86 ∷ []) ≡ true)
  -- node 1 holds three pieces of client 1, and may hold six
  pub few : (pieces_of 1 (places measures ended 1) ≡ 3) × (pieces_of 1 (places measures ended 1) ≤ 2 * 3)
