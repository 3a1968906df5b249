-- What the service does with a run's events, and what its memory shows.
use Rattle.std.specs.Prelude.{◌≡◌, Bool, true, false, List, [], ◌∷◌, ◌++◌, ℕ, ◌≤◌, ◌<◌, length}
use Rattle.parties.specs.declared.Measures.{Measures}
use Rattle.parties.specs.protocol.ClientEvents.{start_deposit, start_reading, update_answer, scan_answer, client_message}
use Rattle.parties.specs.protocol.DirectoryEvents.{directory_update}
use Rattle.parties.specs.protocol.NodeEvents.{node_message}
use Rattle.parties.specs.protocol.Run.{Call, scan_call, update_call, Return, updated, rows, State, Event, deposit, reading, carry, hand, bring, deliver, lie, fresh, run}
use Rattle.title.specs.Memory.{memory_size, directory_in, table_at, table_in, record_at, record_in, PutBack}

-- the memory has the tables and records of a state
pub record MemoryShows (s : Measures) (memory : List ℕ) (st : State) : Type 0 where
  pub long : memory_size s ≤ length memory
  pub directory : directory_in s memory ≡ st.directory
  pub nodes : (i : ℕ) → 1 ≤ i → i ≤ s.n → table_in s i memory ≡ st.nodes i
  pub clients : (c : ℕ) → c < s.m → record_in s c memory ≡ st.clients c

-- ---- what each of its functions leaves of the memory, as its contract says; a scan leaves it as it was

abbrev pub Deposits : Measures → ℕ → List ℕ → List ℕ → List ℕ → Type 0
Deposits s c page memory after = PutBack memory (record_at s c) (record_in s c memory) (start_deposit s c (record_in s c memory) page).client after

abbrev pub Reads : Measures → ℕ → List ℕ → List ℕ → List ℕ → Type 0
Reads s c room memory after = PutBack memory (record_at s c) (record_in s c memory) (start_reading s c (record_in s c memory) room).client after

abbrev pub Updated : Measures → ℕ → List ℕ → List ℕ → List ℕ → Type 0
Updated s c room memory after = PutBack memory (record_at s c) (record_in s c memory) (update_answer s c (record_in s c memory) room).client after

abbrev pub Scanned : Measures → ℕ → List ℕ → List ℕ → List ℕ → List ℕ → Type 0
Scanned s c b room memory after = PutBack memory (record_at s c) (record_in s c memory) (scan_answer s c (record_in s c memory) b room).client after

abbrev pub ToClient : Measures → ℕ → ℕ → List ℕ → List ℕ → List ℕ → List ℕ → List ℕ → Type 0
ToClient s c i message room out memory after =
    PutBack memory (record_at s c) (record_in s c memory) (client_message s c i (record_in s c memory) message room out).client after

abbrev pub Updates : Measures → ℕ → List ℕ → List ℕ → List ℕ → Type 0
Updates s c fields memory after = PutBack memory 0 (directory_in s memory) (directory_update s c (directory_in s memory) fields).table after

abbrev pub ToNode : Measures → ℕ → List ℕ → List ℕ → List ℕ → List ℕ → Type 0
ToNode s i message room memory after = PutBack memory (table_at s i) (table_in s i memory) (node_message s i (table_in s i memory) message room).table after

-- ---- which function an event is handed to; the queues are the run's

abbrev pub Called : Measures → ℕ → List Call → List ℕ → List ℕ → Type 0
Called s c [] memory after = after ≡ memory
Called s c (scan_call ∷ q) memory after = after ≡ memory
Called s c (update_call fields ∷ q) memory after = Updates s c fields memory after

abbrev pub Returned : Measures → ℕ → List ℕ → List Return → List ℕ → List ℕ → Type 0
Returned s c room [] memory after = after ≡ memory
Returned s c room (updated ∷ q) memory after = Updated s c room memory after
Returned s c room (rows b ∷ q) memory after = Scanned s c b room memory after

abbrev pub Brought : Measures → Bool → ℕ → List ℕ → List (List ℕ) → List ℕ → List ℕ → Type 0
Brought s true i room [] memory after = after ≡ memory
Brought s true i room (m ∷ q) memory after = ToNode s i m room memory after
Brought s false i room q memory after = after ≡ memory

abbrev pub Delivered : Measures → ℕ → ℕ → List ℕ → List ℕ → List (List ℕ) → List ℕ → List ℕ → Type 0
Delivered s c i room out [] memory after = after ≡ memory
Delivered s c i room out (m ∷ q) memory after = ToClient s c i m room out memory after

abbrev pub Lied : Measures → Bool → ℕ → ℕ → List ℕ → List ℕ → List ℕ → List ℕ → List ℕ → Type 0
Lied s true c i bytes room out memory after = after ≡ memory
Lied s false c i bytes room out memory after = ToClient s c i bytes room out memory after

abbrev pub Handed : Measures → (ℕ → Bool) → Event → State → List ℕ → List ℕ → Type 0
Handed s honest (deposit c page) st memory after = Deposits s c page memory after
Handed s honest (reading c room) st memory after = Reads s c room memory after
Handed s honest (carry c room) st memory after = Called s c (st.calls c) memory after
Handed s honest (hand c room) st memory after = Returned s c room (st.returns c) memory after
Handed s honest (bring c i room) st memory after = Brought s (honest i) i room (st.to_node c i) memory after
Handed s honest (deliver i c room out) st memory after = Delivered s c i room out (st.to_client i c) memory after
Handed s honest (lie i c bytes room out) st memory after = Lied s (honest i) c i bytes room out memory after

-- ---- the memory after a list of events, from one that shows fresh tables and records

pub data Serves (s : Measures) (honest : ℕ → Bool) : List Event → List ℕ → Type 0 where
  begins : (memory : List ℕ) → MemoryShows s memory (fresh s) → Serves s honest [] memory
  goes : (es : List Event) (e : Event) (memory after : List ℕ) → Serves s honest es memory
      → Handed s honest e (run s honest es (fresh s)) memory after → Serves s honest (es ++ (e ∷ [])) after
