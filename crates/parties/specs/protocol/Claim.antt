-- The claim about every run, in document 01's words, read off the history and the tables.
use Rattle.std.specs.Prelude.{◌≡◌, Bool, true, false, cond, ◌⊎◌, ◌↔◌, List, [], ◌∷◌, ℕ, zero, suc, ◌+◌, ◌*◌, ◌≤◌, ◌<◌, eqb}
use Rattle.std.proofs.Math.Option.{Option, some, none}
use Rattle.coding.specs.Bytes.{Bytes}
use Rattle.coding.specs.Pieces.{piece}
use Rattle.coding.specs.Placed.{digest_input}
use Rattle.coding.specs.Sha256.{sha256}
use Rattle.parties.specs.declared.Measures.{Measures}
use Rattle.parties.specs.declared.Version.{Version}
use Rattle.parties.specs.protocol.Version.{below}
use Rattle.parties.specs.protocol.Format.{Read}
use Rattle.parties.specs.protocol.Nodes.{stands}
use Rattle.parties.specs.protocol.Pointer.{Pointer, none_pointer, write_version}
use Rattle.parties.specs.protocol.NodeTable.{Held, read_table}
use Rattle.parties.specs.protocol.Node.{hand_back}
use Rattle.parties.specs.protocol.Reading.{matches}
use Rattle.parties.specs.protocol.Answer.{Served, refuses, serves, number}
use Rattle.parties.specs.protocol.Run.{Put, Reply, History, State, Event, deposit, reading, carry, hand, bring, deliver, lie, Answered, nothing, by_client, by_server, carry_out}

-- ---- operations

-- an operation bears a version
abbrev pub Bears : History → ℕ → Version → Type 0
Bears h o v = (o < h.begun) × ((h.operation o).version ≡ some v)

abbrev pub IsDeposit : History → ℕ → List ℕ → Type 0
IsDeposit h o bytes = (h.operation o).page ≡ some bytes

abbrev pub IsReading : History → ℕ → Type 0
IsReading h o = (h.operation o).page ≡ none

-- an operation is open until it ends
abbrev pub Open : History → ℕ → Type 0
Open h o = (o < h.begun) × ((h.operation o).ended ≡ none)

-- one operation ended before another began
abbrev pub Precedes : History → ℕ → ℕ → Type 0
Precedes h e o = (time : ℕ) × ((h.operation e).ended ≡ some time) × (time < (h.operation o).began)

-- the first update that put a pointer in as written was that of deposit d
abbrev pub FirstPut : Pointer → ℕ → List Put → Type 0
FirstPut p d [] = ⊥
FirstPut p d (x ∷ l) = ((x.pointer ≡ p) × (x.operation ≡ d)) ⊎ ((x.pointer ≡ p → ⊥) × FirstPut p d l)

-- a deposit concerns itself; a reading whose pointer is not none concerns the deposit whose update first put that pointer in as written
pub data Concerns (h : History) (o d : ℕ) : Type 0 where
  itself : (bytes : List ℕ) → IsDeposit h o bytes → o ≡ d → Concerns h o d
  shows : (p : Pointer) → IsReading h o → (h.operation o).pointer ≡ some p → (p ≡ none_pointer → ⊥) → FirstPut p d h.puts → Concerns h o d

-- a reading that found nothing
abbrev pub FoundNothing : History → ℕ → Type 0
FoundNothing h o = IsReading h o × ((h.operation o).pointer ≡ some none_pointer)

-- the operations concern the same deposit, or both are readings that found nothing
abbrev pub Alike : History → ℕ → ℕ → Type 0
Alike h o p = ((d : ℕ) × Concerns h o d × Concerns h p d) ⊎ (FoundNothing h o × FoundNothing h p)

-- ---- replies

-- one of a list
pub data Member {A : Type 0} (a : A) : List A → Type 0 where
  here : (l : List A) → Member a (a ∷ l)
  there : (b : A) (l : List A) → Member a l → Member a (b ∷ l)

-- each piece that came with a pointer's version from a node that it names matches exactly when it is the page's piece at that node
abbrev pub MatchesOwn : Measures → History → Pointer → List ℕ → Type 0
MatchesOwn s h p bytes =
    (r : Reply) → Member r h.replied → r.version ≡ p.version → 1 ≤ r.node → r.node ≤ s.n → stands p.named.nodes r.node ≡ true
    → (matches s p r.node r.piece ≡ true) ↔ (r.piece ≡ piece s.k bytes r.node)

-- ---- tables

-- what a node's table shows: its filled places, or nothing if it does not read
abbrev pub shown : Option (Read (List Held)) → List Held
shown none = []
shown (some r) = r.value

abbrev pub places : Measures → State → ℕ → List Held
places s st i = shown (read_table s (st.nodes i))

-- a piece's writer is the client in its version
abbrev pub pieces_of : ℕ → List Held → ℕ
pieces_of w [] = 0
pieces_of w (x ∷ l) = cond (eqb x.version.client w) (suc (pieces_of w l)) (pieces_of w l)

-- ---- the claim

pub record Claim (s : Measures) (honest : ℕ → Bool) (st : State) : Type 0 where
  -- two version numbers borne are equal exactly when their operations concern the same deposit, or both are readings that found nothing
  pub equal : (o p : ℕ) (v w : Version) → Bears st.history o v → Bears st.history p w → v ≡ w → Alike st.history o p
  pub alike : (o p : ℕ) (v w : Version) → Bears st.history o v → Bears st.history p w → Alike st.history o p → v ≡ w
  -- if one operation ended before another began, its number is no higher, and lower if the later is a deposit
  pub order : (e o : ℕ) (v w : Version) → Bears st.history e v → Bears st.history o w → Precedes st.history e o → below w v ≡ false
  pub strict : (e o : ℕ) (v w : Version) (bytes : List ℕ) → Bears st.history e v → Bears st.history o w → Precedes st.history e o
      → IsDeposit st.history o bytes → below v w ≡ true
  -- a reading that ended with a page gave its deposit's exact bytes
  pub exact : (o : ℕ) (given : List ℕ) → o < st.history.begun → (st.history.operation o).given ≡ some given
      → (d : ℕ) × Concerns st.history o d × IsDeposit st.history d given
  -- every honest node's table reads whole: what it holds is never empty for want of form
  pub reads : (i : ℕ) → honest i ≡ true → 1 ≤ i → i ≤ s.n → read_table s (st.nodes i) ≡ some (record { value = places s st i; rest = [] })
  -- every honest node named by an open reading's pointer holds its piece of that reading's deposit
  pub held : (o : ℕ) (p : Pointer) → Open st.history o → IsReading st.history o → (st.history.operation o).pointer ≡ some p
      → (d : ℕ) × (bytes : List ℕ) × Concerns st.history o d × IsDeposit st.history d bytes
      × ((i : ℕ) → honest i ≡ true → 1 ≤ i → i ≤ s.n → stands p.named.nodes i ≡ true
      → hand_back p.version (places s st i) ≡ some (piece s.k bytes i))
  -- a named node's piece that comes with a reading's version matches exactly when it is that deposit's piece at that node (document 02, i)
  pub matched : (o : ℕ) (p : Pointer) → o < st.history.begun → IsReading st.history o → (st.history.operation o).pointer ≡ some p
      → (p ≡ none_pointer → ⊥)
      → (d : ℕ) × (bytes : List ℕ) × Concerns st.history o d × IsDeposit st.history d bytes × MatchesOwn s st.history p bytes
  -- no honest node holds over 2m pieces of one writer among m clients
  pub few : (i w : ℕ) → honest i ≡ true → 1 ≤ i → i ≤ s.n → w < s.m → pieces_of w (places s st i) ≤ 2 * s.m

-- ---- its premises

-- the nodes from 1 to n that are not honest
abbrev pub dishonest : (ℕ → Bool) → ℕ → ℕ
dishonest honest zero = 0
dishonest honest (suc n) = cond (honest (suc n)) 0 1 + dishonest honest n

-- lent memory has bytes in it
abbrev pub Lent : Event → Type 0
Lent (deposit c bytes) = Bytes bytes
Lent (reading c room) = Bytes room
Lent (carry c room) = Bytes room
Lent (hand c room) = Bytes room
Lent (bring c i room) = Bytes room
Lent (deliver i c room out) = Bytes room × Bytes out
Lent (lie i c bytes room out) = Bytes bytes × Bytes room × Bytes out

abbrev pub AllLent : List Event → Type 0
AllLent [] = Unit {0}
AllLent (e ∷ es) = Lent e × AllLent es

-- the strings that are digested: version, node and piece (document 02, i). The pieces of a run are those that its deposits cut and those that come
-- in its replies, a reply's piece being taken with its version and sender
pub data StringOf (s : Measures) (h : History) (x : List ℕ) : Type 0 where
  cut : (o i : ℕ) (v : Version) (bytes : List ℕ) → Bears h o v → IsDeposit h o bytes → 1 ≤ i → i ≤ s.n
      → x ≡ digest_input (write_version v) i (piece s.k bytes i) → StringOf s h x
  came : (r : Reply) → Member r h.replied → 1 ≤ r.node → r.node ≤ s.n
      → x ≡ digest_input (write_version r.version) r.node r.piece → StringOf s h x

-- a string of the history at the beginning, at the end, or at some event between
abbrev pub RunString : Measures → (ℕ → Bool) → List Event → State → List ℕ → Type 0
RunString s honest [] st x = StringOf s st.history x
RunString s honest (e ∷ es) st x = StringOf s st.history x ⊎ RunString s honest es (carry_out s honest e st).state x

-- no two different ones share a digest
abbrev pub Differ : (List ℕ → Type 0) → Type 0
Differ strings = (x y : List ℕ) → strings x → strings y → sha256 x ≡ sha256 y → x ≡ y

-- ---- what keeps the claim from being empty

-- the papers' number of what an event answered
abbrev pub served_number : Served → Option ℕ
served_number (refuses n) = some n
served_number (serves len) = none

abbrev pub number_of : Answered → Option ℕ
number_of nothing = none
number_of (by_client a) = number a
number_of (by_server a) = served_number a

abbrev pub IsLie : Event → Type 0
IsLie (deposit c bytes) = ⊥
IsLie (reading c room) = ⊥
IsLie (carry c room) = ⊥
IsLie (hand c room) = ⊥
IsLie (bring c i room) = ⊥
IsLie (deliver i c room out) = ⊥
IsLie (lie i c bytes room out) = Unit {0}

-- 8, 9, 11, 12 and 14 never come, and 4 comes only for bytes of a dishonest node
pub record Sane (e : Event) (a : Answered) : Type 0 where
  pub room : number_of a ≡ some 8 → ⊥
  pub matching : number_of a ≡ some 9 → ⊥
  pub form : number_of a ≡ some 4 → IsLie e
  pub lengths : number_of a ≡ some 11 → ⊥
  pub rules : number_of a ≡ some 12 → ⊥
  pub owners : number_of a ≡ some 14 → ⊥
