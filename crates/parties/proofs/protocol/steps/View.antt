-- How a run's state, in bytes, shows a model.
use mathlib.Core.Path.{◌≡◌}
use mathlib.Core.Bool.{Bool, true, false}
use mathlib.Core.List.{List, [], ◌∷◌, map}
use Prim.Native.Nat.{ℕ, ◌≤◌, ◌<◌}
use Rattle.coding.specs.Bytes.{tabulate}
use Rattle.parties.specs.declared.Measures.{Measures}
use Rattle.parties.specs.protocol.Directory.{Row, write_record, write_directory}
use Rattle.parties.specs.protocol.NodeTable.{Held, write_table}
use Rattle.parties.specs.protocol.Message.{ToNode, ToClient, write_to_node, write_to_client}
use Rattle.parties.specs.protocol.Client.{Phase, Client, write_client}
use Rattle.parties.specs.protocol.Deposit.{digests_of, deposit_fields}
use Rattle.parties.specs.protocol.Reading.{reading_fields}
use Rattle.parties.specs.protocol.Run.{Call, Return, scan_call, update_call, updated, rows, State, Event, Result}
use Rattle.parties.specs.protocol.Claim.{Sane}
use Rattle.parties.proofs.protocol.formats.FormatLaws.{Each}
use Rattle.parties.proofs.protocol.formats.RowLaws.{GoodRow}
use Rattle.parties.proofs.protocol.formats.NodeTableLaws.{GoodTable}
use Rattle.parties.proofs.protocol.formats.MessageLaws.{GoodToNode, GoodToClient}
use Rattle.parties.proofs.protocol.formats.ClientLaws.{GoodClient}
use Rattle.parties.proofs.protocol.model.Model.{Rows, Turn, Clients, Model, Next, rows_of}

-- ---- values of a model

abbrev pub phase_of : Measures → Turn → Phase
phase_of z Turn.idle = Phase.idle
phase_of z (Turn.scanning bytes) = Phase.scanning bytes
phase_of z (Turn.scanned bytes a) = Phase.scanning bytes
phase_of z (Turn.storing v bytes a) = Phase.storing v a (digests_of z v bytes)
phase_of z (Turn.updating x) = Phase.updating x
phase_of z (Turn.updated x) = Phase.updating x
phase_of z (Turn.freezing x) = Phase.freezing x
phase_of z (Turn.noticing x a) = Phase.freezing x
phase_of z Turn.raising = Phase.raising
phase_of z Turn.raised = Phase.raising
phase_of z Turn.picking = Phase.picking
phase_of z (Turn.picked a) = Phase.picking
phase_of z (Turn.fetching x n m ps) = Phase.fetching x n m ps

-- client c's record
abbrev pub client_at : Measures → Clients → ℕ → Client
client_at z k c =
    record {
      phase = phase_of z (k.turn c);
      reading_index = record { 0 = k.reading c };
      written = k.written c;
      frozen = tabulate z.m (k.frozen c);
      reserved = tabulate z.m (k.reserved c);
      frozen_indices = tabulate z.m (λ q. record { 0 = k.indices c q });
    }

abbrev pub row_at : Measures → Rows → ℕ → Row
row_at z a w =
    record {
      written = a.written w;
      frozen = tabulate z.m (a.frozen w);
      frozen_indices = tabulate z.m (λ q. record { 0 = a.indices w q });
      reading_index = record { 0 = a.reading w };
    }

abbrev pub rows_at : Measures → Rows → List Row
rows_at z a = tabulate z.m (row_at z a)

-- the call that is under way from a client with this record
abbrev pub calls_of : Client → Turn → List Call
calls_of x Turn.idle = []
calls_of x (Turn.scanning bytes) = scan_call ∷ []
calls_of x (Turn.scanned bytes a) = []
calls_of x (Turn.storing v bytes a) = []
calls_of x (Turn.updating p) = update_call (write_record (deposit_fields x p)) ∷ []
calls_of x (Turn.updated p) = []
calls_of x (Turn.freezing p) = scan_call ∷ []
calls_of x (Turn.noticing p a) = []
calls_of x Turn.raising = update_call (write_record (reading_fields x.reading_index)) ∷ []
calls_of x Turn.raised = []
calls_of x Turn.picking = scan_call ∷ []
calls_of x (Turn.picked a) = []
calls_of x (Turn.fetching p n m ps) = []

-- the answer that is under way to a client
abbrev pub returns_of : Measures → Turn → List Return
returns_of z Turn.idle = []
returns_of z (Turn.scanning bytes) = []
returns_of z (Turn.scanned bytes a) = rows (write_directory z (rows_at z a)) ∷ []
returns_of z (Turn.storing v bytes a) = []
returns_of z (Turn.updating x) = []
returns_of z (Turn.updated x) = updated ∷ []
returns_of z (Turn.freezing x) = []
returns_of z (Turn.noticing x a) = rows (write_directory z (rows_at z a)) ∷ []
returns_of z Turn.raising = []
returns_of z Turn.raised = updated ∷ []
returns_of z Turn.picking = []
returns_of z (Turn.picked a) = rows (write_directory z (rows_at z a)) ∷ []
returns_of z (Turn.fetching x n m ps) = []

abbrev pub GoodRows : Measures → Rows → Type 0
GoodRows z a = (w : ℕ) → w < z.m → GoodRow z (row_at z a w)

-- rows under way are well formed
abbrev pub GoodTurn : Measures → Turn → Type 0
GoodTurn z Turn.idle = Unit {0}
GoodTurn z (Turn.scanning bytes) = Unit {0}
GoodTurn z (Turn.scanned bytes a) = GoodRows z a
GoodTurn z (Turn.storing v bytes a) = Unit {0}
GoodTurn z (Turn.updating x) = Unit {0}
GoodTurn z (Turn.updated x) = Unit {0}
GoodTurn z (Turn.freezing x) = Unit {0}
GoodTurn z (Turn.noticing x a) = GoodRows z a
GoodTurn z Turn.raising = Unit {0}
GoodTurn z Turn.raised = Unit {0}
GoodTurn z Turn.picking = Unit {0}
GoodTurn z (Turn.picked a) = GoodRows z a
GoodTurn z (Turn.fetching x n m ps) = Unit {0}

-- ---- what shows it

pub record ClientShows (z : Measures) (b : List ℕ) (cs : List Call) (rs : List Return) (k : Clients) (c : ℕ) : Type 0 where
  pub bytes : b ≡ write_client z (client_at z k c)
  pub good : GoodClient z (client_at z k c)
  pub calls : cs ≡ calls_of (client_at z k c) (k.turn c)
  pub returns : rs ≡ returns_of z (k.turn c)
  pub turn : GoodTurn z (k.turn c)

pub record DirectoryShows (z : Measures) (b : List ℕ) (a : Rows) : Type 0 where
  pub bytes : b ≡ write_directory z (rows_at z a)
  pub good : GoodRows z a

pub record TableShows (z : Measures) (b : List ℕ) (l : List Held) : Type 0 where
  pub bytes : b ≡ write_table z l
  pub good : GoodTable z l

pub record ToNodeShows (z : Measures) (b : List (List ℕ)) (q : List ToNode) : Type 0 where
  pub bytes : b ≡ map write_to_node q
  pub good : Each (GoodToNode z) q

pub record ToClientShows (z : Measures) (b : List (List ℕ)) (q : List ToClient) : Type 0 where
  pub bytes : b ≡ map write_to_client q
  pub good : Each (GoodToClient z) q

pub record Shows (z : Measures) (honest : ℕ → Bool) (st : State) (s : Model) : Type 0 where
  pub directory : DirectoryShows z st.directory (rows_of s)
  pub client : (c : ℕ) → c < z.m → ClientShows z (st.clients c) (st.calls c) (st.returns c) s.c c
  pub table : (i : ℕ) → honest i ≡ true → 1 ≤ i → i ≤ z.n → TableShows z (st.nodes i) (s.n.held i)
  pub to_node : (c i : ℕ) → c < z.m → honest i ≡ true → 1 ≤ i → i ≤ z.n → ToNodeShows z (st.to_node c i) (s.n.to_node c i)
  pub to_client : (i c : ℕ) → honest i ≡ true → 1 ≤ i → i ≤ z.n → c < z.m → ToClientShows z (st.to_client i c) (s.n.to_client i c)
  -- nothing is under way from a stranger, or kept for a dishonest node
  pub strangers : (c i : ℕ) → z.m ≤ c → st.to_node c i ≡ []
  pub liars : (i c : ℕ) → honest i ≡ false → st.to_client i c ≡ []
  pub history : st.history ≡ s.h

-- an event carried out is a step of the model, and its answer is sane
pub record Follows (z : Measures) (honest : ℕ → Bool) (s : Model) (e : Event) (r : Result) : Type 0 where
  pub model : Model
  pub step : Next z honest s model
  pub shows : Shows z honest r.state model
  pub sane : Sane e r.answer
