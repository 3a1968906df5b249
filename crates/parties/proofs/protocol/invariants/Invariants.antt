-- What holds of every model that a run comes to: the groups of invariants, each a record.
use mathlib.Core.Path.{◌≡◌}
use mathlib.Core.Bool.{Bool, true, false, not, ◌&&◌, ◌||◌}
use mathlib.Core.Logic.{◌⊎◌}
use mathlib.Core.List.{List, [], ◌∷◌}
use Prim.Native.Nat.{ℕ, ◌+◌, ◌-◌, ◌*◌, ◌/◌, ◌%◌, ◌^◌, ◌≤◌, ◌<◌}
use lib.ListN.{length, get_or}
use Rattle.coding.specs.Bytes.{Bytes}
use Rattle.coding.specs.Pieces.{piece}
use Rattle.parties.specs.declared.Measures.{Measures}
use Rattle.parties.specs.declared.Version.{Version}
use Rattle.parties.specs.protocol.Version.{no_version}
use Rattle.parties.specs.protocol.Nodes.{count, stands}
use Rattle.parties.specs.protocol.Pointer.{Pointer, none_pointer}
use Rattle.parties.specs.protocol.NodeTable.{Held, in_order}
use Rattle.parties.specs.protocol.Node.{hand_back, listed}
use Rattle.parties.specs.protocol.NodeEvents.{is_held}
use Rattle.parties.specs.protocol.Message.{ToNode, ToClient}
use Rattle.parties.specs.protocol.Reading.{same_version}
use Rattle.parties.specs.protocol.Claim.{Member}
use Rattle.parties.proofs.protocol.formats.FormatLaws.{Each}
use Rattle.parties.proofs.protocol.model.Model.{num, ver, Rows, Turn, Clients, Nodes, Past, Model, shown_reading, offer, last, pointed}

-- ---- pointers and versions of a client

-- a pointer is none, or one that a deposit of client w formed
pub data Known (p : Past) (w : ℕ) (x : Pointer) : Type 0 where
  absent : x ≡ none_pointer → Known p w x
  formed : p.drawn (ver x) ≡ true → p.pointers (ver x) ≡ x → x.version.client ≡ w → 256 ≤ ver x → Known p w x

pub data KnownVersion (p : Past) (w : ℕ) (v : Version) : Type 0 where
  absent : v ≡ no_version → KnownVersion p w v
  drawn : p.drawn (num v) ≡ true → v.client ≡ w → 256 ≤ num v → KnownVersion p w v

pub record Storing (z : Measures) (p : Past) (k : Clients) (w : ℕ) (v : Version) (bytes : List ℕ) (a : ℕ) : Type 0 where
  pub drawn : p.drawn (num v) ≡ true
  pub page : p.pages (num v) ≡ bytes
  pub pointer : p.pointers (num v) ≡ none_pointer
  pub client : v.client ≡ w
  pub newer : ver (k.written w) < num v
  pub sequence : (1 ≤ v.sequence.0) × (v.sequence.0 < 2 ^ 32)
  pub nodes : a < 2 ^ z.n
  pub few : count a < z.t + z.k

pub record Forming (p : Past) (k : Clients) (w : ℕ) (x : Pointer) : Type 0 where
  pub drawn : p.drawn (ver x) ≡ true
  pub pointer : p.pointers (ver x) ≡ x
  pub client : x.version.client ≡ w
  pub newer : ver (k.written w) < ver x
  pub proper : 256 ≤ ver x

-- the pointers of rows: each row's are known of its client, so that none is another's
abbrev pub KnownRows : Measures → Past → Rows → Type 0
KnownRows z p a = (w : ℕ) → w < z.m → Known p w (a.written w) × ((q : ℕ) → Known p w (a.frozen w q))

-- the facts of a turn of client w
abbrev pub Own : Measures → Past → Clients → ℕ → Turn → Type 0
Own z p k w Turn.idle = Unit {0}
Own z p k w (Turn.scanning bytes) = Bytes bytes × (length bytes ≤ z.k * z.f - 4)
Own z p k w (Turn.scanned bytes a) = Bytes bytes × (length bytes ≤ z.k * z.f - 4) × (a.written w ≡ k.written w) × KnownRows z p a
Own z p k w (Turn.storing v bytes a) = Storing z p k w v bytes a
Own z p k w (Turn.updating x) = Forming p k w x
Own z p k w (Turn.updated x) = Forming p k w x
Own z p k w (Turn.freezing x) = Forming p k w x
Own z p k w (Turn.noticing x a) = Forming p k w x × KnownRows z p a
Own z p k w Turn.raising = 1 ≤ k.reading w
Own z p k w Turn.raised = 1 ≤ k.reading w
Own z p k w Turn.picking = 1 ≤ k.reading w
Own z p k w (Turn.picked a) = (1 ≤ k.reading w) × KnownRows z p a
Own z p k w (Turn.fetching x n m ps) = (1 ≤ k.reading w) × (x.version.client < z.m) × Known p x.version.client x × (256 ≤ ver x)

pub record Owned (z : Measures) (s : Model) : Type 0 where
  pub own : (w : ℕ) → w < z.m → Own z s.p s.c w (s.c.turn w)
  pub written : (w : ℕ) → w < z.m → Known s.p w (s.c.written w)
  pub frozen : (w q : ℕ) → w < z.m → Known s.p w (s.c.frozen w q) × (ver (s.c.frozen w q) ≤ ver (s.c.written w))
  pub reserved : (w q : ℕ) → w < z.m → KnownVersion s.p w (s.c.reserved w q) × (num (s.c.reserved w q) ≤ ver (s.c.written w))
  pub shown : (w q : ℕ) → w < z.m → Known s.p w (s.d.frozen w q) × (ver (s.d.frozen w q) ≤ ver (s.c.written w))
  pub self : (w : ℕ) → w < z.m → (s.c.frozen w w ≡ none_pointer) × (s.c.reserved w w ≡ no_version)

-- ---- versions drawn

abbrev pub unnum : ℕ → Version
unnum v = record { sequence = record { 0 = v / 256 }; client = v % 256 }

-- a version's pointer, once t + k nodes acknowledged it
pub record Pointed (z : Measures) (p : Past) (v : ℕ) : Type 0 where
  pub nodes : ℕ
  pub pointer : p.pointers v ≡ pointed z (unnum v) (p.pages v) nodes
  pub within : nodes < 2 ^ z.n
  pub enough : count nodes ≡ z.t + z.k

pub record DrawnVersion (z : Measures) (s : Model) (v : ℕ) : Type 0 where
  pub proper : 256 ≤ v
  pub writer : v % 256 < z.m
  pub sequence : v / 256 < 2 ^ 32
  pub before : v ≤ last s.c (v % 256)
  pub bytes : Bytes (s.p.pages v)
  pub long : length (s.p.pages v) ≤ z.k * z.f - 4
  pub pointer : (s.p.pointers v ≡ none_pointer) ⊎ Pointed z s.p v

abbrev pub Drawing : Measures → Model → Type 0
Drawing z s = (v : ℕ) → s.p.drawn v ≡ true → DrawnVersion z s v

-- ---- the directory's rows and the clients

-- no pointer is put in and not yet written
abbrev pub Unput : Turn → Type 0
Unput Turn.idle = Unit {0}
Unput (Turn.scanning bytes) = Unit {0}
Unput (Turn.scanned bytes a) = Unit {0}
Unput (Turn.storing v bytes a) = Unit {0}
Unput (Turn.updating x) = Unit {0}
Unput (Turn.updated x) = ⊥
Unput (Turn.freezing x) = ⊥
Unput (Turn.noticing x a) = ⊥
Unput Turn.raising = Unit {0}
Unput Turn.raised = Unit {0}
Unput Turn.picking = Unit {0}
Unput (Turn.picked a) = Unit {0}
Unput (Turn.fetching p n m ps) = Unit {0}

-- a row's frozen pointer and index for a client are the writer's, or one deposit behind
pub data Lag (s : Model) (w q : ℕ) : Type 0 where
  level : s.d.indices w q ≡ s.c.indices w q → s.d.frozen w q ≡ s.c.frozen w q → Lag s w q
  behind : Unput (s.c.turn w) → s.d.indices w q < s.c.indices w q → s.c.frozen w q ≡ s.c.written w → Lag s w q

-- rows under way show no reading index above the directory's
abbrev pub Seen : Measures → (ℕ → ℕ) → Turn → Type 0
Seen z r Turn.idle = Unit {0}
Seen z r (Turn.scanning bytes) = Unit {0}
Seen z r (Turn.scanned bytes a) = (q : ℕ) → q < z.m → a.reading q ≤ r q
Seen z r (Turn.storing v bytes a) = Unit {0}
Seen z r (Turn.updating x) = Unit {0}
Seen z r (Turn.updated x) = Unit {0}
Seen z r (Turn.freezing x) = Unit {0}
Seen z r (Turn.noticing x a) = (q : ℕ) → q < z.m → a.reading q ≤ r q
Seen z r Turn.raising = Unit {0}
Seen z r Turn.raised = Unit {0}
Seen z r Turn.picking = Unit {0}
Seen z r (Turn.picked a) = (q : ℕ) → q < z.m → a.reading q ≤ r q
Seen z r (Turn.fetching p n m ps) = Unit {0}

pub record Lagging (z : Measures) (s : Model) : Type 0 where
  pub lag : (w q : ℕ) → w < z.m → Lag s w q
  pub index : (w q : ℕ) → w < z.m → q < z.m → s.c.indices w q ≤ shown_reading s.c q
  pub seen : (w : ℕ) → w < z.m → Seen z (shown_reading s.c) (s.c.turn w)

-- ---- what is retained for readers

-- the pointer that a deposit has put in has this version
abbrev pub PutIn : Turn → Version → Type 0
PutIn Turn.idle v = ⊥
PutIn (Turn.scanning bytes) v = ⊥
PutIn (Turn.scanned bytes a) v = ⊥
PutIn (Turn.storing u bytes a) v = ⊥
PutIn (Turn.updating x) v = ⊥
PutIn (Turn.updated x) v = x.version ≡ v
PutIn (Turn.freezing x) v = x.version ≡ v
PutIn (Turn.noticing x a) v = x.version ≡ v
PutIn Turn.raising v = ⊥
PutIn Turn.raised v = ⊥
PutIn Turn.picking v = ⊥
PutIn (Turn.picked a) v = ⊥
PutIn (Turn.fetching p n m ps) v = ⊥

-- the rows of a second scan that are under way show reader c's index r
abbrev pub NoticingShows : Turn → ℕ → ℕ → Type 0
NoticingShows Turn.idle c r = Unit {0}
NoticingShows (Turn.scanning bytes) c r = Unit {0}
NoticingShows (Turn.scanned bytes a) c r = Unit {0}
NoticingShows (Turn.storing u bytes a) c r = Unit {0}
NoticingShows (Turn.updating x) c r = Unit {0}
NoticingShows (Turn.updated x) c r = Unit {0}
NoticingShows (Turn.freezing x) c r = Unit {0}
NoticingShows (Turn.noticing x a) c r = r ≤ a.reading c
NoticingShows Turn.raising c r = Unit {0}
NoticingShows Turn.raised c r = Unit {0}
NoticingShows Turn.picking c r = Unit {0}
NoticingShows (Turn.picked a) c r = Unit {0}
NoticingShows (Turn.fetching p n m ps) c r = Unit {0}

-- writer w retains version v for reader c, whose index is r
pub data Safe (k : Clients) (w c r : ℕ) (v : Version) : Type 0 where
  frozen : k.indices w c ≡ r → (k.frozen w c).version ≡ v → Safe k w c r v
  reserved : k.indices w c ≡ r → k.reserved w c ≡ v → Safe k w c r v
  put : k.indices w c < r → PutIn (k.turn w) v → Safe k w c r v
  written : k.indices w c < r → (k.written w).version ≡ v → NoticingShows (k.turn w) c r → Safe k w c r v

-- what an open reading of client c may ask for is retained
abbrev pub Retained : Measures → Clients → ℕ → Turn → Type 0
Retained z k c Turn.idle = Unit {0}
Retained z k c (Turn.scanning bytes) = Unit {0}
Retained z k c (Turn.scanned bytes a) = Unit {0}
Retained z k c (Turn.storing u bytes a) = Unit {0}
Retained z k c (Turn.updating x) = Unit {0}
Retained z k c (Turn.updated x) = Unit {0}
Retained z k c (Turn.freezing x) = Unit {0}
Retained z k c (Turn.noticing x a) = Unit {0}
Retained z k c Turn.raising = Unit {0}
Retained z k c Turn.raised = Unit {0}
Retained z k c Turn.picking = Unit {0}
Retained z k c (Turn.picked a) = (w : ℕ) → w < z.m → Safe k w c (k.reading c) (offer a c (k.reading c) w).version
Retained z k c (Turn.fetching x n m ps) = Safe k x.version.client c (k.reading c) x.version

abbrev pub Retaining : Measures → Model → Type 0
Retaining z s = (c : ℕ) → c < z.m → Retained z s.c c (s.c.turn c)

-- ---- what a client keeps at the nodes

-- the version that a deposit has drawn and not ended
abbrev pub Depositing : Turn → Version → Type 0
Depositing Turn.idle v = ⊥
Depositing (Turn.scanning bytes) v = ⊥
Depositing (Turn.scanned bytes a) v = ⊥
Depositing (Turn.storing u bytes a) v = u ≡ v
Depositing (Turn.updating x) v = x.version ≡ v
Depositing (Turn.updated x) v = x.version ≡ v
Depositing (Turn.freezing x) v = x.version ≡ v
Depositing (Turn.noticing x a) v = x.version ≡ v
Depositing Turn.raising v = ⊥
Depositing Turn.raised v = ⊥
Depositing Turn.picking v = ⊥
Depositing (Turn.picked a) v = ⊥
Depositing (Turn.fetching p n m ps) v = ⊥

pub data Keeps (z : Measures) (k : Clients) (w : ℕ) (v : Version) : Type 0 where
  current : Depositing (k.turn w) v → Keeps z k w v
  written : (k.written w).version ≡ v → Keeps z k w v
  frozen : (q : ℕ) → q < z.m → (k.frozen w q).version ≡ v → Keeps z k w v
  reserved : (q : ℕ) → q < z.m → k.reserved w q ≡ v → Keeps z k w v

-- the versions that a node holds, after a message
abbrev pub effect : ToNode → (Version → Bool) → Version → Bool
effect (ToNode.store v x) f u = same_version u v || f u
effect (ToNode.request v) f u = f u
effect (ToNode.free l) f u = f u && not (listed u l)

-- at most 2m versions of client w
pub record Bounded (z : Measures) (w : ℕ) (f : Version → Bool) : Type 0 where
  pub versions : List Version
  pub few : length versions ≤ 2 * z.m
  pub all : (u : Version) → u.client ≡ w → f u ≡ true → Member u versions

-- before each message of client w the node's versions of it are at most 2m, after all of them they are what the client keeps
abbrev pub Plays : Measures → Clients → ℕ → (Version → Bool) → List ToNode → Type 0
Plays z k w f [] =
    ((u : Version) → u.client ≡ w → f u ≡ true → Keeps z k w u) × ((u : Version) → u.client ≡ w → Keeps z k w u → f u ≡ true)
Plays z k w f (m ∷ q) = Bounded z w f × Plays z k w (effect m f) q

abbrev pub holding : List Held → Version → Bool
holding l v = is_held (hand_back v l)

-- a piece that a node holds is its deposit's
pub record Stocked (z : Measures) (p : Past) (i : ℕ) (h : Held) : Type 0 where
  pub drawn : p.drawn (num h.version) ≡ true
  pub piece : h.piece ≡ piece z.k (p.pages (num h.version)) i
  pub client : h.version.client < z.m

-- no store of a version is under way
abbrev pub NoStore : Version → List ToNode → Type 0
NoStore v [] = Unit {0}
NoStore v (ToNode.store u x ∷ q) = (u ≡ v → ⊥) × NoStore v q
NoStore v (ToNode.request u ∷ q) = NoStore v q
NoStore v (ToNode.free l ∷ q) = NoStore v q

-- a message from client w to node i: what is stored is the deposit's piece, what is freed is its own, what is asked for names the node
abbrev pub Sound : Measures → Past → ℕ → ℕ → ToNode → Type 0
Sound z p w i (ToNode.store v x) = (p.drawn (num v) ≡ true) × (x ≡ piece z.k (p.pages (num v)) i) × (v.client ≡ w)
Sound z p w i (ToNode.request v) = (p.drawn (num v) ≡ true) × (stands (p.pointers (num v)).named.nodes i ≡ true) × (v.client < z.m)
Sound z p w i (ToNode.free l) = (v : Version) → listed v l ≡ true → v.client ≡ w

-- each version is stored once, none above the client's newest
abbrev pub Once : ℕ → List ToNode → Type 0
Once top [] = Unit {0}
Once top (ToNode.store v x ∷ q) = (num v ≤ top) × NoStore v q × Once top q
Once top (ToNode.request v ∷ q) = Once top q
Once top (ToNode.free l ∷ q) = Once top q

pub record Stocking (z : Measures) (honest : ℕ → Bool) (s : Model) : Type 0 where
  pub order : (i : ℕ) → in_order (s.n.held i) ≡ true
  pub stocked : (i : ℕ) → honest i ≡ true → 1 ≤ i → i ≤ z.n → Each (Stocked z s.p i) (s.n.held i)
  pub sound : (w i : ℕ) → honest i ≡ true → 1 ≤ i → i ≤ z.n → w < z.m → Each (Sound z s.p w i) (s.n.to_node w i)
  pub plays : (w i : ℕ) → honest i ≡ true → 1 ≤ i → i ≤ z.n → w < z.m → Plays z s.c w (holding (s.n.held i)) (s.n.to_node w i)

-- ---- what is acknowledged has arrived

abbrev pub Arrived : Nodes → ℕ → Version → Type 0
Arrived n i v = NoStore v (n.to_node v.client i)

-- a message from node i to client c: an acknowledged version has arrived, a piece is the deposit's, one not held is no longer kept
abbrev pub Truthful : Measures → Model → ℕ → ℕ → ToClient → Type 0
Truthful z s i c (ToClient.stored v) = Arrived s.n i v × (v.client ≡ c) × (s.p.drawn (num v) ≡ true)
Truthful z s i c ToClient.freed = Unit {0}
Truthful z s i c (ToClient.reply v x) = (s.p.drawn (num v) ≡ true) × (x ≡ piece z.k (s.p.pages (num v)) i) × (v.client < z.m)
Truthful z s i c (ToClient.missing v) = (s.p.drawn (num v) ≡ true) × (v.client < z.m) × (Keeps z s.c v.client v → ⊥)

-- the nodes that acknowledged a version that is being stored
abbrev pub Acked : Measures → (ℕ → Bool) → Nodes → Turn → Type 0
Acked z honest n Turn.idle = Unit {0}
Acked z honest n (Turn.scanning bytes) = Unit {0}
Acked z honest n (Turn.scanned bytes a) = Unit {0}
Acked z honest n (Turn.storing v bytes a) = (i : ℕ) → honest i ≡ true → 1 ≤ i → i ≤ z.n → stands a i ≡ true → Arrived n i v
Acked z honest n (Turn.updating x) = Unit {0}
Acked z honest n (Turn.updated x) = Unit {0}
Acked z honest n (Turn.freezing x) = Unit {0}
Acked z honest n (Turn.noticing x a) = Unit {0}
Acked z honest n Turn.raising = Unit {0}
Acked z honest n Turn.raised = Unit {0}
Acked z honest n Turn.picking = Unit {0}
Acked z honest n (Turn.picked a) = Unit {0}
Acked z honest n (Turn.fetching p c m ps) = Unit {0}

pub record Arriving (z : Measures) (honest : ℕ → Bool) (s : Model) : Type 0 where
  pub once : (w i : ℕ) → honest i ≡ true → 1 ≤ i → i ≤ z.n → w < z.m → Once (last s.c w) (s.n.to_node w i)
  pub messages : (i c : ℕ) → honest i ≡ true → 1 ≤ i → i ≤ z.n → c < z.m → Each (Truthful z s i c) (s.n.to_client i c)
  pub acked : (c : ℕ) → c < z.m → Acked z honest s.n (s.c.turn c)
  pub named : (v : Version) (i : ℕ) → honest i ≡ true → 1 ≤ i → i ≤ z.n → v.client < z.m → s.p.drawn (num v) ≡ true
      → stands (s.p.pointers (num v)).named.nodes i ≡ true → Arrived s.n i v

-- ---- what a reading has fetched

pub record Fetched (z : Measures) (honest : ℕ → Bool) (p : Past) (x : Pointer) (n m : ℕ) (ps : List (List ℕ)) : Type 0 where
  pub pieces : (i : ℕ) → 1 ≤ i → i ≤ z.n → stands m i ≡ true → get_or ps (i - 1) [] ≡ piece z.k (p.pages (ver x)) i
  pub matching : (i : ℕ) → honest i ≡ true → 1 ≤ i → i ≤ z.n → stands n i ≡ true → stands m i ≡ true
  pub counted : (i : ℕ) → 1 ≤ i → i ≤ z.n → stands m i ≡ true → stands n i ≡ true
  pub within : (m < 2 ^ z.n) × (n < 2 ^ z.n)
  pub few : count m < z.k
  pub many : length ps ≡ z.n
  pub empty : (i : ℕ) → 1 ≤ i → i ≤ z.n → stands m i ≡ false → get_or ps (i - 1) [] ≡ []

abbrev pub FetchedAt : Measures → (ℕ → Bool) → Past → Turn → Type 0
FetchedAt z honest p Turn.idle = Unit {0}
FetchedAt z honest p (Turn.scanning bytes) = Unit {0}
FetchedAt z honest p (Turn.scanned bytes a) = Unit {0}
FetchedAt z honest p (Turn.storing v bytes a) = Unit {0}
FetchedAt z honest p (Turn.updating x) = Unit {0}
FetchedAt z honest p (Turn.updated x) = Unit {0}
FetchedAt z honest p (Turn.freezing x) = Unit {0}
FetchedAt z honest p (Turn.noticing x a) = Unit {0}
FetchedAt z honest p Turn.raising = Unit {0}
FetchedAt z honest p Turn.raised = Unit {0}
FetchedAt z honest p Turn.picking = Unit {0}
FetchedAt z honest p (Turn.picked a) = Unit {0}
FetchedAt z honest p (Turn.fetching x n m ps) = Fetched z honest p x n m ps

abbrev pub Fetching : Measures → (ℕ → Bool) → Model → Type 0
Fetching z honest s = (c : ℕ) → c < z.m → FetchedAt z honest s.p (s.c.turn c)
