-- The protocol's state without its bytes, for the proof about runs: tables and records as functions, one field for each component.
-- What a client waits for and what is under way between it and the directory is one value, `Turn`.
use mathlib.Core.Path.{◌≡◌}
use mathlib.Core.Bool.{Bool, true, false, cond, not, ◌&&◌}
use mathlib.Core.List.{List, [], ◌∷◌, ◌++◌}
use mathlib.Core.Option.{some, none}
use Prim.Native.Nat.{ℕ, ◌+◌, ◌-◌, ◌*◌, ◌^◌, ◌≤◌, ◌<◌}
use lib.Dec.{eqb, ltb}
use lib.ListN.{length, replicate, set}
use Rattle.coding.specs.Bytes.{Bytes}
use Rattle.coding.specs.Pieces.{piece}
use Rattle.parties.specs.declared.Measures.{Measures}
use Rattle.parties.specs.declared.Version.{Version}
use Rattle.parties.specs.protocol.Version.{no_version}
use Rattle.parties.specs.protocol.Nodes.{count, stands, with_node}
use Rattle.parties.specs.protocol.Pointer.{Pointer, none_pointer}
use Rattle.parties.specs.protocol.NodeTable.{Held}
use Rattle.parties.specs.protocol.Node.{keep, hand_back, release, listed}
use Rattle.parties.specs.protocol.Message.{ToNode, ToClient, answer}
use Rattle.parties.specs.protocol.Deposit.{digests_of, pointer_of}
use Rattle.parties.specs.protocol.Run.{History, Operation, Put, bearing, pointing, ending, giving, begin, upd, upd₂}

-- ---- numbers of versions

-- a version as one number, its five bytes read as a number: none is 255
abbrev pub num : Version → ℕ
num v = v.sequence.0 * 256 + v.client

abbrev pub ver : Pointer → ℕ
ver p = num p.version

-- ---- the state

-- what a scan shows: of row w the written pointer, the frozen pointer and index for client c, the reading index
pub record Rows : Type 0 where
  pub written : ℕ → Pointer
  pub frozen : ℕ → ℕ → Pointer
  pub indices : ℕ → ℕ → ℕ
  pub reading : ℕ → ℕ

pub data Turn : Type 0 where
  idle : Turn
  -- a deposit: its first scan is called, or its rows are under way
  scanning : List ℕ → Turn
  scanned : List ℕ → Rows → Turn
  -- version, page, nodes that acknowledged
  storing : Version → List ℕ → ℕ → Turn
  -- its update is called, or carried out
  updating : Pointer → Turn
  updated : Pointer → Turn
  -- its second scan is called, or its rows are under way
  freezing : Pointer → Turn
  noticing : Pointer → Rows → Turn
  -- a reading: its update is called, or carried out
  raising : Turn
  raised : Turn
  -- its scan is called, or its rows are under way
  picking : Turn
  picked : Rows → Turn
  -- pointer, nodes counted, nodes that match, the n nodes' pieces
  fetching : Pointer → ℕ → ℕ → List (List ℕ) → Turn

pub record Clients : Type 0 where
  pub turn : ℕ → Turn
  pub written : ℕ → Pointer
  pub frozen : ℕ → ℕ → Pointer
  pub reserved : ℕ → ℕ → Version
  pub indices : ℕ → ℕ → ℕ
  pub reading : ℕ → ℕ

-- what the directory's rows show of frozen pointers and indices; the rest follows from the turns
pub record Shown : Type 0 where
  pub frozen : ℕ → ℕ → Pointer
  pub indices : ℕ → ℕ → ℕ

pub record Nodes : Type 0 where
  pub held : ℕ → List Held
  pub to_node : ℕ → ℕ → List ToNode
  pub to_client : ℕ → ℕ → List ToClient

-- the past, for the proof alone: by version number whether it is drawn, its page, its deposit and its pointer (none until t + k nodes
-- acknowledged it); by operation and row the version that the row showed when the operation began
pub record Past : Type 0 where
  pub drawn : ℕ → Bool
  pub pages : ℕ → List ℕ
  pub deposits : ℕ → ℕ
  pub pointers : ℕ → Pointer
  pub shown : ℕ → ℕ → ℕ

pub record Model : Type 0 where
  pub c : Clients
  pub d : Shown
  pub n : Nodes
  pub p : Past
  pub h : History

-- ---- what follows from the state

-- the pointer that a deposit has put in and that is not its client's written one yet
abbrev pub put_by : Turn → Pointer → Pointer
put_by idle w = w
put_by (scanning bytes) w = w
put_by (scanned bytes a) w = w
put_by (storing v bytes a) w = w
put_by (updating x) w = w
put_by (updated x) w = x
put_by (freezing x) w = x
put_by (noticing x a) w = x
put_by raising w = w
put_by raised w = w
put_by picking w = w
put_by (picked a) w = w
put_by (fetching p n m ps) w = w

-- a row's written pointer
abbrev pub shown_written : Clients → ℕ → Pointer
shown_written k w = put_by (k.turn w) (k.written w)

-- a row's reading index: one less while the update is called
abbrev pub raised_to : Turn → ℕ → ℕ
raised_to idle i = i
raised_to (scanning bytes) i = i
raised_to (scanned bytes a) i = i
raised_to (storing v bytes a) i = i
raised_to (updating x) i = i
raised_to (updated x) i = i
raised_to (freezing x) i = i
raised_to (noticing x a) i = i
raised_to raising i = i - 1
raised_to raised i = i
raised_to picking i = i
raised_to (picked a) i = i
raised_to (fetching p n m ps) i = i

abbrev pub shown_reading : Clients → ℕ → ℕ
shown_reading k c = raised_to (k.turn c) (k.reading c)

abbrev pub rows_of : Model → Rows
rows_of s =
    record { written = shown_written s.c; frozen = s.d.frozen; indices = s.d.indices; reading = shown_reading s.c }

-- what a row offers a reader c with index r
abbrev pub offer : Rows → ℕ → ℕ → ℕ → Pointer
offer a c r w = cond (ltb (a.indices w c) r) (a.written w) (a.frozen w c)

-- the newest version that a client has drawn
abbrev pub newest : Turn → ℕ → ℕ
newest idle v = v
newest (scanning bytes) v = v
newest (scanned bytes a) v = v
newest (storing u bytes a) v = num u
newest (updating x) v = ver x
newest (updated x) v = ver x
newest (freezing x) v = ver x
newest (noticing x a) v = ver x
newest raising v = v
newest raised v = v
newest picking v = v
newest (picked a) v = v
newest (fetching p n m ps) v = v

abbrev pub last : Clients → ℕ → ℕ
last k w = newest (k.turn w) (ver (k.written w))

-- at a second scan: the rows show a reading of client q that is not kept yet
abbrev pub notices : Clients → Rows → ℕ → ℕ → Bool
notices k a w q = not (eqb q w) && ltb (k.indices w q) (a.reading q)

-- ---- after-states

abbrev pub turned : Clients → ℕ → Turn → Clients
turned k c t =
    record { turn = upd k.turn c t; written = k.written; frozen = k.frozen; reserved = k.reserved; indices = k.indices; reading = k.reading }

abbrev pub raised_by : Clients → ℕ → Clients
raised_by k c =
    record {
      turn = upd k.turn c raising;
      written = k.written;
      frozen = k.frozen;
      reserved = k.reserved;
      indices = k.indices;
      reading = upd k.reading c (k.reading c + 1);
    }

-- a deposit ends: the new pointer x is written, and frozen where a reading is noticed
abbrev pub frozen_by : Clients → ℕ → Pointer → Rows → Clients
frozen_by k c x a =
    record {
      turn = upd k.turn c idle;
      written = upd k.written c x;
      frozen = upd k.frozen c (λ q. cond (notices k a c q) x (k.frozen c q));
      reserved = upd k.reserved c (λ q. cond (notices k a c q) (k.written c).version (k.reserved c q));
      indices = upd k.indices c (λ q. cond (notices k a c q) (a.reading q) (k.indices c q));
      reading = k.reading;
    }

-- a client's row takes its frozen pointers and indices
abbrev pub published : Model → ℕ → Shown
published s c =
    record { frozen = upd s.d.frozen c (s.c.frozen c); indices = upd s.d.indices c (s.c.indices c) }

-- a message from client c, one for each node, stands last in the queues
abbrev pub sent : Nodes → ℕ → (ℕ → List ToNode) → Nodes
sent q c m = record { held = q.held; to_node = upd q.to_node c (λ i. q.to_node c i ++ m i); to_client = q.to_client }

abbrev pub with_to_client : Nodes → (ℕ → ℕ → List ToClient) → Nodes
with_to_client q r = record { held = q.held; to_node = q.to_node; to_client = r }

-- node i has taken a message of client c, the rest of the queue stays; its table is l and its answer stands last
abbrev pub served : Nodes → ℕ → ℕ → List ToNode → List Held → ToClient → Nodes
served q c i rest l a =
    record {
      held = upd q.held i l;
      to_node = upd₂ q.to_node c i rest;
      to_client = upd₂ q.to_client i c (q.to_client i c ++ (a ∷ []));
    }

abbrev pub drawn_by : Past → ℕ → List ℕ → ℕ → Past
drawn_by p v bytes o =
    record {
      drawn = upd p.drawn v true;
      pages = upd p.pages v bytes;
      deposits = upd p.deposits v o;
      pointers = upd p.pointers v none_pointer;
      shown = p.shown;
    }

abbrev pub pointed_by : Past → ℕ → Pointer → Past
pointed_by p v x =
    record { drawn = p.drawn; pages = p.pages; deposits = p.deposits; pointers = upd p.pointers v x; shown = p.shown }

abbrev pub begun_by : Past → ℕ → (ℕ → ℕ) → Past
begun_by p o f = record { drawn = p.drawn; pages = p.pages; deposits = p.deposits; pointers = p.pointers; shown = upd p.shown o f }

-- the pointer of a version whose page is cut, with the nodes that acknowledged it
abbrev pub pointed : Measures → Version → List ℕ → ℕ → Pointer
pointed z v bytes a = pointer_of v a (digests_of z v bytes)

-- ---- facts of a step

-- a message comes to client c from node i, and q are the queues to clients after it: an honest node's is the oldest under way
pub data Comes (honest : ℕ → Bool) (s : Nodes) (i c : ℕ) (m : ToClient) : (ℕ → ℕ → List ToClient) → Type 0 where
  oldest : (rest : List ToClient) → honest i ≡ true → s.to_client i c ≡ m ∷ rest → Comes honest s i c m (upd₂ s.to_client i c rest)
  lied : honest i ≡ false → Comes honest s i c m s.to_client

-- the pointer that a reader picks: some row's offer, and none is higher
pub record Picks (z : Measures) (a : Rows) (c r : ℕ) (x : Pointer) : Type 0 where
  pub row : ℕ
  pub within : row < z.m
  pub offered : offer a c r row ≡ x
  pub top : (w : ℕ) → w < z.m → ver (offer a c r w) ≤ ver x

-- the sequence drawn: above all that the rows show
abbrev pub Above : Measures → Rows → ℕ → Type 0
Above z a q = (w : ℕ) → w < z.m → (a.written w).version.sequence.0 < q

-- the versions that a deposit's end replaces
pub data Replaced (z : Measures) (k : Clients) (a : Rows) (c : ℕ) (v : Version) : Type 0 where
  previous : (k.written c).version ≡ v → Replaced z k a c v
  thawed : (q : ℕ) → q < z.m → notices k a c q ≡ true → (k.frozen c q).version ≡ v → Replaced z k a c v
  unreserved : (q : ℕ) → q < z.m → notices k a c q ≡ true → k.reserved c q ≡ v → Replaced z k a c v

-- the versions that a client freezes or reserves
pub data Retains (z : Measures) (k : Clients) (c : ℕ) (v : Version) : Type 0 where
  frozen : (q : ℕ) → q < z.m → (k.frozen c q).version ≡ v → Retains z k c v
  reserved : (q : ℕ) → q < z.m → k.reserved c q ≡ v → Retains z k c v

-- the free list of a deposit's end
pub record Frees (z : Measures) (k : Clients) (a : Rows) (c : ℕ) (x : Pointer) (l : List Version) : Type 0 where
  pub replaced : (v : Version) → listed v l ≡ true → Replaced z k a c v
  pub left : (v : Version) → listed v l ≡ true → Retains z (frozen_by k c x a) c v → ⊥
  pub proper : (v : Version) → listed v l ≡ true → (v ≡ no_version → ⊥)
  pub all : (v : Version) → Replaced z k a c v → (Retains z (frozen_by k c x a) c v → ⊥) → (v ≡ no_version → ⊥) → listed v l ≡ true

-- ---- marks of the history

-- a reading picked a pointer
abbrev pub choosing : Pointer → Operation → Operation
choosing x o = bearing x.version (pointing (some x) o)

-- one event more: the operations and the puts are then these, no operation begins
pub record Marks (h h' : History) (operation : ℕ → Operation) (puts : List Put) : Type 0 where
  pub time : h'.time ≡ h.time + 1
  pub begun : h'.begun ≡ h.begun
  pub operations : h'.operation ≡ operation
  pub latest : h'.latest ≡ h.latest
  pub put : h'.puts ≡ puts

-- nothing happens to operations
abbrev pub Quiet : History → History → Type 0
Quiet h h' = Marks h h' h.operation h.puts

-- client c's last operation is marked
abbrev pub Marked : History → History → ℕ → (Operation → Operation) → Type 0
Marked h h' c f = Marks h h' (upd h.operation (h.latest c) (f (h.operation (h.latest c)))) h.puts

-- ---- steps: what an event can do, with the history after it

pub data Next (z : Measures) (honest : ℕ → Bool) (s : Model) : Model → Type 0 where
  -- refused, or nothing under way
  refused : (h : History) → Quiet s.h h
      → Next z honest s (record { c = s.c; d = s.d; n = s.n; p = s.p; h = h })
  deposit : (c : ℕ) (bytes : List ℕ) (h : History) → h ≡ begin c (some bytes) s.h
      → c < z.m → s.c.turn c ≡ idle → Bytes bytes → length bytes ≤ z.k * z.f - 4
      → Next z honest s
      (record { c = turned s.c c (scanning bytes); d = s.d; n = s.n; p = begun_by s.p s.h.begun (λ w. ver (shown_written s.c w)); h = h })
  reading : (c : ℕ) (h : History) → h ≡ begin c none s.h
      → c < z.m → s.c.turn c ≡ idle
      → Next z honest s (record { c = raised_by s.c c; d = s.d; n = s.n; p = begun_by s.p s.h.begun (λ w. ver (shown_written s.c w)); h = h })
  -- directory calls carried out
  publish : (c : ℕ) (x : Pointer) (h : History) → Marks s.h h s.h.operation (s.h.puts ++ (record { pointer = x; operation = s.h.latest c } ∷ []))
      → c < z.m → s.c.turn c ≡ updating x
      → Next z honest s (record { c = turned s.c c (updated x); d = published s c; n = s.n; p = s.p; h = h })
  raise : (c : ℕ) (h : History) → Quiet s.h h
      → c < z.m → s.c.turn c ≡ raising
      → Next z honest s (record { c = turned s.c c raised; d = s.d; n = s.n; p = s.p; h = h })
  scan-first : (c : ℕ) (bytes : List ℕ) (h : History) → Quiet s.h h
      → c < z.m → s.c.turn c ≡ scanning bytes
      → Next z honest s (record { c = turned s.c c (scanned bytes (rows_of s)); d = s.d; n = s.n; p = s.p; h = h })
  scan_second : (c : ℕ) (x : Pointer) (h : History) → Quiet s.h h
      → c < z.m → s.c.turn c ≡ freezing x
      → Next z honest s (record { c = turned s.c c (noticing x (rows_of s)); d = s.d; n = s.n; p = s.p; h = h })
  scan-reading : (c : ℕ) (h : History) → Quiet s.h h
      → c < z.m → s.c.turn c ≡ picking
      → Next z honest s (record { c = turned s.c c (picked (rows_of s)); d = s.d; n = s.n; p = s.p; h = h })
  -- their answers handed over
  acknowledged : (c : ℕ) (x : Pointer) (h : History) → Quiet s.h h
      → c < z.m → s.c.turn c ≡ updated x
      → Next z honest s (record { c = turned s.c c (freezing x); d = s.d; n = s.n; p = s.p; h = h })
  known : (c : ℕ) (h : History) → Quiet s.h h
      → c < z.m → s.c.turn c ≡ raised
      → Next z honest s (record { c = turned s.c c picking; d = s.d; n = s.n; p = s.p; h = h })
  draw : (c : ℕ) (bytes : List ℕ) (a : Rows) (v : Version) (h : History) → Marked s.h h c (bearing v)
      → c < z.m → s.c.turn c ≡ scanned bytes a
      → v.client ≡ c → v.sequence.0 < 2 ^ 32 → Above z a v.sequence.0
      → Next z honest s
      (record {
        c = turned s.c c (storing v bytes 0);
        d = s.d;
        n = sent s.n c (λ i. ToNode.store v (piece z.k bytes i) ∷ []);
        p = drawn_by s.p (num v) bytes (s.h.latest c);
        h = h;
      })
  spent : (c : ℕ) (bytes : List ℕ) (a : Rows) (h : History) → Marked s.h h c (ending s.h.time)
      → c < z.m → s.c.turn c ≡ scanned bytes a
      → Next z honest s (record { c = turned s.c c idle; d = s.d; n = s.n; p = s.p; h = h })
  freeze : (c : ℕ) (x : Pointer) (a : Rows) (l : List Version) (h : History) → Marked s.h h c (ending s.h.time)
      → c < z.m → s.c.turn c ≡ noticing x a → Frees z s.c a c x l
      → Next z honest s (record { c = frozen_by s.c c x a; d = s.d; n = sent s.n c (λ i. ToNode.free l ∷ []); p = s.p; h = h })
  empty : (c : ℕ) (a : Rows) (h : History) → Marked s.h h c (λ o. ending s.h.time (choosing none_pointer o))
      → c < z.m → s.c.turn c ≡ picked a → Picks z a c (s.c.reading c) none_pointer
      → Next z honest s (record { c = turned s.c c idle; d = s.d; n = s.n; p = s.p; h = h })
  fetch : (c : ℕ) (a : Rows) (x : Pointer) (h : History) → Marked s.h h c (choosing x)
      → c < z.m → s.c.turn c ≡ picked a → Picks z a c (s.c.reading c) x
      → (ver x ≡ 255 → ⊥)
      → Next z honest s
      (record {
        c = turned s.c c (fetching x 0 0 (replicate z.n []));
        d = s.d;
        n = sent s.n c (λ i. cond (stands x.named.nodes i) (ToNode.request x.version ∷ []) []);
        p = s.p;
        h = h;
      })
  -- messages handed to nodes
  store : (c i : ℕ) (v : Version) (x : List ℕ) (rest : List ToNode) (h : History) → Quiet s.h h
      → honest i ≡ true → 1 ≤ i → i ≤ z.n → c < z.m
      → s.n.to_node c i ≡ ToNode.store v x ∷ rest
      → Next z honest s
      (record {
        c = s.c;
        d = s.d;
        p = s.p;
        h = h;
        n = served s.n c i rest (keep (record { version = v; piece = x }) (s.n.held i)) (ToClient.stored v);
      })
  request : (c i : ℕ) (v : Version) (rest : List ToNode) (h : History) → Quiet s.h h
      → honest i ≡ true → 1 ≤ i → i ≤ z.n → c < z.m
      → s.n.to_node c i ≡ ToNode.request v ∷ rest
      → Next z honest s
      (record { c = s.c; d = s.d; p = s.p; h = h; n = served s.n c i rest (s.n.held i) (answer v (hand_back v (s.n.held i))) })
  free : (c i : ℕ) (l : List Version) (rest : List ToNode) (h : History) → Quiet s.h h
      → honest i ≡ true → 1 ≤ i → i ≤ z.n → c < z.m
      → s.n.to_node c i ≡ ToNode.free l ∷ rest
      → Next z honest s (record { c = s.c; d = s.d; p = s.p; h = h; n = served s.n c i rest (release l (s.n.held i)) ToClient.freed })
  -- messages handed to clients
  passed : (i c : ℕ) (m : ToClient) (q : ℕ → ℕ → List ToClient) (h : History) → Quiet s.h h
      → Comes honest s.n i c m q
      → Next z honest s (record { c = s.c; d = s.d; n = with_to_client s.n q; p = s.p; h = h })
  added : (i c : ℕ) (v : Version) (bytes : List ℕ) (a : ℕ) (q : ℕ → ℕ → List ToClient) (h : History) → Quiet s.h h
      → c < z.m → 1 ≤ i → i ≤ z.n
      → s.c.turn c ≡ storing v bytes a → Comes honest s.n i c (ToClient.stored v) q → stands a i ≡ false → count (with_node a i) < z.t + z.k
      → Next z honest s (record { c = turned s.c c (storing v bytes (with_node a i)); d = s.d; n = with_to_client s.n q; p = s.p; h = h })
  formed : (i c : ℕ) (v : Version) (bytes : List ℕ) (a : ℕ) (q : ℕ → ℕ → List ToClient) (h : History) → Quiet s.h h
      → c < z.m → 1 ≤ i → i ≤ z.n
      → s.c.turn c ≡ storing v bytes a → Comes honest s.n i c (ToClient.stored v) q → stands a i ≡ false → count (with_node a i) ≡ z.t + z.k
      → Next z honest s
      (record {
        c = turned s.c c (updating (pointed z v bytes (with_node a i)));
        d = s.d;
        n = with_to_client s.n q;
        p = pointed_by s.p (num v) (pointed z v bytes (with_node a i));
        h = h;
      })
  -- a reply that counts and does not match; the node is dishonest (an honest node's piece matches)
  missed : (i c : ℕ) (x : Pointer) (n m : ℕ) (ps : List (List ℕ)) (y : ToClient) (q : ℕ → ℕ → List ToClient) (h : History) → Quiet s.h h
      → c < z.m → 1 ≤ i → i ≤ z.n
      → s.c.turn c ≡ fetching x n m ps → Comes honest s.n i c y q → honest i ≡ false
      → stands x.named.nodes i ≡ true → stands n i ≡ false
      → Next z honest s (record { c = turned s.c c (fetching x (with_node n i) m ps); d = s.d; n = with_to_client s.n q; p = s.p; h = h })
  -- one that matches is the deposit's piece (by the premise on digests, if the node is dishonest)
  matched : (i c : ℕ) (x : Pointer) (n m : ℕ) (ps : List (List ℕ)) (b : List ℕ) (q : ℕ → ℕ → List ToClient) (h : History) → Quiet s.h h
      → c < z.m → 1 ≤ i → i ≤ z.n
      → s.c.turn c ≡ fetching x n m ps → Comes honest s.n i c (ToClient.reply x.version b) q
      → stands x.named.nodes i ≡ true → stands n i ≡ false → b ≡ piece z.k (s.p.pages (ver x)) i → count (with_node m i) < z.k
      → Next z honest s
      (record {
        c = turned s.c c (fetching x (with_node n i) (with_node m i) (set ps (i - 1) b));
        d = s.d;
        n = with_to_client s.n q;
        p = s.p;
        h = h;
      })
  -- the k-th one ends the reading
  ended : (i c : ℕ) (x : Pointer) (n m : ℕ) (ps : List (List ℕ)) (y : ToClient) (q : ℕ → ℕ → List ToClient) (h : History)
      → Marked s.h h c (λ o. ending s.h.time (giving (s.p.pages (ver x)) o))
      → c < z.m
      → s.c.turn c ≡ fetching x n m ps → Comes honest s.n i c y q
      → Next z honest s (record { c = turned s.c c idle; d = s.d; n = with_to_client s.n q; p = s.p; h = h })
