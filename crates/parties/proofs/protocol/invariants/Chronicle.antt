-- What holds of the history in every model that a run comes to.
use mathlib.Core.Path.{◌≡◌}
use mathlib.Core.Bool.{true}
use mathlib.Core.Logic.{◌⊎◌}
use mathlib.Core.List.{List}
use mathlib.Core.Option.{some, none}
use Prim.Native.Nat.{ℕ, ◌/◌, ◌≤◌, ◌<◌}
use Rattle.parties.specs.declared.Measures.{Measures}
use Rattle.parties.specs.declared.Version.{Version}
use Rattle.parties.specs.protocol.Pointer.{Pointer, none_pointer}
use Rattle.parties.specs.protocol.Run.{History, Put}
use Rattle.parties.proofs.protocol.model.Model.{num, ver, Turn, Clients, Past, Model, shown_written, offer}
use Rattle.parties.specs.protocol.Claim.{Member}
use Rattle.parties.proofs.protocol.invariants.Invariants.{unnum}

-- ---- operations

-- an open deposit of client c with these bytes, before and after its version is drawn
pub record Undrawn (h : History) (c : ℕ) (bytes : List ℕ) : Type 0 where
  pub page : (h.operation (h.latest c)).page ≡ some bytes
  pub version : (h.operation (h.latest c)).version ≡ none

pub record Drawn (h : History) (p : Past) (c : ℕ) (v : Version) : Type 0 where
  pub page : (h.operation (h.latest c)).page ≡ some (p.pages (num v))
  pub version : (h.operation (h.latest c)).version ≡ some v
  pub deposit : p.deposits (num v) ≡ h.latest c

-- an open reading of client c, before and after it picked a pointer
pub record Unpicked (h : History) (c : ℕ) : Type 0 where
  pub page : (h.operation (h.latest c)).page ≡ none
  pub version : (h.operation (h.latest c)).version ≡ none

pub record Picked (h : History) (c : ℕ) (x : Pointer) : Type 0 where
  pub page : (h.operation (h.latest c)).page ≡ none
  pub version : (h.operation (h.latest c)).version ≡ some x.version
  pub pointer : (h.operation (h.latest c)).pointer ≡ some x

-- the operation that a turn belongs to
pub record Current (h : History) (c : ℕ) : Type 0 where
  pub begun : h.latest c < h.begun
  pub client : (h.operation (h.latest c)).client ≡ c
  pub unended : (h.operation (h.latest c)).ended ≡ none
  pub given : (h.operation (h.latest c)).given ≡ none

abbrev pub Doing : History → Past → ℕ → Turn → Type 0
Doing h p c Turn.idle = Unit {0}
Doing h p c (Turn.scanning bytes) = Current h c × Undrawn h c bytes
Doing h p c (Turn.scanned bytes a) = Current h c × Undrawn h c bytes
Doing h p c (Turn.storing v bytes a) = Current h c × Drawn h p c v
Doing h p c (Turn.updating x) = Current h c × Drawn h p c x.version
Doing h p c (Turn.updated x) = Current h c × Drawn h p c x.version
Doing h p c (Turn.freezing x) = Current h c × Drawn h p c x.version
Doing h p c (Turn.noticing x a) = Current h c × Drawn h p c x.version
Doing h p c Turn.raising = Current h c × Unpicked h c
Doing h p c Turn.raised = Current h c × Unpicked h c
Doing h p c Turn.picking = Current h c × Unpicked h c
Doing h p c (Turn.picked a) = Current h c × Unpicked h c
Doing h p c (Turn.fetching x n m ps) = Current h c × Picked h c x

-- the turn of an open operation's client
abbrev pub Busy : Turn → Type 0
Busy Turn.idle = ⊥
Busy (Turn.scanning bytes) = Unit {0}
Busy (Turn.scanned bytes a) = Unit {0}
Busy (Turn.storing v bytes a) = Unit {0}
Busy (Turn.updating x) = Unit {0}
Busy (Turn.updated x) = Unit {0}
Busy (Turn.freezing x) = Unit {0}
Busy (Turn.noticing x a) = Unit {0}
Busy Turn.raising = Unit {0}
Busy Turn.raised = Unit {0}
Busy Turn.picking = Unit {0}
Busy (Turn.picked a) = Unit {0}
Busy (Turn.fetching x n m ps) = Unit {0}

-- an update has put this pointer in as written
abbrev pub Listed : History → Pointer → Type 0
Listed h x = (d : ℕ) × Member (record { pointer = x; operation = d }) h.puts

-- a pointer that a reading shows: none, or one that is put in
pub data ShownPointer (h : History) (p : Past) (x : Pointer) : Type 0 where
  absent : x ≡ none_pointer → ShownPointer h p x
  put : p.drawn (ver x) ≡ true → p.pointers (ver x) ≡ x → 256 ≤ ver x → Listed h x → ShownPointer h p x

-- the deposit of a version that is drawn
pub record Deposited (h : History) (p : Past) (v : ℕ) : Type 0 where
  pub begun : p.deposits v < h.begun
  pub page : (h.operation (p.deposits v)).page ≡ some (p.pages v)
  pub version : (h.operation (p.deposits v)).version ≡ some (unnum v)

-- a deposit that bears a version has drawn it
pub record Draws (p : Past) (o : ℕ) (bytes : List ℕ) (v : Version) : Type 0 where
  pub drawn : p.drawn (num v) ≡ true
  pub deposit : p.deposits (num v) ≡ o
  pub page : p.pages (num v) ≡ bytes
  pub client : v.client < 8

pub record Recording (z : Measures) (s : Model) : Type 0 where
  pub doing : (c : ℕ) → c < z.m → Doing s.h s.p c (s.c.turn c)
  -- an open operation is its client's last, and its client is at it
  pub busy : (o : ℕ) → o < s.h.begun → (s.h.operation o).ended ≡ none
      → ((s.h.operation o).client < z.m) × (s.h.latest (s.h.operation o).client ≡ o) × Busy (s.c.turn (s.h.operation o).client)
  pub deposited : (v : ℕ) → s.p.drawn v ≡ true → Deposited s.h s.p v
  pub draws : (o : ℕ) (bytes : List ℕ) (v : Version) → o < s.h.begun → (s.h.operation o).page ≡ some bytes → (s.h.operation o).version ≡ some v
      → Draws s.p o bytes v
  pub reads : (o : ℕ) (v : Version) → o < s.h.begun → (s.h.operation o).page ≡ none → (s.h.operation o).version ≡ some v
      → (x : Pointer) × ((s.h.operation o).pointer ≡ some x) × (x.version ≡ v) × ShownPointer s.h s.p x
  -- a pointer is a reading's, and borne with its version
  pub pointer : (o : ℕ) (x : Pointer) → o < s.h.begun → (s.h.operation o).pointer ≡ some x
      → ((s.h.operation o).page ≡ none) × ((s.h.operation o).version ≡ some x.version)
  pub gives : (o : ℕ) (b : List ℕ) → o < s.h.begun → (s.h.operation o).given ≡ some b
      → (x : Pointer) × ((s.h.operation o).page ≡ none) × ((s.h.operation o).pointer ≡ some x) × (256 ≤ ver x) × (b ≡ s.p.pages (ver x))

-- ---- pointers put in

-- a pointer that was put in is its version's, and was put in for that version's deposit
pub record Rightly (p : Past) (x : Put) : Type 0 where
  pub drawn : p.drawn (ver x.pointer) ≡ true
  pub pointer : p.pointers (ver x.pointer) ≡ x.pointer
  pub deposit : p.deposits (ver x.pointer) ≡ x.operation
  pub proper : 256 ≤ ver x.pointer

-- none, or put in
abbrev pub NoneOrListed : History → Pointer → Type 0
NoneOrListed h x = (x ≡ none_pointer) ⊎ Listed h x

abbrev pub OffersListed : Measures → History → Clients → ℕ → Turn → Type 0
OffersListed z h k c Turn.idle = Unit {0}
OffersListed z h k c (Turn.scanning bytes) = Unit {0}
OffersListed z h k c (Turn.scanned bytes a) = Unit {0}
OffersListed z h k c (Turn.storing v bytes a) = Unit {0}
OffersListed z h k c (Turn.updating x) = Unit {0}
OffersListed z h k c (Turn.updated x) = Listed h x
OffersListed z h k c (Turn.freezing x) = Listed h x
OffersListed z h k c (Turn.noticing x a) = Listed h x
OffersListed z h k c Turn.raising = Unit {0}
OffersListed z h k c Turn.raised = Unit {0}
OffersListed z h k c Turn.picking = Unit {0}
OffersListed z h k c (Turn.picked a) = (w : ℕ) → w < z.m → NoneOrListed h (offer a c (k.reading c) w)
OffersListed z h k c (Turn.fetching x n m ps) = Listed h x

pub record Putting (z : Measures) (s : Model) : Type 0 where
  pub rightly : (x : Put) → Member x s.h.puts → Rightly s.p x
  pub written : (w : ℕ) → w < z.m → NoneOrListed s.h (s.c.written w)
  pub frozen : (w q : ℕ) → w < z.m → NoneOrListed s.h (s.c.frozen w q)
  pub shown : (w q : ℕ) → w < z.m → NoneOrListed s.h (s.d.frozen w q)
  pub turns : (c : ℕ) → c < z.m → OffersListed z s.h s.c c (s.c.turn c)

-- ---- order in real time

-- while a reading waits for its scan, what is frozen for its index is no older than what the row showed when it began
abbrev pub FrozenAfter : Measures → Model → ℕ → Type 0
FrozenAfter z s c = (w : ℕ) → w < z.m → s.c.indices w c ≡ s.c.reading c → s.p.shown (s.h.latest c) w ≤ ver (s.c.frozen w c)

abbrev pub Since : Measures → Model → ℕ → Turn → Type 0
Since z s c Turn.idle = Unit {0}
Since z s c (Turn.scanning bytes) = Unit {0}
Since z s c (Turn.scanned bytes a) =
    (w : ℕ) → w < z.m → (s.p.shown (s.h.latest c) w ≤ ver (a.written w)) × ((a.written w).version.client < 256)
Since z s c (Turn.storing v bytes a) = Unit {0}
Since z s c (Turn.updating x) = Unit {0}
Since z s c (Turn.updated x) = Unit {0}
Since z s c (Turn.freezing x) = Unit {0}
Since z s c (Turn.noticing x a) = Unit {0}
Since z s c Turn.raising = FrozenAfter z s c
Since z s c Turn.raised = FrozenAfter z s c
Since z s c Turn.picking = FrozenAfter z s c
Since z s c (Turn.picked a) =
    (w : ℕ) → w < z.m
    → (s.p.shown (s.h.latest c) w ≤ ver (offer a c (s.c.reading c) w)) × (ver (offer a c (s.c.reading c) w) ≤ ver (shown_written s.c w))
Since z s c (Turn.fetching x n m ps) = Unit {0}

-- some row shows a version that is no lower
abbrev pub Below : Measures → (ℕ → ℕ) → ℕ → Type 0
Below z f v = (w : ℕ) × (w < z.m) × (v ≤ f w)

pub record Ordering (z : Measures) (s : Model) : Type 0 where
  pub begins : (o : ℕ) → o < s.h.begun → (s.h.operation o).began < s.h.time
  pub ends : (o t : ℕ) → o < s.h.begun → (s.h.operation o).ended ≡ some t → t < s.h.time
  pub since : (c : ℕ) → c < z.m → Since z s c (s.c.turn c)
  -- rows only grow
  pub grows : (o w : ℕ) → o < s.h.begun → w < z.m → s.p.shown o w ≤ ver (shown_written s.c w)
  -- what an ended operation bears, and what a reading bears, some row shows or has passed
  pub ended : (o : ℕ) (v : Version) (t : ℕ) → o < s.h.begun → (s.h.operation o).version ≡ some v → (s.h.operation o).ended ≡ some t
      → Below z (λ w. ver (shown_written s.c w)) (num v)
  pub reads : (o : ℕ) (v : Version) → o < s.h.begun → (s.h.operation o).version ≡ some v → (s.h.operation o).page ≡ none
      → Below z (λ w. ver (shown_written s.c w)) (num v)
  -- an operation that ended before another began: what it bears, some row showed then
  pub before : (e o : ℕ) (v : Version) (t : ℕ) → e < s.h.begun → o < s.h.begun → (s.h.operation e).version ≡ some v
      → (s.h.operation e).ended ≡ some t → t < (s.h.operation o).began → Below z (s.p.shown o) (num v)
  -- what an operation bears is above what the rows showed when it began
  pub read : (o : ℕ) (v : Version) → o < s.h.begun → (s.h.operation o).version ≡ some v → (s.h.operation o).page ≡ none
      → (w : ℕ) → w < z.m → s.p.shown o w ≤ num v
  pub drew : (o : ℕ) (v : Version) (bytes : List ℕ) → o < s.h.begun → (s.h.operation o).version ≡ some v → (s.h.operation o).page ≡ some bytes
      → (w : ℕ) → w < z.m → s.p.shown o w / 256 < v.sequence.0
