-- Order in real time: every step keeps `Ordering`.
use mathlib.Core.Path.{◌≡◌, refl, sym, ap, ◌∙◌}
use mathlib.Core.Bool.{Bool, true, false}
use mathlib.Core.Logic.{◌⊎◌, inl, inr}
use mathlib.Core.List.{List, []}
use mathlib.Core.Option.{Option, some, none}
use Prim.Native.Nat.{ℕ, ◌+◌, ◌-◌, ◌/◌, ◌≤◌, ◌<◌}
use native.Mathlib.Omega.{arith}
use borrow.Author.Tests.{ltb-false, eq-eqb, ne_eqb}
use lib.Dec.{eqb, ltb}
use lib.ListN.{replicate, set}
use Rattle.coding.proofs.PageLaws.{none≢some, some_eq}
use Rattle.parties.specs.declared.Measures.{Measures}
use Rattle.parties.specs.declared.Version.{Version}
use Rattle.parties.specs.protocol.Nodes.{with_node}
use Rattle.parties.specs.protocol.Pointer.{Pointer, none_pointer}
use Rattle.parties.specs.protocol.Run.{History, Operation, Put, begin, upd, bearing, ending, giving}
use Rattle.parties.proofs.protocol.model.Cells.{by_eq}
use Rattle.parties.proofs.protocol.formats.MeasureLaws.{Passed}
use Rattle.parties.proofs.protocol.model.Model.{num, ver, Rows, Turn, Clients, Shown, Nodes, Past, Model, put_by, shown_written, rows_of, offer, notices}
use Rattle.parties.proofs.protocol.model.Model.{turned, frozen_by, begun_by, pointed, Picks, choosing, Marks, Quiet, Marked, Next}
use Rattle.parties.proofs.protocol.invariants.Invariants.{Known, Forming, Own, Owned, Drawing, Lag, Lagging}
use Rattle.parties.proofs.protocol.invariants.Chronicle.{Current, Doing, Busy, Recording, FrozenAfter, Since, Below, Ordering}

-- ---- rows

-- the version that a row shows as written
abbrev shows : Clients → ℕ → ℕ
shows k w = ver (shown_written k w)

-- no row shows an older one than before
abbrev Grown : Measures → Clients → Clients → Type 0
Grown z k i = (w : ℕ) → w < z.m → shows k w ≤ shows i w

below_grown : (z : Measures) (k i : Clients) (v : ℕ) → Grown z k i → Below z (shows k) v → Below z (shows i) v
below_grown z k i v g b = (b.0, b.1, omega (arith, g b.0 b.1, b.2))

-- one client's turn changes, and its row shows no older version
turned_grown : (z : Measures) (k : Clients) (c : ℕ) (u : Turn) → shows k c ≤ ver (put_by u (k.written c)) → Grown z k (turned k c u)
turned_grown z k c u m w l = by_eq w c (λ f g. rw f (rw g m)) (λ f g. rw f (omega arith))

-- a row shows its client's written pointer, or the newer one of its deposit
put_is : (z : Measures) (p : Past) (k : Clients) (w : ℕ) (u : Turn) → Own z p k w u
    → (put_by u (k.written w) ≡ k.written w) ⊎ Forming p k w (put_by u (k.written w))
put_is z p k w Turn.idle o = inl refl
put_is z p k w (Turn.scanning bytes) o = inl refl
put_is z p k w (Turn.scanned bytes a) o = inl refl
put_is z p k w (Turn.storing v bytes a) o = inl refl
put_is z p k w (Turn.updating x) o = inl refl
put_is z p k w (Turn.updated x) o = inr o
put_is z p k w (Turn.freezing x) o = inr o
put_is z p k w (Turn.noticing x a) o = inr o.0
put_is z p k w Turn.raising o = inl refl
put_is z p k w Turn.raised o = inl refl
put_is z p k w Turn.picking o = inl refl
put_is z p k w (Turn.picked a) o = inl refl
put_is z p k w (Turn.fetching x n m ps) o = inl refl

module _ (z : Measures) (s : Model) (o : Owned z s) (w : ℕ) (l : w < z.m) where
  shown_is : (shown_written s.c w ≡ s.c.written w) ⊎ Forming s.p s.c w (shown_written s.c w)
  shown_is = put_is z s.p s.c w (s.c.turn w) (o.own w l)

  written-shown : ver (s.c.written w) ≤ shows s.c w
  written-shown = go shown_is
    where
      go : (shown_written s.c w ≡ s.c.written w) ⊎ Forming s.p s.c w (shown_written s.c w) → ver (s.c.written w) ≤ shows s.c w
      go (inl e) = rw e (omega arith)
      go (inr f) = omega (arith, f.newer)

  -- its version's client is a number below 256
  shown-client : Passed z → (shown_written s.c w).version.client < 256
  shown-client ok = go shown_is (o.written w l)
    where
      go : (shown_written s.c w ≡ s.c.written w) ⊎ Forming s.p s.c w (shown_written s.c w) → Known s.p w (s.c.written w)
          → (shown_written s.c w).version.client < 256
      go (inl e) (Known.absent f) = rw e (rw f (omega arith))
      go (inl e) (Known.formed d p f g) = rw e (omega (arith, f, l, ok.clients.1))
      go (inr e) k = omega (arith, e.client, l, ok.clients.1)

-- ---- what an open operation has seen

-- a client's last operation
abbrev last_of : History → ℕ → Operation
last_of h c = h.operation (h.latest c)

-- what client w has frozen for client j stays, or becomes what its row shows
data Freezes (s t : Model) (w j : ℕ) : Type 0 where
  same : t.c.indices w j ≡ s.c.indices w j → t.c.frozen w j ≡ s.c.frozen w j → Freezes s t w j
  put : t.c.frozen w j ≡ shown_written s.c w → Freezes s t w j

-- what client j's operation goes by stays
record Frame (z : Measures) (s t : Model) (j : ℕ) : Type 0 where
  shown : Current s.h j → t.p.shown (t.h.latest j) ≡ s.p.shown (s.h.latest j)
  reading : t.c.reading j ≡ s.c.reading j
  frozen : (w : ℕ) → w < z.m → Freezes s t w j

current : (h : History) (p : Past) (c : ℕ) (u : Turn) → Doing h p c u → Busy u → Current h c
current h p c Turn.idle d b = absurd b
current h p c (Turn.scanning bytes) d b = d.0
current h p c (Turn.scanned bytes a) d b = d.0
current h p c (Turn.storing v bytes a) d b = d.0
current h p c (Turn.updating x) d b = d.0
current h p c (Turn.updated x) d b = d.0
current h p c (Turn.freezing x) d b = d.0
current h p c (Turn.noticing x a) d b = d.0
current h p c Turn.raising d b = d.0
current h p c Turn.raised d b = d.0
current h p c Turn.picking d b = d.0
current h p c (Turn.picked a) d b = d.0
current h p c (Turn.fetching x n m ps) d b = d.0

module _ (z : Measures) (s t : Model) (g : Grown z s.c t.c) (o : Ordering z s) (j : ℕ) (r : Frame z s t j) where
  frozen-kept : Current s.h j → FrozenAfter z s j → FrozenAfter z t j
  frozen-kept c f w l e = rw (r.shown c) (go (r.frozen w l))
    where
      go : Freezes s t w j → s.p.shown (s.h.latest j) w ≤ ver (t.c.frozen w j)
      go (Freezes.same i x) = rw x (f w l (sym i ∙ e ∙ r.reading))
      go (Freezes.put x) = rw x (o.grows (s.h.latest j) w c.begun l)

  since_kept : (u : Turn) → (Busy u → Current s.h j) → Since z s j u → Since z t j u
  since_kept Turn.idle c e = tt
  since_kept (Turn.scanning bytes) c e = tt
  since_kept (Turn.scanned bytes a) c e = λ w l. (rw (r.shown (c tt)) (e w l).0, (e w l).1)
  since_kept (Turn.storing v bytes a) c e = tt
  since_kept (Turn.updating x) c e = tt
  since_kept (Turn.updated x) c e = tt
  since_kept (Turn.freezing x) c e = tt
  since_kept (Turn.noticing x a) c e = tt
  since_kept Turn.raising c e = frozen-kept (c tt) e
  since_kept Turn.raised c e = frozen-kept (c tt) e
  since_kept Turn.picking c e = frozen-kept (c tt) e
  since_kept (Turn.picked a) c e = λ w l. rw (r.shown (c tt)) (rw r.reading ((e w l).0, omega (arith, (e w l).1, g w l)))
  since_kept (Turn.fetching x n m ps) c e = tt

-- ---- what operations bear

-- an operation of before, or one that begins now
data Begins (s t : Model) (j : ℕ) : Type 0 where
  old : j < s.h.begun → t.p.shown j ≡ s.p.shown j → (t.h.operation j).began ≡ (s.h.operation j).began → Begins s t j
  new : t.p.shown j ≡ shows s.c → (t.h.operation j).began ≡ s.h.time → Begins s t j

-- what is asked of an operation that an event marks at this time: if it has ended, it has now
record Fits (z : Measures) (k : Clients) (time : ℕ) (shown : ℕ → ℕ) (y : Operation) : Type 0 where
  ends : (e : ℕ) → y.ended ≡ some e → e ≡ time
  ended : (v : Version) (e : ℕ) → y.version ≡ some v → y.ended ≡ some e → Below z (shows k) (num v)
  reads : (v : Version) → y.version ≡ some v → y.page ≡ none → Below z (shows k) (num v)
  read : (v : Version) → y.version ≡ some v → y.page ≡ none → (w : ℕ) → w < z.m → shown w ≤ num v
  drew : (v : Version) (bytes : List ℕ) → y.version ≡ some v → y.page ≡ some bytes → (w : ℕ) → w < z.m → shown w / 256 < v.sequence.0

data Bears (z : Measures) (s t : Model) (j : ℕ) : Type 0 where
  same : j < s.h.begun → t.p.shown j ≡ s.p.shown j → t.h.operation j ≡ s.h.operation j → Bears z s t j
  marked : Fits z t.c s.h.time (t.p.shown j) (t.h.operation j) → Bears z s t j

module _ (z : Measures) (s t : Model) (g : Grown z s.c t.c) (o : Ordering z s) where
  begins-kept : (j : ℕ) → Begins s t j → (t.h.operation j).began ≤ s.h.time
  begins-kept j (Begins.old l a b) = omega (arith, b, o.begins j l)
  begins-kept j (Begins.new a b) = omega (arith, b)

  ends-kept : (j e : ℕ) → Bears z s t j → (t.h.operation j).ended ≡ some e → e ≤ s.h.time
  ends-kept j e (Bears.same l a b) p = omega (arith, o.ends j e l (sym (ap (λ (y : Operation). y.ended) b) ∙ p))
  ends-kept j e (Bears.marked f) p = omega (arith, f.ends e p)

  grows_kept : (j w : ℕ) → w < z.m → Begins s t j → t.p.shown j w ≤ shows t.c w
  grows_kept j w l (Begins.old i a b) = rw a (omega (arith, o.grows j w i l, g w l))
  grows_kept j w l (Begins.new a b) = rw a (g w l)

  ended-kept : (j : ℕ) (v : Version) (e : ℕ) → Bears z s t j → (t.h.operation j).version ≡ some v → (t.h.operation j).ended ≡ some e
      → Below z (shows t.c) (num v)
  ended-kept j v e (Bears.same l a b) p q = below_grown z s.c t.c (num v) g (o.ended j v e l (rw b at p) (rw b at q))
  ended-kept j v e (Bears.marked f) p q = f.ended v e p q

  reads_kept : (j : ℕ) (v : Version) → Bears z s t j → (t.h.operation j).version ≡ some v → (t.h.operation j).page ≡ none
      → Below z (shows t.c) (num v)
  reads_kept j v (Bears.same l a b) p q = below_grown z s.c t.c (num v) g (o.reads j v l (rw b at p) (rw b at q))
  reads_kept j v (Bears.marked f) p q = f.reads v p q

  -- what ends now precedes no operation; what had ended is no newer than the rows, which one that begins now has seen
  before-kept : (e j : ℕ) (v : Version) (i : ℕ) → Bears z s t e → Begins s t j → (t.h.operation e).version ≡ some v
      → (t.h.operation e).ended ≡ some i → i < (t.h.operation j).began → Below z (t.p.shown j) (num v)
  before-kept e j v i (Bears.same l a b) (Begins.old h x y) p q m = rw x (o.before e j v i l h (rw b at p) (rw b at q) (rw y at m))
  before-kept e j v i (Bears.same l a b) (Begins.new x y) p q m = rw x (o.ended e v i l (rw b at p) (rw b at q))
  before-kept e j v i (Bears.marked f) n p q m = absurd (omega (arith, m, begins-kept j n, f.ends i q))

  read_kept_lem : (j : ℕ) (v : Version) → Bears z s t j → (t.h.operation j).version ≡ some v → (t.h.operation j).page ≡ none
      → (w : ℕ) → w < z.m → t.p.shown j w ≤ num v
  read_kept_lem j v (Bears.same l a b) p q w h = rw a (o.read j v l (rw b at p) (rw b at q) w h)
  read_kept_lem j v (Bears.marked f) p q w h = f.read v p q w h

  drew_kept : (j : ℕ) (v : Version) (bytes : List ℕ) → Bears z s t j → (t.h.operation j).version ≡ some v → (t.h.operation j).page ≡ some bytes
      → (w : ℕ) → w < z.m → t.p.shown j w / 256 < v.sequence.0
  drew_kept j v bytes (Bears.same l a b) p q w h = rw a (o.drew j v bytes l (rw b at p) (rw b at q) w h)
  drew_kept j v bytes (Bears.marked f) p q w h = f.drew v bytes p q w h

  kept : t.h.time ≡ s.h.time + 1 → ((j : ℕ) → j < t.h.begun → Begins s t j) → ((j : ℕ) → j < t.h.begun → Bears z s t j)
      → ((c : ℕ) → c < z.m → Since z t c (t.c.turn c)) → Ordering z t
  kept e n b i =
      record {
        begins = λ j l. omega (arith, e, begins-kept j (n j l));
        ends = λ j x l p. omega (arith, e, ends-kept j x (b j l) p);
        since = i;
        grows = λ j w l h. grows_kept j w h (n j l);
        ended = λ j v x l. ended-kept j v x (b j l);
        reads = λ j v l. reads_kept j v (b j l);
        before = λ x j v y l h. before-kept x j v y (b x l) (n j h);
        read = λ j v l. read_kept_lem j v (b j l);
        drew = λ j v bytes l. drew_kept j v bytes (b j l);
      }

-- ---- histories after an event

module _ (z : Measures) (s t : Model) (a : t.p.shown ≡ s.p.shown) where
  quiet_kept : (puts : List Put) → Marks s.h t.h s.h.operation puts → Grown z s.c t.c → ((c : ℕ) → c < z.m → Since z t c (t.c.turn c))
      → Ordering z s → Ordering z t
  quiet_kept puts q g i o =
      kept z s t g o q.time
      (λ j l. Begins.old (rw q.begun at l) (rw a) (rw q.operations))
      (λ j l. Bears.same (rw q.begun at l) (rw a) (rw q.operations))
      i

  -- client c's last operation is marked
  marked-kept : (c : ℕ) (f : Operation → Operation) → Marked s.h t.h c f
      → (f (last_of s.h c)).began ≡ (last_of s.h c).began
      → Fits z t.c s.h.time (s.p.shown (s.h.latest c)) (f (last_of s.h c))
      → Grown z s.c t.c → ((c : ℕ) → c < z.m → Since z t c (t.c.turn c)) → Ordering z s → Ordering z t
  marked-kept c f q b y g i o =
      kept z s t g o q.time
      (λ j l.
      by_eq j (s.h.latest c)
      (λ x e. Begins.old (rw q.begun at l) (rw a) (rw q.operations (rw x (rw e b))))
      (λ x e. Begins.old (rw q.begun at l) (rw a) (rw q.operations (rw x))))
      (λ j l.
      by_eq j (s.h.latest c)
      (λ x e. Bears.marked (rw a (rw q.operations (rw x (rw e y)))))
      (λ x e. Bears.same (rw q.begun at l) (rw a) (rw q.operations (rw x))))
      i

-- an operation that bears nothing and has not ended
unborne_fits : (z : Measures) (k : Clients) (time : ℕ) (f : ℕ → ℕ) (y : Operation) → y.version ≡ none → y.ended ≡ none → Fits z k time f y
unborne_fits z k time f y a b =
    record {
      ends = λ e q. absurd (none≢some (sym b ∙ q));
      ended = λ v e p q. absurd (none≢some (sym a ∙ p));
      reads = λ v p q. absurd (none≢some (sym a ∙ p));
      read = λ v p q w l. absurd (none≢some (sym a ∙ p));
      drew = λ v bytes p q w l. absurd (none≢some (sym a ∙ p));
    }

-- a deposit that draws a version
bearing-fits : (z : Measures) (k : Clients) (time : ℕ) (f : ℕ → ℕ) (y : Operation) (v : Version) (bytes : List ℕ) → y.version ≡ some v
    → y.page ≡ some bytes → y.ended ≡ none → ((w : ℕ) → w < z.m → f w / 256 < v.sequence.0) → Fits z k time f y
bearing-fits z k time f y v bytes a b c d =
    record {
      ends = λ e q. absurd (none≢some (sym c ∙ q));
      ended = λ u e p q. absurd (none≢some (sym c ∙ q));
      reads = λ u p q. absurd (none≢some (sym q ∙ b));
      read = λ u p q w l. absurd (none≢some (sym q ∙ b));
      drew = λ u x p q w l. rw (← some_eq (sym a ∙ p)) (d w l);
    }

-- a reading that picks a pointer: some row shows it or has passed it, and it is above all that the rows showed
picking-fits : (z : Measures) (s : Model) (k : Clients) (c : ℕ) (a : Rows) (x : Pointer) (y : Operation) → y.version ≡ some x.version
    → y.page ≡ none → ((e : ℕ) → y.ended ≡ some e → e ≡ s.h.time) → Grown z s.c k → Since z s c (Turn.picked a)
    → Picks z a c (s.c.reading c) x → Fits z k s.h.time (s.p.shown (s.h.latest c)) y
picking-fits z s k c a x y e p n g i q =
    record {
      ends = n;
      ended = λ v j d f. rw (← some_eq (sym e ∙ d)) passed;
      reads = λ v d f. rw (← some_eq (sym e ∙ d)) passed;
      read = λ v d f w l. rw (← some_eq (sym e ∙ d)) (omega (arith, (i w l).0, q.top w l));
      drew = λ v bytes d f w l. absurd (none≢some (sym p ∙ f));
    }
  where
    passed : Below z (shows k) (ver x)
    passed = (q.row, q.within, omega (arith, g q.row q.within, rw q.offered at (i q.row q.within).1))

-- an operation that ends, with what it bore
ending-fits : (z : Measures) (s : Model) (k : Clients) (j : ℕ) (y : Operation) → Ordering z s → j < s.h.begun
    → y.version ≡ (s.h.operation j).version → y.page ≡ (s.h.operation j).page → y.ended ≡ some s.h.time
    → ((v : Version) → (s.h.operation j).version ≡ some v → Below z (shows k) (num v))
    → Fits z k s.h.time (s.p.shown j) y
ending-fits z s k j y o l a b c d =
    record {
      ends = λ e q. some_eq (sym q ∙ c);
      ended = λ v e p q. d v (sym a ∙ p);
      reads = λ v p q. d v (sym a ∙ p);
      read = λ v p q. o.read j v l (sym a ∙ p) (sym b ∙ q);
      drew = λ v bytes p q. o.drew j v bytes l (sym a ∙ p) (sym b ∙ q);
    }

-- ---- states after an event

module _ (z : Measures) (s t : Model) (g : Grown z s.c t.c) (r : Recording z s) (o : Ordering z s) where
  -- a client whose turn stays
  since_same : (j : ℕ) → j < z.m → Frame z s t j → Since z t j (s.c.turn j)
  since_same j l f = since_kept z s t g o j f (s.c.turn j) (current s.h s.p j (s.c.turn j) (r.doing j l)) (o.since j l)

  -- one client's turn becomes u
  since_turned : (c : ℕ) (u : Turn) → ((j : ℕ) → (j ≡ c → ⊥) → Frame z s t j) → Since z t c u → (j : ℕ) → j < z.m → Since z t j (upd s.c.turn c u j)
  since_turned c u f i j l = by_eq j c (λ x e. rw x (rw e i)) (λ x e. rw x (since_same j l (f j e)))

-- clients and directory stay
same_kept : (z : Measures) (s : Model) (n : Nodes) (h : History) → Quiet s.h h → Recording z s → Ordering z s
    → Ordering z (record { c = s.c; d = s.d; n = n; p = s.p; h = h })
same_kept z s n h q r o =
    quiet_kept z s after refl s.h.puts q (λ w l. omega arith)
    (λ j l. since_same z s after (λ w i. omega arith) r o j l (record { shown = λ x. rw q.latest; reading = refl; frozen = λ w i. Freezes.same refl refl }))
    o
  where
    after : Model
    after = record { c = s.c; d = s.d; n = n; p = s.p; h = h }

-- client c's turn v becomes u, and its row shows no older version
module _ (z : Measures) (s : Model) (c : ℕ) (l : c < z.m) (v u : Turn) (e : s.c.turn c ≡ v)
    (m : ver (put_by v (s.c.written c)) ≤ ver (put_by u (s.c.written c))) (d : Shown) (n : Nodes) (p : Past) (h : History)
    (a : p.shown ≡ s.p.shown) (r : Recording z s) (o : Ordering z s) where
  abbrev after : Model
  after = record { c = turned s.c c u; d = d; n = n; p = p; h = h }

  grown : Grown z s.c (turned s.c c u)
  grown = turned_grown z s.c c u (rw e m)

  turned-frame : h.latest ≡ s.h.latest → (j : ℕ) → Frame z s after j
  turned-frame b j = record { shown = λ x. rw b (rw a); reading = refl; frozen = λ w k. Freezes.same refl refl }

  turned_since : h.latest ≡ s.h.latest → Since z after c u → (j : ℕ) → j < z.m → Since z after j (upd s.c.turn c u j)
  turned_since b = since_turned z s after grown r o c u (λ j x. turned-frame b j)

  turned_quiet : (puts : List Put) → Marks s.h h s.h.operation puts → Busy v → (Current s.h c → Since z s c v → Since z s c u) → Ordering z after
  turned_quiet puts q b i =
      let k = current s.h s.p c v (rw e at (r.doing c l)) b in
      quiet_kept z s after a puts q grown
      (turned_since q.latest (since_kept z s after grown o c (turned-frame q.latest c) u (λ x. k) (i k (rw e at (o.since c l)))))
      o

  turned-marked : (f : Operation → Operation) → Marked s.h h c f → (f (last_of s.h c)).began ≡ (last_of s.h c).began → Since z after c u
      → (Grown z s.c (turned s.c c u) → Doing s.h s.p c v → Since z s c v
      → Fits z (turned s.c c u) s.h.time (s.p.shown (s.h.latest c)) (f (last_of s.h c)))
      → Ordering z after
  turned-marked f q b i y =
      marked-kept z s after a c f q b (y grown (rw e at (r.doing c l)) (rw e at (o.since c l))) grown (turned_since q.latest i) o

-- client c begins an operation, with the clients' reading indices i
module _ (z : Measures) (s : Model) (c : ℕ) (page : Option (List ℕ)) (u : Turn) (i : ℕ → ℕ) where
  abbrev begun : Model
  begun =
      record {
        c =
            record {
              turn = upd s.c.turn c u;
              written = s.c.written;
              frozen = s.c.frozen;
              reserved = s.c.reserved;
              indices = s.c.indices;
              reading = i;
            };
        d = s.d;
        n = s.n;
        p = begun_by s.p s.h.begun (shows s.c);
        h = begin c page s.h;
      }

  begun-frame : (j : ℕ) → (j ≡ c → ⊥) → i j ≡ s.c.reading j → Frame z s begun j
  begun-frame j x b =
      record {
        shown = λ y. rw (ne_eqb j c x) (rw (ne_eqb (s.h.latest j) s.h.begun (λ e. omega (arith, e, y.begun))));
        reading = b;
        frozen = λ w l. Freezes.same refl refl;
      }

  begun_kept : shows s.c c ≤ ver (put_by u (s.c.written c)) → ((j : ℕ) → (j ≡ c → ⊥) → i j ≡ s.c.reading j) → Since z begun c u → Recording z s
      → Ordering z s → Ordering z begun
  begun_kept m b a r o =
      kept z s begun (turned_grown z s.c c u m) o refl
      (λ j l. by_eq j s.h.begun (λ f g. Begins.new (rw f) (rw f)) (λ f g. Begins.old (omega (arith, l, g)) (rw f) (rw f)))
      (λ j l.
      by_eq j s.h.begun
      (λ f g. Bears.marked (rw f (unborne_fits z begun.c s.h.time (shows s.c) _ refl refl)))
      (λ f g. Bears.same (omega (arith, l, g)) (rw f) (rw f)))
      (since_turned z s begun (turned_grown z s.c c u m) r o c u (λ j x. begun-frame j x (b j x)) a)

-- a deposit ends: what it freezes is what its row shows
module _ (z : Measures) (s : Model) (c : ℕ) (l : c < z.m) (x : Pointer) (a : Rows) (n : Nodes) (h : History) (q : Marked s.h h c (ending s.h.time))
    (e : s.c.turn c ≡ Turn.noticing x a) (r : Recording z s) (o : Ordering z s) where
  abbrev frozen : Model
  frozen = record { c = frozen_by s.c c x a; d = s.d; n = n; p = s.p; h = h }

  frozen_grown : Grown z s.c (frozen_by s.c c x a)
  frozen_grown w i = by_eq w c (λ f g. rw f (rw g (rw e (omega arith)))) (λ f g. rw f (omega arith))

  frozen_freezes : (w j : ℕ) → Freezes s frozen w j
  frozen_freezes w j = by_eq w c (λ f g. go f g (notices s.c a c j) refl) (λ f g. Freezes.same (rw f) (rw f))
    where
      go : eqb w c ≡ true → w ≡ c → (b : Bool) → notices s.c a c j ≡ b → Freezes s frozen w j
      go f g true b = Freezes.put (rw f (rw b (rw g (rw e))))
      go f g false b = Freezes.same (rw f (rw b (rw g))) (rw f (rw b (rw g)))

  frozen-frame : (j : ℕ) → Frame z s frozen j
  frozen-frame j = record { shown = λ y. rw q.latest; reading = refl; frozen = λ w i. frozen_freezes w j }

  freeze-kept : Ordering z frozen
  freeze-kept =
      let y = rw e at (r.doing c l) in
      marked-kept z s frozen refl c (ending s.h.time) q refl
      (ending-fits z s frozen.c (s.h.latest c) (ending s.h.time (last_of s.h c)) o y.0.begun refl refl refl
      (λ v p. rw (← some_eq (sym y.1.version ∙ p)) (c, l, rw (eq-eqb c c refl) (omega arith))))
      frozen_grown
      (since_turned z s frozen frozen_grown r o c Turn.idle (λ j i. frozen-frame j) tt)
      o

-- ---- a reading's scan: what each row offers is no older than what it showed when the reading began, and no newer than what it shows

offers : (z : Measures) (s : Model) (c : ℕ) → c < z.m → s.c.turn c ≡ Turn.picking → Owned z s → Lagging z s → Ordering z s
    → Current s.h c → FrozenAfter z s c → Since z s c (Turn.picked (rows_of s))
offers z s c l e k g o y n w i = go (ltb (s.d.indices w c) (s.c.reading c)) refl (g.lag w c i)
  where
    index : s.c.indices w c ≤ s.c.reading c
    index = rw e at (g.index w c i l)

    go : (b : Bool) → ltb (s.d.indices w c) (s.c.reading c) ≡ b → Lag s w c
        → (s.p.shown (s.h.latest c) w ≤ ver (offer (rows_of s) c (s.c.reading c) w)) × (ver (offer (rows_of s) c (s.c.reading c) w) ≤ shows s.c w)
    go true f a = rw f (o.grows (s.h.latest c) w y.begun i, omega arith)
    go false f (Lag.level a b) =
        let j : s.c.indices w c ≡ s.c.reading c = omega (arith, a, ltb-false (s.d.indices w c) (s.c.reading c) f, index) in
        rw f (rw b (n w i j), omega (arith, (k.shown w c i).1, written-shown z s k w i))
    go false f (Lag.behind a b d) = absurd (omega (arith, b, ltb-false (s.d.indices w c) (s.c.reading c) f, index))

-- ---- every step

pub ordering_kept : (z : Measures) (honest : ℕ → Bool) → Passed z → (s t : Model) → Next z honest s t → Owned z s → Drawing z s → Lagging z s
    → Recording z s → Ordering z s → Ordering z t
ordering_kept z honest ok s t (Next.refused h q) w d g r o = same_kept z s s.n h q r o
ordering_kept z honest ok s t (Next.deposit c b h q l e bb n) w d g r o =
    rw q (begun_kept z s c (some b) (Turn.scanning b) s.c.reading (rw e (omega arith)) (λ j x. refl) tt r o)
ordering_kept z honest ok s t (Next.reading c h q l e) w d g r o =
    rw q
    (begun_kept z s c none Turn.raising (upd s.c.reading c (s.c.reading c + 1)) (rw e (omega arith)) (λ j x. rw (ne_eqb j c x))
    (λ i j x. absurd (omega (arith, rw (eq-eqb c c refl) at x, rw e at (g.index i c j l)))) r o)
ordering_kept z honest ok s t (Next.publish c x h q l e) w d g r o =
    turned_quiet z s c l (Turn.updating x) (Turn.updated x) e (omega (arith, (rw e at (w.own c l)).newer)) _ _ _ h refl r o _ q tt (λ y i. tt)
ordering_kept z honest ok s t (Next.raise c h q l e) w d g r o =
    turned_quiet z s c l Turn.raising Turn.raised e (omega arith) _ _ _ h refl r o _ q tt (λ y i. i)
ordering_kept z honest ok s t (Next.scan-first c b h q l e) w d g r o =
    turned_quiet z s c l (Turn.scanning b) (Turn.scanned b (rows_of s)) e (omega arith) _ _ _ h refl r o _ q tt
    (λ y i j k. (o.grows (s.h.latest c) j y.begun k, shown-client z s w j k ok))
ordering_kept z honest ok s t (Next.scan_second c x h q l e) w d g r o =
    turned_quiet z s c l (Turn.freezing x) (Turn.noticing x (rows_of s)) e (omega arith) _ _ _ h refl r o _ q tt (λ y i. tt)
ordering_kept z honest ok s t (Next.scan-reading c h q l e) w d g r o =
    turned_quiet z s c l Turn.picking (Turn.picked (rows_of s)) e (omega arith) _ _ _ h refl r o _ q tt (λ y i. offers z s c l e w g o y i)
ordering_kept z honest ok s t (Next.acknowledged c x h q l e) w d g r o =
    turned_quiet z s c l (Turn.updated x) (Turn.freezing x) e (omega arith) _ _ _ h refl r o _ q tt (λ y i. tt)
ordering_kept z honest ok s t (Next.known c h q l e) w d g r o =
    turned_quiet z s c l Turn.raised Turn.picking e (omega arith) _ _ _ h refl r o _ q tt (λ y i. i)
ordering_kept z honest ok s t (Next.draw c b a v h q l e ec es ab) w d g r o =
    turned-marked z s c l (Turn.scanned b a) (Turn.storing v b 0) e (omega arith) _ _ _ h refl r o (bearing v) q refl tt
    (λ k y i. bearing-fits z _ _ _ _ v b refl y.1.page y.0.unended (λ j x. omega (arith, (i j x).0, (i j x).1, ab j x)))
ordering_kept z honest ok s t (Next.spent c b a h q l e) w d g r o =
    turned-marked z s c l (Turn.scanned b a) Turn.idle e (omega arith) _ _ _ h refl r o (ending s.h.time) q refl tt
    (λ k y i. ending-fits z s _ (s.h.latest c) _ o y.0.begun refl refl refl (λ v p. absurd (none≢some (sym y.1.version ∙ p))))
ordering_kept z honest ok s t (Next.freeze c x a fl h q l e fr) w d g r o = freeze-kept z s c l x a _ h q e r o
ordering_kept z honest ok s t (Next.empty c a h q l e pk) w d g r o =
    turned-marked z s c l (Turn.picked a) Turn.idle e (omega arith) _ _ _ h refl r o (λ k. ending s.h.time (choosing none_pointer k)) q refl tt
    (λ k y i. picking-fits z s _ c a none_pointer _ refl y.1.page (λ j p. some_eq (sym p)) k i pk)
ordering_kept z honest ok s t (Next.fetch c a x h q l e pk ne) w d g r o =
    turned-marked z s c l (Turn.picked a) (Turn.fetching x 0 0 (replicate z.n [])) e (omega arith) _ _ _ h refl r o (choosing x) q refl tt
    (λ k y i. picking-fits z s _ c a x _ refl y.1.page (λ j p. absurd (none≢some (sym y.0.unended ∙ p))) k i pk)
ordering_kept z honest ok s t (Next.store c i v x rest h q hi lo up l e) w d g r o = same_kept z s _ h q r o
ordering_kept z honest ok s t (Next.request c i v rest h q hi lo up l e) w d g r o = same_kept z s _ h q r o
ordering_kept z honest ok s t (Next.free c i fl rest h q hi lo up l e) w d g r o = same_kept z s _ h q r o
ordering_kept z honest ok s t (Next.passed i c m qs h q co) w d g r o = same_kept z s _ h q r o
ordering_kept z honest ok s t (Next.added i c v b a qs h q l lo up e co st few) w d g r o =
    turned_quiet z s c l (Turn.storing v b a) (Turn.storing v b (with_node a i)) e (omega arith) _ _ _ h refl r o _ q tt (λ y x. tt)
ordering_kept z honest ok s t (Next.formed i c v b a qs h q l lo up e co st en) w d g r o =
    turned_quiet z s c l (Turn.storing v b a) (Turn.updating (pointed z v b (with_node a i))) e (omega arith) _ _ _ h refl r o _ q tt (λ y x. tt)
ordering_kept z honest ok s t (Next.missed i c x n m ps y qs h q l lo up e co hi sn st) w d g r o =
    turned_quiet z s c l (Turn.fetching x n m ps) (Turn.fetching x (with_node n i) m ps) e (omega arith) _ _ _ h refl r o _ q tt (λ k j. tt)
ordering_kept z honest ok s t (Next.matched i c x n m ps b qs h q l lo up e co sn st eb few) w d g r o =
    turned_quiet z s c l (Turn.fetching x n m ps) (Turn.fetching x (with_node n i) (with_node m i) (set ps (i - 1) b)) e (omega arith)
    _ _ _ h refl r o _ q tt (λ k j. tt)
ordering_kept z honest ok s t (Next.ended i c x n m ps y qs h q l e co) w d g r o =
    turned-marked z s c l (Turn.fetching x n m ps) Turn.idle e (omega arith) _ _ _ h refl r o
    (λ k. ending s.h.time (giving (s.p.pages (ver x)) k)) q refl tt
    (λ k d i. ending-fits z s _ (s.h.latest c) _ o d.0.begun refl refl refl
    (λ v p. below_grown z s.c t.c (num v) k (o.reads (s.h.latest c) v d.0.begun p d.1.page)))
