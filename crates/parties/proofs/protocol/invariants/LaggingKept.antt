-- The directory's rows follow the clients: every step keeps `Lagging`.
use mathlib.Core.Path.{◌≡◌, refl}
use mathlib.Core.Bool.{Bool, true, false, cond, not}
use Prim.Native.Nat.{ℕ, ◌≤◌, ◌<◌}
use native.Mathlib.Omega.{arith}
use borrow.Author.Tests.{ltb-true, eq-eqb}
use lib.Dec.{eqb}
use Rattle.coding.proofs.Cases.{and-true}
use Rattle.parties.specs.declared.Measures.{Measures}
use Rattle.parties.specs.protocol.Pointer.{Pointer}
use Rattle.parties.specs.protocol.Run.{History, upd}
use Rattle.parties.proofs.protocol.model.Cells.{by_eq}
use Rattle.parties.proofs.protocol.formats.MeasureLaws.{Passed}
use Rattle.parties.proofs.protocol.model.Model.{Turn, Rows, Clients, Shown, Nodes, Past, Model, Next, raised_to}
use Rattle.parties.proofs.protocol.model.Model.{shown_reading, notices, turned, raised_by, frozen_by, published}
use Rattle.parties.proofs.protocol.invariants.Invariants.{Unput, Lag, Seen, Lagging, Owned}

-- ---- of the clients alone

-- rows that show no index above some show none above higher ones
seen_more : (z : Measures) (f g : ℕ → ℕ) → ((q : ℕ) → f q ≤ g q) → (t : Turn) → Seen z f t → Seen z g t
seen_more z f g m Turn.idle e = tt
seen_more z f g m (Turn.scanning bytes) e = tt
seen_more z f g m (Turn.scanned bytes a) e = λ q l. omega (arith, e q l, m q)
seen_more z f g m (Turn.storing v bytes a) e = tt
seen_more z f g m (Turn.updating x) e = tt
seen_more z f g m (Turn.updated x) e = tt
seen_more z f g m (Turn.freezing x) e = tt
seen_more z f g m (Turn.noticing x a) e = λ q l. omega (arith, e q l, m q)
seen_more z f g m Turn.raising e = tt
seen_more z f g m Turn.raised e = tt
seen_more z f g m Turn.picking e = tt
seen_more z f g m (Turn.picked a) e = λ q l. omega (arith, e q l, m q)
seen_more z f g m (Turn.fetching x n o ps) e = tt

-- where one client's turn changes and its row's reading index does not fall, none falls
not_fallen : (k : Clients) (c : ℕ) (u : Turn) → shown_reading k c ≤ raised_to u (k.reading c) → (q : ℕ)
    → shown_reading k q ≤ raised_to (upd k.turn c u q) (k.reading q)
not_fallen k c u m q = by_eq q c (λ f g. rw f (rw g m)) (λ f g. rw f (omega arith))

seen_turned : (z : Measures) (k : Clients) (c : ℕ) (u : Turn) (r : ℕ → ℕ) → ((q : ℕ) → shown_reading k q ≤ r q) → Seen z (shown_reading k) u
    → ((w : ℕ) → w < z.m → Seen z (shown_reading k) (k.turn w)) → (w : ℕ) → w < z.m → Seen z r (upd k.turn c u w)
seen_turned z k c u r m a o w l =
    by_eq w c (λ f g. rw f (seen_more z (shown_reading k) r m u a)) (λ f g. rw f (seen_more z (shown_reading k) r m (k.turn w) (o w l)))

-- ---- one client's turn changes

-- with the clients' reading indices r
abbrev pub moved : Clients → ℕ → Turn → (ℕ → ℕ) → Clients
moved k c u r =
    record { turn = upd k.turn c u; written = k.written; frozen = k.frozen; reserved = k.reserved; indices = k.indices; reading = r }

module _ (z : Measures) (s : Model) (c : ℕ) (u : Turn) where
  unput_turned : (Unput (s.c.turn c) → Unput u) → (w : ℕ) → Unput (s.c.turn w) → Unput (upd s.c.turn c u w)
  unput_turned p w a = by_eq w c (λ f g. rw f (p (rw g at a))) (λ f g. rw f a)

  lag_moved : (r : ℕ → ℕ) (n : Nodes) (p : Past) (h : History) → (Unput (s.c.turn c) → Unput u)
      → (w q : ℕ) → Lag s w q → Lag (record { c = moved s.c c u r; d = s.d; n = n; p = p; h = h }) w q
  lag_moved r n p h b w q (Lag.level a e) = Lag.level a e
  lag_moved r n p h b w q (Lag.behind a l e) = Lag.behind (unput_turned b w a) l e

  -- its row's reading index does not fall
  moved_lagging : (r : ℕ → ℕ) (d : Shown) (n : Nodes) (p : Past) (h : History)
      → ((w q : ℕ) → Lag s w q → Lag (record { c = moved s.c c u r; d = d; n = n; p = p; h = h }) w q)
      → ((q : ℕ) → shown_reading s.c q ≤ shown_reading (moved s.c c u r) q) → Seen z (shown_reading s.c) u
      → Lagging z s → Lagging z (record { c = moved s.c c u r; d = d; n = n; p = p; h = h })
  moved_lagging r d n p h b m a o =
      record {
        lag = λ w q l. b w q (o.lag w q l);
        index = λ w q l j. omega (arith, o.index w q l j, m q);
        seen = seen_turned z s.c c u (shown_reading (moved s.c c u r)) m a o.seen;
      }

  -- and what it has put in stays put in
  turned_lagging : (n : Nodes) (p : Past) (h : History) → (Unput (s.c.turn c) → Unput u)
      → shown_reading s.c c ≤ raised_to u (s.c.reading c) → Seen z (shown_reading s.c) u
      → Lagging z s → Lagging z (record { c = turned s.c c u; d = s.d; n = n; p = p; h = h })
  turned_lagging n p h b m = moved_lagging s.c.reading s.d n p h (lag_moved s.c.reading n p h b) (not_fallen s.c c u m)

-- nothing changes for clients and directory
lag_same : (s : Model) (n : Nodes) (p : Past) (h : History) (w q : ℕ) → Lag s w q → Lag (record { c = s.c; d = s.d; n = n; p = p; h = h }) w q
lag_same s n p h w q (Lag.level a e) = Lag.level a e
lag_same s n p h w q (Lag.behind a l e) = Lag.behind a l e

same_lagging : (z : Measures) (s : Model) (n : Nodes) (p : Past) (h : History) → Lagging z s
    → Lagging z (record { c = s.c; d = s.d; n = n; p = p; h = h })
same_lagging z s n p h o = record { lag = λ w q l. lag_same s n p h w q (o.lag w q l); index = o.index; seen = o.seen }

-- ---- a reading begins: its index is one higher, its row's is as before

begun-shown : (k : Clients) (c : ℕ) → k.turn c ≡ Turn.idle → (q : ℕ) → shown_reading k q ≤ shown_reading (raised_by k c) q
begun-shown k c e q = by_eq q c (λ f g. rw f (rw g (rw e (omega arith)))) (λ f g. rw f (omega arith))

-- ---- a deposit's update: its row takes the client's frozen pointers and indices

publish_lag : (s : Model) (c : ℕ) (x : Pointer) (h : History) (w q : ℕ)
    → Lag s w q → Lag (record { c = turned s.c c (Turn.updated x); d = published s c; n = s.n; p = s.p; h = h }) w q
publish_lag s c x h w q a = by_eq w c (λ f g. Lag.level (rw f (rw g refl)) (rw f (rw g refl))) (λ f g. other f a)
  where
    other : eqb w c ≡ false → Lag s w q → Lag (record { c = turned s.c c (Turn.updated x); d = published s c; n = s.n; p = s.p; h = h }) w q
    other f (Lag.level a e) = Lag.level (rw f a) (rw f e)
    other f (Lag.behind a b e) = Lag.behind (rw f a) (rw f b) e

-- ---- a deposit's end: what it freezes is what its row shows as written

module _ (z : Measures) (s : Model) (c : ℕ) (x : Pointer) (a : Rows) (n : Nodes) (h : History) (e : s.c.turn c ≡ Turn.noticing x a) where
  abbrev after : Model
  after = record { c = frozen_by s.c c x a; d = s.d; n = n; p = s.p; h = h }

  -- its row was level, since its pointer was put in
  level_at : (q : ℕ) → Lag s c q → (s.d.indices c q ≡ s.c.indices c q) × (s.d.frozen c q ≡ s.c.frozen c q)
  level_at q (Lag.level i f) = (i, f)
  level_at q (Lag.behind b i f) = absurd (rw e at b)

  freeze_own : (q : ℕ) → Lag s c q → Lag after c q
  freeze_own q o = go (notices s.c a c q) refl
    where
      same : eqb c c ≡ true
      same = eq-eqb c c refl

      go : (b : Bool) → notices s.c a c q ≡ b → Lag after c q
      go true f =
          let n : s.c.indices c q < a.reading q = ltb-true _ _ (and-true (not (eqb q c)) _ f).1 in
          Lag.behind (rw same tt) (rw (same, f) (omega (arith, (level_at q o).0))) (rw (same, f) refl)
      go false f = Lag.level (rw (same, f) (level_at q o).0) (rw (same, f) (level_at q o).1)

  freeze-other : (w q : ℕ) → eqb w c ≡ false → Lag s w q → Lag after w q
  freeze-other w q f (Lag.level i g) = Lag.level (rw f i) (rw f g)
  freeze-other w q f (Lag.behind b i g) = Lag.behind (rw f b) (rw f i) (rw f g)

  freeze_lag : (w q : ℕ) → Lag s w q → Lag after w q
  freeze_lag w q o = by_eq w c (λ f g. rw g (freeze_own q (rw g at o))) (λ f g. freeze-other w q f o)

  -- what is noticed is what the rows under way show
  freeze-index : c < z.m → Lagging z s → (w q : ℕ) → w < z.m → q < z.m → (frozen_by s.c c x a).indices w q ≤ shown_reading s.c q
  freeze-index l o w q j k = by_eq w c (λ f g. rw f (go (notices s.c a c q) refl)) (λ f g. rw f (o.index w q j k))
    where
      go : (b : Bool) → notices s.c a c q ≡ b → cond (notices s.c a c q) (a.reading q) (s.c.indices c q) ≤ shown_reading s.c q
      go true f = rw f ((rw e at (o.seen c l)) q k)
      go false f = rw f (o.index c q l k)

  freeze_lagging : c < z.m → Lagging z s → Lagging z after
  freeze_lagging l o =
      let m : (q : ℕ) → shown_reading s.c q ≤ shown_reading after.c q = not_fallen s.c c Turn.idle (rw e (omega arith)) in
      record {
        lag = λ w q j. freeze_lag w q (o.lag w q j);
        index = λ w q j k. omega (arith, freeze-index l o w q j k, m q);
        seen = seen_turned z s.c c Turn.idle (shown_reading after.c) m tt o.seen;
      }

-- ---- every step

pub lagging_kept : (z : Measures) (honest : ℕ → Bool) → Passed z → (s t : Model) → Next z honest s t → Owned z s → Lagging z s → Lagging z t
lagging_kept z honest y s t (Next.refused h q) w o = same_lagging z s s.n s.p h o
lagging_kept z honest y s t (Next.deposit c bytes h q l e bb n) w o =
    turned_lagging z s c (Turn.scanning bytes) s.n _ h (λ b. tt) (rw e (omega arith)) tt o
lagging_kept z honest y s t (Next.reading c h q l e) w o =
    moved_lagging z s c Turn.raising _ s.d s.n _ h (lag_moved z s c Turn.raising _ s.n _ h (λ b. tt)) (begun-shown s.c c e) tt o
lagging_kept z honest y s t (Next.publish c x h q l e) w o =
    moved_lagging z s c (Turn.updated x) s.c.reading (published s c) s.n s.p h (publish_lag s c x h)
    (not_fallen s.c c (Turn.updated x) (rw e (omega arith))) tt o
lagging_kept z honest y s t (Next.raise c h q l e) w o =
    turned_lagging z s c Turn.raised s.n s.p h (λ b. tt) (rw e (omega arith)) tt o
lagging_kept z honest y s t (Next.scan-first c bytes h q l e) w o =
    turned_lagging z s c _ s.n s.p h (λ b. tt) (rw e (omega arith)) (λ q l. omega arith) o
lagging_kept z honest y s t (Next.scan_second c x h q l e) w o =
    turned_lagging z s c _ s.n s.p h (λ b. rw e at b) (rw e (omega arith)) (λ q l. omega arith) o
lagging_kept z honest y s t (Next.scan-reading c h q l e) w o =
    turned_lagging z s c _ s.n s.p h (λ b. tt) (rw e (omega arith)) (λ q l. omega arith) o
lagging_kept z honest y s t (Next.acknowledged c x h q l e) w o =
    turned_lagging z s c _ s.n s.p h (λ b. rw e at b) (rw e (omega arith)) tt o
lagging_kept z honest y s t (Next.known c h q l e) w o =
    turned_lagging z s c Turn.picking s.n s.p h (λ b. tt) (rw e (omega arith)) tt o
lagging_kept z honest y s t (Next.draw c bytes a v h q l e ec es ab) w o = turned_lagging z s c _ _ _ h (λ b. tt) (rw e (omega arith)) tt o
lagging_kept z honest y s t (Next.spent c bytes a h q l e) w o = turned_lagging z s c Turn.idle s.n s.p h (λ b. tt) (rw e (omega arith)) tt o
lagging_kept z honest y s t (Next.freeze c x a fl h q l e fr) w o = freeze_lagging z s c x a _ h e l o
lagging_kept z honest y s t (Next.empty c a h q l e pk) w o = turned_lagging z s c Turn.idle s.n s.p h (λ b. tt) (rw e (omega arith)) tt o
lagging_kept z honest y s t (Next.fetch c a x h q l e pk ne) w o = turned_lagging z s c _ _ s.p h (λ b. tt) (rw e (omega arith)) tt o
lagging_kept z honest y s t (Next.store c i v x rest h q hi lo up l e) w o = same_lagging z s _ s.p h o
lagging_kept z honest y s t (Next.request c i v rest h q hi lo up l e) w o = same_lagging z s _ s.p h o
lagging_kept z honest y s t (Next.free c i fl rest h q hi lo up l e) w o = same_lagging z s _ s.p h o
lagging_kept z honest y s t (Next.passed i c m qs h q co) w o = same_lagging z s _ s.p h o
lagging_kept z honest y s t (Next.added i c v bytes a qs h q l lo up e co st few) w o =
    turned_lagging z s c _ _ s.p h (λ b. tt) (rw e (omega arith)) tt o
lagging_kept z honest y s t (Next.formed i c v bytes a qs h q l lo up e co st en) w o = turned_lagging z s c _ _ _ h (λ b. tt) (rw e (omega arith)) tt o
lagging_kept z honest y s t (Next.missed i c x n m ps b qs h q l lo up e co hi sn st) w o =
    turned_lagging z s c _ _ s.p h (λ b. tt) (rw e (omega arith)) tt o
lagging_kept z honest y s t (Next.matched i c x n m ps b qs h q l lo up e co sn st eb few) w o =
    turned_lagging z s c _ _ s.p h (λ b. tt) (rw e (omega arith)) tt o
lagging_kept z honest y s t (Next.ended i c x n m ps b qs h q l e co) w o = turned_lagging z s c Turn.idle _ s.p h (λ b. tt) (rw e (omega arith)) tt o
