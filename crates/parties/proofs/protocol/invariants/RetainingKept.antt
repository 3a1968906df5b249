-- What open readings may ask for is retained by its writers: every step keeps `Retaining`.
use mathlib.Core.Path.{◌≡◌, refl, sym, ◌∙◌, ap, subst}
use mathlib.Core.Bool.{Bool, true, false}
use mathlib.Core.List.{List}
use Prim.Native.Nat.{ℕ, ◌≤◌, ◌<◌}
use native.Mathlib.Omega.{arith}
use native.Mathlib.Decide.{dec_lt}
use borrow.Author.Tests.{ltb-true, ltb-false, lt-ltb, le-ltb, eq-eqb, ne_eqb}
use lib.Dec.{eqb, ltb}
use Rattle.parties.specs.declared.Measures.{Measures}
use Rattle.parties.specs.declared.Version.{Version}
use Rattle.parties.specs.protocol.Pointer.{Pointer}
use Rattle.parties.proofs.protocol.model.Cells.{by_eq}
use Rattle.parties.proofs.protocol.model.PastLaws.{known_offer}
use Rattle.parties.proofs.protocol.formats.MeasureLaws.{Passed}
use Rattle.parties.proofs.protocol.model.Model.{ver, Turn, Rows, Clients, Past, Model, Next, Picks, put_by, shown_written}
use Rattle.parties.proofs.protocol.model.Model.{raised_to, shown_reading, offer, rows_of, notices, turned, frozen_by}
use Rattle.parties.proofs.protocol.invariants.Invariants.{Known, Own, Owned, Unput, Lag, Lagging, PutIn, NoticingShows, Safe, Retained, Retaining, Depositing, Keeps}
use Rattle.parties.proofs.protocol.invariants.LaggingKept.{moved}

-- ---- of a turn

-- what is put in is the deposit's
put_current : (t : Turn) (v : Version) → PutIn t v → Depositing t v
put_current Turn.idle v p = p
put_current (Turn.scanning bytes) v p = p
put_current (Turn.scanned bytes a) v p = p
put_current (Turn.storing u bytes a) v p = absurd p
put_current (Turn.updating x) v p = absurd p
put_current (Turn.updated x) v p = p
put_current (Turn.freezing x) v p = p
put_current (Turn.noticing x a) v p = p
put_current Turn.raising v p = p
put_current Turn.raised v p = p
put_current Turn.picking v p = p
put_current (Turn.picked a) v p = p
put_current (Turn.fetching x n m ps) v p = p

-- a row's written pointer is one that is put in, or its client's
data Written (t : Turn) (x : Pointer) : Type 0 where
  put : (Unput t → ⊥) → PutIn t (put_by t x).version → Written t x
  own : put_by t x ≡ x → ((c r : ℕ) → NoticingShows t c r) → Written t x

written_is : (t : Turn) (x : Pointer) → Written t x
written_is Turn.idle x = Written.own refl (λ c r. tt)
written_is (Turn.scanning bytes) x = Written.own refl (λ c r. tt)
written_is (Turn.scanned bytes a) x = Written.own refl (λ c r. tt)
written_is (Turn.storing u bytes a) x = Written.own refl (λ c r. tt)
written_is (Turn.updating y) x = Written.own refl (λ c r. tt)
written_is (Turn.updated y) x = Written.put (λ b. b) refl
written_is (Turn.freezing y) x = Written.put (λ b. b) refl
written_is (Turn.noticing y a) x = Written.put (λ b. b) refl
written_is Turn.raising x = Written.own refl (λ c r. tt)
written_is Turn.raised x = Written.own refl (λ c r. tt)
written_is Turn.picking x = Written.own refl (λ c r. tt)
written_is (Turn.picked a) x = Written.own refl (λ c r. tt)
written_is (Turn.fetching y n m ps) x = Written.own refl (λ c r. tt)

unput_written : (t : Turn) (x : Pointer) → Unput t → put_by t x ≡ x
unput_written t x b = go (written_is t x)
  where
    go : Written t x → put_by t x ≡ x
    go (Written.put n p) = absurd (n b)
    go (Written.own e a) = e

-- ---- what is retained

pub safe_keeps : (z : Measures) (k : Clients) (w c r : ℕ) (v : Version) → c < z.m → Safe k w c r v → Keeps z k w v
safe_keeps z k w c r v l (Safe.frozen i f) = Keeps.frozen c l f
safe_keeps z k w c r v l (Safe.reserved i f) = Keeps.reserved c l f
safe_keeps z k w c r v l (Safe.put i p) = Keeps.current (put_current (k.turn w) v p)
safe_keeps z k w c r v l (Safe.written i e p) = Keeps.written e

-- ---- one client's turn changes

abbrev AllRetained : Measures → Clients → Type 0
AllRetained z k = (c : ℕ) → c < z.m → Retained z k c (k.turn c)

-- what it has put in stays put in, and rows that are under way to it show the reader's index
safe_moved : (k : Clients) (d : ℕ) (u : Turn) (f : ℕ → ℕ) (w c r : ℕ) (v : Version) → (PutIn (k.turn d) v → PutIn u v) → NoticingShows u c r
    → Safe k w c r v → Safe (moved k d u f) w c r v
safe_moved k d u f w c r v p a (Safe.frozen i e) = Safe.frozen i e
safe_moved k d u f w c r v p a (Safe.reserved i e) = Safe.reserved i e
safe_moved k d u f w c r v p a (Safe.put i e) = Safe.put i (by_eq w d (λ f g. rw f (p (rw g at e))) (λ f g. rw f e))
safe_moved k d u f w c r v p a (Safe.written i e b) = Safe.written i e (by_eq w d (λ f g. rw f a) (λ f g. rw f b))

-- the row of a reader whose pointers are retained shows its index
retained-over : (z : Measures) (k n : Clients) (c : ℕ) (t : Turn) → n.reading c ≡ k.reading c
    → (raised_to t (k.reading c) ≡ k.reading c → (w : ℕ) (v : Version) → Safe k w c (k.reading c) v → Safe n w c (k.reading c) v)
    → Retained z k c t → Retained z n c t
retained-over z k n c Turn.idle e f o = tt
retained-over z k n c (Turn.scanning bytes) e f o = tt
retained-over z k n c (Turn.scanned bytes a) e f o = tt
retained-over z k n c (Turn.storing u bytes a) e f o = tt
retained-over z k n c (Turn.updating x) e f o = tt
retained-over z k n c (Turn.updated x) e f o = tt
retained-over z k n c (Turn.freezing x) e f o = tt
retained-over z k n c (Turn.noticing x a) e f o = tt
retained-over z k n c Turn.raising e f o = tt
retained-over z k n c Turn.raised e f o = tt
retained-over z k n c Turn.picking e f o = tt
retained-over z k n c (Turn.picked a) e f o = λ w l. rw e (f refl w _ (o w l))
retained-over z k n c (Turn.fetching x i m ps) e f o = rw e (f refl x.version.client _ o)

moved_retaining : (z : Measures) (k : Clients) (d : ℕ) (u : Turn) (f : ℕ → ℕ) → ((c : ℕ) → (c ≡ d → ⊥) → f c ≡ k.reading c)
    → ((v : Version) → PutIn (k.turn d) v → PutIn u v) → ((c : ℕ) → shown_reading k c ≡ k.reading c → NoticingShows u c (k.reading c))
    → Retained z (moved k d u f) d u → AllRetained z k → AllRetained z (moved k d u f)
moved_retaining z k d u f m p a n o c l =
    by_eq c d (λ b g. rw b (rw g n))
    (λ b g. rw b (retained-over z k (moved k d u f) c (k.turn c) (m c g) (λ i w v. safe_moved k d u f w c (k.reading c) v (p v) (a c i)) (o c l)))

turned_retaining : (z : Measures) (k : Clients) (d : ℕ) (u : Turn)
    → ((v : Version) → PutIn (k.turn d) v → PutIn u v) → ((c : ℕ) → shown_reading k c ≡ k.reading c → NoticingShows u c (k.reading c))
    → Retained z (turned k d u) d u → AllRetained z k → AllRetained z (turned k d u)
turned_retaining z k d u = moved_retaining z k d u k.reading (λ c g. refl)

-- ---- a reading's scan: what each row offers is retained

shown_safe : (k : Clients) (w c r : ℕ) → k.indices w c < r → Safe k w c r (shown_written k w).version
shown_safe k w c r i = go (written_is (k.turn w) (k.written w))
  where
    go : Written (k.turn w) (k.written w) → Safe k w c r (shown_written k w).version
    go (Written.put n p) = Safe.put i p
    go (Written.own e a) = Safe.written i (ap (λ x. x.version) (sym e)) (a c r)

offer_safe : (s : Model) (w c r : ℕ) → s.c.indices w c ≤ r → Lag s w c → Safe s.c w c r (offer (rows_of s) c r w).version
offer_safe s w c r i (Lag.level j e) = go (ltb (s.d.indices w c) r) refl
  where
    go : (b : Bool) → ltb (s.d.indices w c) r ≡ b → Safe s.c w c r (offer (rows_of s) c r w).version
    go true f = rw f (shown_safe s.c w c r (omega (arith, ltb-true (s.d.indices w c) r f)))
    go false f = rw f (Safe.frozen (omega (arith, ltb-false (s.d.indices w c) r f)) (ap (λ x. x.version) (sym e)))
offer_safe s w c r i (Lag.behind b j e) = rw (lt-ltb (s.d.indices w c) r (omega arith)) (go (dec_lt (s.c.indices w c) r))
  where
    go : Dec (s.c.indices w c < r) → Safe s.c w c r (shown_written s.c w).version
    go (yes l) = shown_safe s.c w c r l
    go (no l) = Safe.frozen (omega arith) (ap (λ x. x.version) (e ∙ sym (unput_written (s.c.turn w) (s.c.written w) b)))

-- ---- a reading's choice: a pointer other than none is of the row that offers it

picked_row : (p : Past) (w : ℕ) (x : Pointer) → (ver x ≡ 255 → ⊥) → Known p w x → x.version.client ≡ w
picked_row p w x n (Known.absent e) = absurd (n (ap ver e))
picked_row p w x n (Known.formed d q e l) = e

picked_safe : (z : Measures) (s : Model) (c : ℕ) (a : Rows) (x : Pointer) → Picks z a c (s.c.reading c) x → (ver x ≡ 255 → ⊥)
    → Own z s.p s.c c (Turn.picked a) → Retained z s.c c (Turn.picked a) → Safe s.c x.version.client c (s.c.reading c) x.version
picked_safe z s c a x k n w o =
    let row = picked_row s.p k.row x n (rw k.offered at (known_offer z s.p a w.1 c (s.c.reading c) k.row k.within)) in
    subst (λ j. Safe s.c j c (s.c.reading c) x.version) (sym row) (rw k.offered at (o k.row k.within))

fetching_retaining : (z : Measures) (k : Clients) (c : ℕ) (x : Pointer) (n m : ℕ) (ps : List (List ℕ)) → ((v : Version) → PutIn (k.turn c) v → ⊥)
    → Safe k x.version.client c (k.reading c) x.version → AllRetained z k → AllRetained z (turned k c (Turn.fetching x n m ps))
fetching_retaining z k c x n m ps p a =
    turned_retaining z k c (Turn.fetching x n m ps) p (λ j i. tt)
    (safe_moved k c (Turn.fetching x n m ps) k.reading x.version.client c (k.reading c) x.version (p x.version) tt a)

-- ---- a deposit's end

module _ (z : Measures) (k : Clients) (d : ℕ) (x : Pointer) (a : Rows) (e : k.turn d ≡ Turn.noticing x a) where
  -- for a reader whose index is not below what the rows show of it
  freeze_own : (c r : ℕ) (v : Version) → (c ≡ d → ⊥) → a.reading c ≤ r → Safe k d c r v → Safe (frozen_by k d x a) d c r v
  freeze_own c r v ne m o = go o
    where
      same : eqb d d ≡ true
      same = eq-eqb d d refl

      noticed : k.indices d c < a.reading c → notices k a d c ≡ true
      noticed l = simp (ne_eqb c d ne, lt-ltb (k.indices d c) (a.reading c) l)

      unnoticed : a.reading c ≤ k.indices d c → notices k a d c ≡ false
      unnoticed l = simp (ne_eqb c d ne, le-ltb (k.indices d c) (a.reading c) l)

      put_in : k.indices d c < r → x.version ≡ v → Dec (k.indices d c < a.reading c) → Dec (a.reading c < r) → Safe (frozen_by k d x a) d c r v
      put_in i p (yes l) (yes j) = Safe.written (rw (same, noticed l) j) (rw same p) (rw same tt)
      put_in i p (yes l) (no j) = Safe.frozen (rw (same, noticed l) (omega arith)) (rw (same, noticed l) p)
      put_in i p (no l) j = Safe.written (rw (same, unnoticed (omega arith)) i) (rw same p) (rw same tt)

      go : Safe k d c r v → Safe (frozen_by k d x a) d c r v
      go (Safe.frozen i f) = let n = unnoticed (omega arith) in Safe.frozen (rw (same, n) i) (rw (same, n) f)
      go (Safe.reserved i f) = let n = unnoticed (omega arith) in Safe.reserved (rw (same, n) i) (rw (same, n) f)
      go (Safe.put i p) = put_in i (rw e at p) (dec_lt (k.indices d c) (a.reading c)) (dec_lt (a.reading c) r)
      go (Safe.written i f b) =
          let j : r ≤ a.reading c = rw e at b in
          let n = noticed (omega arith) in
          Safe.reserved (rw (same, n) (omega arith)) (rw (same, n) f)

  freeze-other : (w c r : ℕ) (v : Version) → eqb w d ≡ false → Safe k w c r v → Safe (frozen_by k d x a) w c r v
  freeze-other w c r v f (Safe.frozen i g) = Safe.frozen (rw f i) (rw f g)
  freeze-other w c r v f (Safe.reserved i g) = Safe.reserved (rw f i) (rw f g)
  freeze-other w c r v f (Safe.put i p) = Safe.put (rw f i) (rw f p)
  freeze-other w c r v f (Safe.written i g b) = Safe.written (rw f i) (rw f g) (rw f b)

  freeze_safe : (w c r : ℕ) (v : Version) → (c ≡ d → ⊥) → a.reading c ≤ r → Safe k w c r v → Safe (frozen_by k d x a) w c r v
  freeze_safe w c r v ne m o = by_eq w d (λ f g. rw g (freeze_own c r v ne m (rw g at o))) (λ f g. freeze-other w c r v f o)

  freeze_retaining : ((c : ℕ) → c < z.m → a.reading c ≤ shown_reading k c) → AllRetained z k → AllRetained z (frozen_by k d x a)
  freeze_retaining m o c l =
      by_eq c d (λ f g. rw f tt)
      (λ f g. rw f (retained-over z k (frozen_by k d x a) c (k.turn c) refl
      (λ i w v. freeze_safe w c (k.reading c) v g (omega (arith, m c l, i))) (o c l)))

-- ---- every step

pub retaining_kept : (z : Measures) (honest : ℕ → Bool) → Passed z → (s t : Model) → Next z honest s t
    → Owned z s → Lagging z s → Retaining z s → Retaining z t
retaining_kept z honest y s t (Next.refused h q) w g o = o
retaining_kept z honest y s t (Next.deposit c bytes h q l e bb n) w g o = turned_retaining z s.c c (Turn.scanning bytes) (λ v p. rw e at p) (λ j i. tt) tt o
retaining_kept z honest y s t (Next.reading c h q l e) w g o =
    moved_retaining z s.c c Turn.raising _ (λ j n. rw (ne_eqb j c n) refl) (λ v p. rw e at p) (λ j i. tt) tt o
retaining_kept z honest y s t (Next.publish c x h q l e) w g o = turned_retaining z s.c c (Turn.updated x) (λ v p. absurd (rw e at p)) (λ j i. tt) tt o
retaining_kept z honest y s t (Next.raise c h q l e) w g o = turned_retaining z s.c c Turn.raised (λ v p. rw e at p) (λ j i. tt) tt o
retaining_kept z honest y s t (Next.scan-first c bytes h q l e) w g o = turned_retaining z s.c c _ (λ v p. rw e at p) (λ j i. tt) tt o
-- a reader past its update shows its index
retaining_kept z honest y s t (Next.scan_second c x h q l e) w g o = turned_retaining z s.c c _ (λ v p. rw e at p) (λ j i. omega (arith, i)) tt o
retaining_kept z honest y s t (Next.scan-reading c h q l e) w g o =
    turned_retaining z s.c c (Turn.picked (rows_of s)) (λ v p. rw e at p) (λ j i. tt)
    (λ j k. safe_moved s.c c (Turn.picked (rows_of s)) s.c.reading j c (s.c.reading c) _ (λ p. rw e at p) tt
    (offer_safe s j c (s.c.reading c) (rw e at (g.index j c k l)) (g.lag j c k))) o
retaining_kept z honest y s t (Next.acknowledged c x h q l e) w g o = turned_retaining z s.c c (Turn.freezing x) (λ v p. rw e at p) (λ j i. tt) tt o
retaining_kept z honest y s t (Next.known c h q l e) w g o = turned_retaining z s.c c Turn.picking (λ v p. rw e at p) (λ j i. tt) tt o
retaining_kept z honest y s t (Next.draw c bytes a v h q l e ec es ab) w g o = turned_retaining z s.c c _ (λ v p. rw e at p) (λ j i. tt) tt o
retaining_kept z honest y s t (Next.spent c bytes a h q l e) w g o = turned_retaining z s.c c Turn.idle (λ v p. rw e at p) (λ j i. tt) tt o
retaining_kept z honest y s t (Next.freeze c x a fl h q l e fr) w g o = freeze_retaining z s.c c x a e (rw e at (g.seen c l)) o
retaining_kept z honest y s t (Next.empty c a h q l e pk) w g o = turned_retaining z s.c c Turn.idle (λ v p. rw e at p) (λ j i. tt) tt o
retaining_kept z honest y s t (Next.fetch c a x h q l e pk ne) w g o =
    fetching_retaining z s.c c x _ _ _ (λ v p. rw e at p) (picked_safe z s c a x pk ne (rw e at (w.own c l)) (rw e at (o c l))) o
retaining_kept z honest y s t (Next.store c i v x rest h q hi lo up l e) w g o = o
retaining_kept z honest y s t (Next.request c i v rest h q hi lo up l e) w g o = o
retaining_kept z honest y s t (Next.free c i fl rest h q hi lo up l e) w g o = o
retaining_kept z honest y s t (Next.passed i c m qs h q co) w g o = o
retaining_kept z honest y s t (Next.added i c v bytes a qs h q l lo up e co st few) w g o =
    turned_retaining z s.c c _ (λ v p. rw e at p) (λ j i. tt) tt o
retaining_kept z honest y s t (Next.formed i c v bytes a qs h q l lo up e co st en) w g o =
    turned_retaining z s.c c _ (λ v p. rw e at p) (λ j i. tt) tt o
retaining_kept z honest y s t (Next.missed i c x n m ps b qs h q l lo up e co hi sn st) w g o =
    fetching_retaining z s.c c x _ _ _ (λ v p. rw e at p) (rw e at (o c l)) o
retaining_kept z honest y s t (Next.matched i c x n m ps b qs h q l lo up e co sn st eb few) w g o =
    fetching_retaining z s.c c x _ _ _ (λ v p. rw e at p) (rw e at (o c l)) o
retaining_kept z honest y s t (Next.ended i c x n m ps b qs h q l e co) w g o = turned_retaining z s.c c Turn.idle (λ v p. rw e at p) (λ j i. tt) tt o
