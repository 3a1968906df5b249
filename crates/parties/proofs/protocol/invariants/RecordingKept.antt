-- Operations tell what happened: every step keeps `Recording`.
use mathlib.Core.Path.{◌≡◌, refl, sym, ◌∙◌, ap}
use mathlib.Core.Bool.{Bool, true}
use mathlib.Core.Logic.{◌⊎◌, inl, inr}
use mathlib.Core.List.{List, []}
use mathlib.Core.Option.{Option, some, none}
use Prim.Native.Nat.{ℕ, ◌+◌, ◌<◌}
use native.Mathlib.Omega.{arith}
use borrow.Author.Tests.{eq-eqb, ne_eqb}
use lib.ListN.{replicate}
use Rattle.coding.proofs.PageLaws.{none≢some}
use Rattle.parties.specs.declared.Measures.{Measures}
use Rattle.parties.specs.declared.Version.{Version}
use Rattle.parties.specs.protocol.Nodes.{with_node}
use Rattle.parties.specs.protocol.Pointer.{Pointer, none_pointer}
use Rattle.parties.specs.protocol.Run.{History, Operation, Put, begin, upd, bearing, ending, giving}
use Rattle.parties.proofs.protocol.model.Cells.{by_eq}
use Rattle.parties.proofs.protocol.formats.MeasureLaws.{Passed}
use Rattle.parties.proofs.protocol.model.Model.{num, ver, Rows, Turn, Clients, Shown, Nodes, Past, Model, Marks, Quiet, Marked, Picks, Above, Next}
use Rattle.parties.proofs.protocol.model.Model.{turned, raised_by, frozen_by, published, drawn_by, pointed_by, begun_by, pointed, choosing}
use Rattle.parties.specs.protocol.Claim.{Member}
use Rattle.parties.proofs.protocol.invariants.Invariants.{Known, Owned, Drawing}
use Rattle.parties.proofs.protocol.invariants.Chronicle.{Current, Doing, Busy, Listed, ShownPointer, Deposited, Recording, Putting}
use Rattle.parties.proofs.protocol.model.MemberLaws.{member_left}
use Rattle.parties.proofs.protocol.model.PastLaws.{pointed_version, known_offer, draw-fresh}
use Rattle.parties.proofs.protocol.model.Growth.{Grown, grown_same, grown_drawn, grown_pointed}
use Rattle.parties.proofs.protocol.model.HistoryLaws.{after, marks_after, marked_at, begun-last}
use Rattle.parties.proofs.protocol.invariants.RecordingLaws.{Fair, fair_of, fair_later, doing_later, drew, recorded}
use Rattle.parties.proofs.protocol.model.MarkLaws.{Marking, unborne, marked_others, marked_current, fair_ending, drawn_bearing, deposited-bearing, fair_bearing}
use Rattle.parties.proofs.protocol.model.MarkLaws.{picked_shown, picked_pointing, fair_pointing, fair_giving, begun_current, begun_others, begun_fair}
use Rattle.parties.proofs.protocol.invariants.PuttingKept.{picked_listed}

-- ---- no operation is marked

module _ (z : Measures) (s : Model) (r : Recording z s) where
  still : (k : Clients) (d : Shown) (n : Nodes) (p : Past) (h : History) (puts : List Put) → Marks s.h h s.h.operation puts
      → ((x : Pointer) → Listed s.h x → (o : ℕ) × Member (record { pointer = x; operation = o }) puts)
      → Grown s.p p → ((v : ℕ) → p.drawn v ≡ true → s.p.drawn v ≡ true)
      → ((j : ℕ) → j < z.m → Doing s.h s.p j (k.turn j)) → ((j : ℕ) → Busy (s.c.turn j) → Busy (k.turn j))
      → Recording z (record { c = k; d = d; n = n; p = p; h = h })
  still k d n p h puts q more g old doing busy =
      let h' : History = after s.h s.h.operation puts h.replied in
      rw (marks_after s.h h s.h.operation puts q)
      (recorded z s (record { c = k; d = d; n = n; p = p; h = h' })
      (record { past = g; begun = omega arith; page = λ o l. refl; version = λ o v l e. e; listed = more }) r
      (λ j l. doing_later s.h h' s.p p j g (λ a. record { begun = omega arith; latest = refl; operation = refl }) (drew z s r j) (k.turn j) (doing j l))
      (λ o l e. let b = r.busy o l e in (b.0, b.1, busy (s.h.operation o).client b.2))
      (λ v d. inl (old v d))
      (λ o l. inl (record { begun = l; operation = refl })))

  quiet : (n : Nodes) (h : History) → Quiet s.h h → Recording z (record { c = s.c; d = s.d; n = n; p = s.p; h = h })
  quiet n h q = still s.c s.d n s.p h s.h.puts q (λ x i. i) (grown_same s.p s.p.shown) (λ v e. e) r.doing (λ j b. b)

  -- one client's turn changes
  module _ (c : ℕ) (u : Turn) where
    turned_doing : Doing s.h s.p c u → (j : ℕ) → j < z.m → Doing s.h s.p j (upd s.c.turn c u j)
    turned_doing a j l = by_eq j c (λ f e. rw (f, e) a) (λ f e. rw f (r.doing j l))

    turned_busy : Busy u → (j : ℕ) → Busy (s.c.turn j) → Busy (upd s.c.turn c u j)
    turned_busy a j b = by_eq j c (λ f e. rw f a) (λ f e. rw f b)

    turns : (n : Nodes) (h : History) → Quiet s.h h → Doing s.h s.p c u → Busy u
        → Recording z (record { c = turned s.c c u; d = s.d; n = n; p = s.p; h = h })
    turns n h q a b =
        still (turned s.c c u) s.d n s.p h s.h.puts q (λ x i. i) (grown_same s.p s.p.shown) (λ v e. e) (turned_doing a) (turned_busy b)

-- ---- the last operation of client c is a now, and its turn is u

module _ (z : Measures) (s : Model) (r : Recording z s) (c : ℕ) (a : Operation) (l : c < z.m) (cu : Current s.h c)
    (ma : Marking (s.h.operation (s.h.latest c)) a) (u : Turn) (k : Clients) (turn : (j : ℕ) → k.turn j ≡ upd s.c.turn c u j) where
  -- another open operation is another client's
  marked_busy : (a.ended ≡ none → Busy u) → (o : ℕ) → o < s.h.begun → (upd s.h.operation (s.h.latest c) a o).ended ≡ none
      → ((upd s.h.operation (s.h.latest c) a o).client < z.m) × (s.h.latest (upd s.h.operation (s.h.latest c) a o).client ≡ o)
      × Busy (k.turn (upd s.h.operation (s.h.latest c) a o).client)
  marked_busy bu o i e = by_eq o (s.h.latest c)
      (λ f g. rw (f, ma.client ∙ cu.client) (l, sym g, rw (turn c, eq-eqb c c refl) (bu (rw f at e))))
      (λ f g.
      let b = r.busy o i (rw f at e) in
      let y = ne_eqb (s.h.operation o).client c (λ y. g (sym b.1 ∙ ap s.h.latest y)) in
      rw f (b.0, b.1, rw (turn (s.h.operation o).client, y) b.2))

  marked : (d : Shown) (n : Nodes) (p : Past) (h : History) → Marks s.h h (upd s.h.operation (s.h.latest c) a) s.h.puts
      → Grown s.p p → (a.ended ≡ none → Busy u) → Doing (marked_at s.h c a h.replied) p c u
      → ((v : ℕ) → p.drawn v ≡ true → (s.p.drawn v ≡ true) ⊎ Deposited (marked_at s.h c a h.replied) p v)
      → Fair s.h p (s.h.latest c) a
      → Recording z (record { c = k; d = d; n = n; p = p; h = h })
  marked d n p h q g bu doing drawn fair =
      let h' : History = marked_at s.h c a h.replied in
      rw (marks_after s.h h (upd s.h.operation (s.h.latest c) a) s.h.puts q)
      (recorded z s (record { c = k; d = d; n = n; p = p; h = h' })
      (record {
        past = g;
        begun = omega arith;
        page = λ o i. by_eq o (s.h.latest c) (λ f e. rw (f, e) ma.page) (λ f e. rw f refl);
        version = λ o v i y. by_eq o (s.h.latest c) (λ f e. rw f (ma.version v (rw e at y))) (λ f e. rw f y);
        listed = λ x i. i;
      }) r
      (λ j i. by_eq j c (λ f e. rw (turn j, f, e) doing)
      (λ f e. rw (turn j, f)
      (doing_later s.h h' s.p p j g (marked_others s.h c a cu h.replied j e) (drew z s r j) (s.c.turn j) (r.doing j i))))
      (marked_busy bu)
      drawn
      (λ o i. by_eq o (s.h.latest c)
      (λ f e. inr (rw (f, e) (fair_later s.h h' p p (grown_same p p.shown) (λ x i. i) (s.h.latest c) a fair)))
      (λ f e. inl (record { begun = i; operation = rw f refl }))))

-- ---- client c begins an operation, and its turn is u

module _ (z : Measures) (s : Model) (r : Recording z s) (c : ℕ) (page : Option (List ℕ)) (l : c < z.m) (idle : s.c.turn c ≡ Turn.idle)
    (u : Turn) (k : Clients) (turn : (j : ℕ) → k.turn j ≡ upd s.c.turn c u j) where
  -- no open operation was this client's
  begun_busy : Busy u → (o : ℕ) → o < s.h.begun + 1 → ((begin c page s.h).operation o).ended ≡ none
      → (((begin c page s.h).operation o).client < z.m) × ((begin c page s.h).latest ((begin c page s.h).operation o).client ≡ o)
      × Busy (k.turn ((begin c page s.h).operation o).client)
  begun_busy bu o i e = by_eq o s.h.begun
      (λ f g. rw f (rw (eq-eqb c c refl) (l, sym g, rw (turn c, eq-eqb c c refl) bu)))
      (λ f g.
      let b = r.busy o (omega arith) (rw f at e) in
      let y = ne_eqb (s.h.operation o).client c (λ y. let w : Busy (s.c.turn c) = rw y at b.2 in rw idle at w) in
      rw f (rw y (b.0, b.1, rw (turn (s.h.operation o).client, y) b.2)))

  begins : (w : ℕ → ℕ) (h : History) → h ≡ begin c page s.h → Busy u → Doing (begin c page s.h) (begun_by s.p s.h.begun w) c u
      → Recording z (record { c = k; d = s.d; n = s.n; p = begun_by s.p s.h.begun w; h = h })
  begins w h q bu doing =
      let h' : History = begin c page s.h in
      let p : Past = begun_by s.p s.h.begun w in
      let g : Grown s.p p = grown_same s.p p.shown in
      rw q
      (recorded z s (record { c = k; d = s.d; n = s.n; p = p; h = h' })
      (record {
        past = g;
        begun = omega arith;
        page = λ o i. rw (ne_eqb o s.h.begun (λ y. omega arith)) refl;
        version = λ o v i y. rw (ne_eqb o s.h.begun (λ y. omega arith)) y;
        listed = λ x i. i;
      }) r
      (λ j i. by_eq j c (λ f e. rw (turn j, f, e) doing)
      (λ f e. rw (turn j, f) (doing_later s.h h' s.p p j g (begun_others s.h c page j f) (drew z s r j) (s.c.turn j) (r.doing j i))))
      (begun_busy bu)
      (λ v i. inl i)
      (λ o i. by_eq o s.h.begun
      (λ f e. inr (rw f (fair_later s.h h' p p (grown_same p p.shown) (λ x i. i) o _ (begun_fair s.h c page p o))))
      (λ f e. inl (record { begun = omega arith; operation = rw f refl }))))

-- ---- events that mark

module _ (z : Measures) (s : Model) (r : Recording z s) (c : ℕ) (l : c < z.m) where
  -- what the last operation of client c told before
  told : Current s.h c → Fair s.h s.p (s.h.latest c) (s.h.operation (s.h.latest c))
  told b = fair_of z s r (s.h.latest c) b.begun

  draws : Passed z → Owned z s → Drawing z s → (bytes : List ℕ) (a : Rows) (v : Version) (n : Nodes) (h : History) → Marked s.h h c (bearing v)
      → s.c.turn c ≡ Turn.scanned bytes a → v.client ≡ c → Above z a v.sequence.0
      → Recording z
      (record { c = turned s.c c (Turn.storing v bytes 0); d = s.d; n = n; p = drawn_by s.p (num v) bytes (s.h.latest c); h = h })
  draws ok ow dr bytes a v n h q e ec ab =
      let o : Operation = s.h.operation (s.h.latest c) in
      let b = rw e at (r.doing c l) in
      let m : Marking o (bearing v o) = record { client = refl; page = refl; version = unborne o (some v) b.1.version } in
      let y : v.client < 8 = omega (arith, ok.clients) in
      marked z s r c (bearing v o) l b.0 m (Turn.storing v bytes 0) (turned s.c c (Turn.storing v bytes 0)) (λ j. refl)
      s.d n (drawn_by s.p (num v) bytes (s.h.latest c)) h q
      (grown_drawn s.p (num v) bytes (s.h.latest c) (draw-fresh z s c bytes a v ok ow dr l e ec ab).1)
      (λ i. tt)
      (marked_current s.h c (bearing v o) b.0 h.replied m b.0.unended b.0.given, drawn_bearing s.h s.p c bytes v b.1 h.replied)
      (λ w i. by_eq w (num v)
      (λ f g. inr (rw g (deposited-bearing s.h s.p c bytes v b.1 h.replied b.0.begun (omega arith)))) (λ f g. inl (rw f at i)))
      (fair_bearing s.h s.p c bytes v b.1 (told b.0) b.0 y)

  fetches : Owned z s → Putting z s → (a : Rows) (x : Pointer) (n : Nodes) (h : History) → Marked s.h h c (choosing x)
      → s.c.turn c ≡ Turn.picked a → Picks z a c (s.c.reading c) x → (ver x ≡ 255 → ⊥)
      → Recording z (record { c = turned s.c c (Turn.fetching x 0 0 (replicate z.n [])); d = s.d; n = n; p = s.p; h = h })
  fetches ow pu a x n h q e pk ne =
      let o : Operation = s.h.operation (s.h.latest c) in
      let u : Turn = Turn.fetching x 0 0 (replicate z.n []) in
      let b = rw e at (r.doing c l) in
      let known : Known s.p pk.row x = rw pk.offered at (known_offer z s.p a (rw e at (ow.own c l)).1 c (s.c.reading c) pk.row pk.within) in
      let m : Marking o (choosing x o) = record { client = refl; page = refl; version = unborne o (some x.version) b.1.version } in
      marked z s r c (choosing x o) l b.0 m u (turned s.c c u) (λ j. refl) s.d n s.p h q (grown_same s.p s.p.shown) (λ i. tt)
      (marked_current s.h c (choosing x o) b.0 h.replied m b.0.unended b.0.given, picked_pointing s.h c x b.1 h.replied)
      (λ v i. inl i)
      (fair_pointing s.h s.p c x b.1 b.0 (picked_shown s.h s.p pk.row x ne known (picked_listed z s pu c a x l e pk ne)))

  -- the operation ends, and was a before its end
  ends : (a : Operation) → Marking (s.h.operation (s.h.latest c)) a → Fair s.h s.p (s.h.latest c) a → Current s.h c
      → (k : Clients) → ((j : ℕ) → k.turn j ≡ upd s.c.turn c Turn.idle j) → (n : Nodes) (h : History)
      → Marks s.h h (upd s.h.operation (s.h.latest c) (ending s.h.time a)) s.h.puts
      → Recording z (record { c = k; d = s.d; n = n; p = s.p; h = h })
  ends a m f b k turn n h q =
      marked z s r c (ending s.h.time a) l b (record { client = m.client; page = m.page; version = m.version }) Turn.idle k turn
      s.d n s.p h q (grown_same s.p s.p.shown) (λ i. none≢some (sym i)) tt (λ v i. inl i)
      (fair_ending s.h s.p (s.h.latest c) s.h.time a f)

  -- it tells no more than before
  closes : Current s.h c → (k : Clients) → ((j : ℕ) → k.turn j ≡ upd s.c.turn c Turn.idle j) → (n : Nodes) (h : History)
      → Marked s.h h c (ending s.h.time) → Recording z (record { c = k; d = s.d; n = n; p = s.p; h = h })
  closes b = ends (s.h.operation (s.h.latest c)) (record { client = refl; page = refl; version = λ v i. i }) (told b) b

  -- its reading found nothing put in
  empties : (a : Rows) (h : History) → Marked s.h h c (λ o. ending s.h.time (choosing none_pointer o)) → s.c.turn c ≡ Turn.picked a
      → Recording z (record { c = turned s.c c Turn.idle; d = s.d; n = s.n; p = s.p; h = h })
  empties a h q e =
      let o : Operation = s.h.operation (s.h.latest c) in
      let b = rw e at (r.doing c l) in
      ends (choosing none_pointer o) (record { client = refl; page = refl; version = unborne o (some none_pointer.version) b.1.version })
      (fair_pointing s.h s.p c none_pointer b.1 b.0 (ShownPointer.absent refl)) b.0 (turned s.c c Turn.idle) (λ j. refl) s.n h q

  -- its reading gives a page
  gives : Owned z s → (x : Pointer) (i m : ℕ) (ps : List (List ℕ)) (n : Nodes) (h : History)
      → Marked s.h h c (λ o. ending s.h.time (giving (s.p.pages (ver x)) o)) → s.c.turn c ≡ Turn.fetching x i m ps
      → Recording z (record { c = turned s.c c Turn.idle; d = s.d; n = n; p = s.p; h = h })
  gives ow x i m ps n h q e =
      let b = rw e at (r.doing c l) in
      ends (giving (s.p.pages (ver x)) (s.h.operation (s.h.latest c))) (record { client = refl; page = refl; version = λ v i. i })
      (fair_giving s.h s.p c x b.1 (rw e at (ow.own c l)).3 (told b.0)) b.0 (turned s.c c Turn.idle) (λ j. refl) n h q

-- ---- every event

pub recording_kept : (z : Measures) (honest : ℕ → Bool) → Passed z → (s t : Model) → Next z honest s t → Owned z s → Drawing z s → Putting z s → Recording z s
    → Recording z t
recording_kept z honest ok s t (Next.refused h q) ow dr pu r = quiet z s r s.n h q
recording_kept z honest ok s t (Next.deposit c b h q l e bb n) ow dr pu r =
    let y = begun-last s.h c (some b) in
    begins z s r c (some b) l e (Turn.scanning b) (turned s.c c (Turn.scanning b)) (λ j. refl) _ h q tt
    (begun_current s.h c (some b), record { page = ap (λ o. o.page) y; version = ap (λ o. o.version) y })
recording_kept z honest ok s t (Next.reading c h q l e) ow dr pu r =
    let y = begun-last s.h c none in
    begins z s r c none l e Turn.raising (raised_by s.c c) (λ j. refl) _ h q tt
    (begun_current s.h c none, record { page = ap (λ o. o.page) y; version = ap (λ o. o.version) y })
recording_kept z honest ok s t (Next.publish c x h q l e) ow dr pu r =
    still z s r (turned s.c c (Turn.updated x)) (published s c) s.n s.p h _ q (λ y i. (i.0, member_left _ _ _ i.1))
    (grown_same s.p s.p.shown) (λ v d. d) (turned_doing z s r c (Turn.updated x) (rw e at (r.doing c l))) (turned_busy z s r c (Turn.updated x) tt)
recording_kept z honest ok s t (Next.raise c h q l e) ow dr pu r = turns z s r c Turn.raised s.n h q (rw e at (r.doing c l)) tt
recording_kept z honest ok s t (Next.scan-first c b h q l e) ow dr pu r = turns z s r c (Turn.scanned b _) s.n h q (rw e at (r.doing c l)) tt
recording_kept z honest ok s t (Next.scan_second c x h q l e) ow dr pu r = turns z s r c (Turn.noticing x _) s.n h q (rw e at (r.doing c l)) tt
recording_kept z honest ok s t (Next.scan-reading c h q l e) ow dr pu r = turns z s r c (Turn.picked _) s.n h q (rw e at (r.doing c l)) tt
recording_kept z honest ok s t (Next.acknowledged c x h q l e) ow dr pu r = turns z s r c (Turn.freezing x) s.n h q (rw e at (r.doing c l)) tt
recording_kept z honest ok s t (Next.known c h q l e) ow dr pu r = turns z s r c Turn.picking s.n h q (rw e at (r.doing c l)) tt
recording_kept z honest ok s t (Next.draw c b a v h q l e ec es ab) ow dr pu r = draws z s r c l ok ow dr b a v _ h q e ec ab
recording_kept z honest ok s t (Next.spent c b a h q l e) ow dr pu r =
    closes z s r c l (rw e at (r.doing c l)).0 (turned s.c c Turn.idle) (λ j. refl) s.n h q
recording_kept z honest ok s t (Next.freeze c x a fl h q l e fr) ow dr pu r =
    closes z s r c l (rw e at (r.doing c l)).0 (frozen_by s.c c x a) (λ j. refl) _ h q
recording_kept z honest ok s t (Next.empty c a h q l e pk) ow dr pu r = empties z s r c l a h q e
recording_kept z honest ok s t (Next.fetch c a x h q l e pk ne) ow dr pu r = fetches z s r c l ow pu a x _ h q e pk ne
recording_kept z honest ok s t (Next.store c i v x rest h q hi lo up l e) ow dr pu r = quiet z s r _ h q
recording_kept z honest ok s t (Next.request c i v rest h q hi lo up l e) ow dr pu r = quiet z s r _ h q
recording_kept z honest ok s t (Next.free c i fl rest h q hi lo up l e) ow dr pu r = quiet z s r _ h q
recording_kept z honest ok s t (Next.passed i c m qs h q co) ow dr pu r = quiet z s r _ h q
recording_kept z honest ok s t (Next.added i c v b a qs h q l lo up e co st few) ow dr pu r =
    turns z s r c (Turn.storing v b _) _ h q (rw e at (r.doing c l)) tt
recording_kept z honest ok s t (Next.formed i c v b a qs h q l lo up e co st en) ow dr pu r =
    let x : Pointer = pointed z v b (with_node a i) in
    still z s r (turned s.c c (Turn.updating x)) s.d _ (pointed_by s.p (num v) x) h s.h.puts q (λ y i. i)
    (grown_pointed s.p (num v) x (rw e at (ow.own c l)).pointer) (λ v d. d)
    (turned_doing z s r c (Turn.updating x) (rw (pointed_version z v b (with_node a i)) (rw e at (r.doing c l)))) (turned_busy z s r c (Turn.updating x) tt)
recording_kept z honest ok s t (Next.missed i c x n m ps y qs h q l lo up e co hi sn st) ow dr pu r =
    turns z s r c (Turn.fetching x _ m ps) _ h q (rw e at (r.doing c l)) tt
recording_kept z honest ok s t (Next.matched i c x n m ps b qs h q l lo up e co sn st eb few) ow dr pu r =
    turns z s r c (Turn.fetching x _ _ _) _ h q (rw e at (r.doing c l)) tt
recording_kept z honest ok s t (Next.ended i c x n m ps y qs h q l e co) ow dr pu r = gives z s r c l ow x n m ps _ h q e
