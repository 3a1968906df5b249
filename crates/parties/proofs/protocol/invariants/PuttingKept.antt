-- Pointers that are shown were put in for their versions' deposits: every step keeps `Putting`.
use mathlib.Core.Path.{◌≡◌, refl, ◌∙◌, ap}
use mathlib.Core.Bool.{Bool, false}
use mathlib.Core.Logic.{◌⊎◌, inl, inr}
use mathlib.Core.List.{[], ◌∷◌, ◌++◌}
use Prim.Native.Nat.{ℕ, ◌<◌}
use lib.Dec.{eqb, ltb}
use lib.ListN.{replicate}
use Rattle.parties.specs.declared.Measures.{Measures}
use Rattle.parties.specs.protocol.Nodes.{with_node}
use Rattle.parties.specs.protocol.Pointer.{Pointer}
use Rattle.parties.specs.protocol.Run.{History, Put, upd}
use Rattle.parties.proofs.protocol.model.Cells.{by_eq, chosen}
use Rattle.parties.proofs.protocol.formats.MeasureLaws.{Passed}
use Rattle.parties.proofs.protocol.model.Model.{num, ver, Rows, Turn, Clients, Nodes, Past, Model, Picks, Next, put_by, rows_of, offer}
use Rattle.parties.proofs.protocol.model.Model.{notices, turned, raised_by, frozen_by, published, drawn_by, pointed_by, pointed}
use Rattle.parties.specs.protocol.Claim.{Member}
use Rattle.parties.proofs.protocol.invariants.Invariants.{Owned, Drawing}
use Rattle.parties.proofs.protocol.invariants.Chronicle.{Listed, NoneOrListed, OffersListed, Rightly, Recording, Putting}
use Rattle.parties.proofs.protocol.model.MemberLaws.{member_left, member_last, member_split}
use Rattle.parties.proofs.protocol.model.PastLaws.{formed_kept, draw-fresh}
use Rattle.parties.proofs.protocol.model.Growth.{Grown, grown_same, grown_drawn, grown_pointed}

-- ---- what is put in stays put in

rightly_later : (p p' : Past) → Grown p p' → (x : Put) → Rightly p x → Rightly p' x
rightly_later p p' g x a =
    record {
      drawn = g.later.drawn (ver x.pointer) a.drawn;
      pointer = formed_kept p p' x.pointer g.later a.drawn a.pointer a.proper;
      deposit = g.deposits (ver x.pointer) a.drawn ∙ a.deposit;
      proper = a.proper;
    }

module _ (h h' : History) (more : (x : Pointer) → Listed h x → Listed h' x) where
  none_or_later : (x : Pointer) → NoneOrListed h x → NoneOrListed h' x
  none_or_later x (inl e) = inl e
  none_or_later x (inr i) = inr (more x i)

  offers_later : (z : Measures) (k k' : Clients) (c : ℕ) → k'.reading c ≡ k.reading c → (t : Turn) → OffersListed z h k c t → OffersListed z h' k' c t
  offers_later z k k' c e Turn.idle a = tt
  offers_later z k k' c e (Turn.scanning bytes) a = tt
  offers_later z k k' c e (Turn.scanned bytes b) a = tt
  offers_later z k k' c e (Turn.storing v bytes b) a = tt
  offers_later z k k' c e (Turn.updating x) a = tt
  offers_later z k k' c e (Turn.updated x) a = more x a
  offers_later z k k' c e (Turn.freezing x) a = more x a
  offers_later z k k' c e (Turn.noticing x b) a = more x a
  offers_later z k k' c e Turn.raising a = tt
  offers_later z k k' c e Turn.raised a = tt
  offers_later z k k' c e Turn.picking a = tt
  offers_later z k k' c e (Turn.picked b) a = λ w l. rw e (none_or_later (offer b c (k.reading c) w) (a w l))
  offers_later z k k' c e (Turn.fetching x n m ps) a = more x a

-- ---- what rows show

row_listed : (z : Measures) (h : History) (k : Clients) (c : ℕ) (x : Pointer) (t : Turn) → OffersListed z h k c t → NoneOrListed h x
    → NoneOrListed h (put_by t x)
row_listed z h k c x Turn.idle a b = b
row_listed z h k c x (Turn.scanning bytes) a b = b
row_listed z h k c x (Turn.scanned bytes r) a b = b
row_listed z h k c x (Turn.storing v bytes r) a b = b
row_listed z h k c x (Turn.updating y) a b = b
row_listed z h k c x (Turn.updated y) a b = inr a
row_listed z h k c x (Turn.freezing y) a b = inr a
row_listed z h k c x (Turn.noticing y r) a b = inr a
row_listed z h k c x Turn.raising a b = b
row_listed z h k c x Turn.raised a b = b
row_listed z h k c x Turn.picking a b = b
row_listed z h k c x (Turn.picked r) a b = b
row_listed z h k c x (Turn.fetching y n m ps) a b = b

-- a pointer that is not none is put in
listed_of : (h : History) (x : Pointer) → (ver x ≡ 255 → ⊥) → NoneOrListed h x → Listed h x
listed_of h x ne (inl e) = absurd (ne (ap ver e))
listed_of h x ne (inr i) = i

module _ (z : Measures) (s : Model) (r : Putting z s) where
  offers_listed : (c q w : ℕ) → w < z.m → NoneOrListed s.h (offer (rows_of s) c q w)
  offers_listed c q w l =
      chosen (NoneOrListed s.h) (ltb (s.d.indices w c) q) (put_by (s.c.turn w) (s.c.written w)) (s.d.frozen w c)
      (row_listed z s.h s.c w (s.c.written w) (s.c.turn w) (r.turns w l) (r.written w l)) (r.shown w c l)

  -- what a reader picks is put in, unless it is none
  pub picked_listed : (c : ℕ) (a : Rows) (x : Pointer) → c < z.m → s.c.turn c ≡ Turn.picked a → Picks z a c (s.c.reading c) x → (ver x ≡ 255 → ⊥)
      → Listed s.h x
  picked_listed c a x l e pk ne = listed_of s.h x ne (rw pk.offered at ((rw e at (r.turns c l)) pk.row pk.within))

  -- ---- the history is h now, and what was put in is put in there

  module _ (h : History) (more : (x : Pointer) → Listed s.h x → Listed h x) where
    later : (x : Pointer) → NoneOrListed s.h x → NoneOrListed h x
    later = none_or_later s.h h more

    -- the turn of client c is u
    turns_later : (c : ℕ) (u : Turn) (k : Clients) → ((j : ℕ) → k.turn j ≡ upd s.c.turn c u j)
        → ((j : ℕ) → eqb j c ≡ false → k.reading j ≡ s.c.reading j) → OffersListed z h k c u → (j : ℕ) → j < z.m → OffersListed z h k j (k.turn j)
    turns_later c u k turn same a j l = by_eq j c (λ f e. rw (turn j, f, e) a)
        (λ f e. rw (turn j, f) (offers_later s.h h more z s.c k j (same j f) (s.c.turn j) (r.turns j l)))

    -- clients' written and frozen pointers and what rows show stay
    keeps : (k : Clients) (n : Nodes) (p : Past) → ((x : Put) → Member x h.puts → Rightly p x)
        → ((w : ℕ) → k.written w ≡ s.c.written w) → ((w q : ℕ) → k.frozen w q ≡ s.c.frozen w q)
        → ((j : ℕ) → j < z.m → OffersListed z h k j (k.turn j)) → Putting z (record { c = k; d = s.d; n = n; p = p; h = h })
    keeps k n p a written frozen turns =
        record {
          rightly = a;
          written = λ w l. rw (written w) (later (s.c.written w) (r.written w l));
          frozen = λ w q l. rw (frozen w q) (later (s.c.frozen w q) (r.frozen w q l));
          shown = λ w q l. later (s.d.frozen w q) (r.shown w q l);
          turns = turns;
        }

  -- ---- no pointer is put in

  module _ (h : History) (put : h.puts ≡ s.h.puts) where
    listed_same : (x : Pointer) → Listed s.h x → Listed h x
    listed_same x i = (i.0, rw put i.1)

    rightly_same : (p : Past) → Grown s.p p → (x : Put) → Member x h.puts → Rightly p x
    rightly_same p g x i = rightly_later s.p p g x (r.rightly x (rw put at i))

    same : (x : Put) → Member x h.puts → Rightly s.p x
    same = rightly_same s.p (grown_same s.p s.p.shown)

    quiet : (n : Nodes) → Putting z (record { c = s.c; d = s.d; n = n; p = s.p; h = h })
    quiet n =
        keeps h listed_same s.c n s.p same (λ w. refl) (λ w q. refl)
        (λ j l. offers_later s.h h listed_same z s.c s.c j refl (s.c.turn j) (r.turns j l))

    -- the turn of client c is u, with what past there is
    grows : (c : ℕ) (u : Turn) (n : Nodes) (p : Past) → Grown s.p p → OffersListed z s.h s.c c u
        → Putting z (record { c = turned s.c c u; d = s.d; n = n; p = p; h = h })
    grows c u n p g a =
        keeps h listed_same (turned s.c c u) n p (rightly_same p g) (λ w. refl) (λ w q. refl)
        (turns_later h listed_same c u (turned s.c c u) (λ j. refl) (λ j f. refl)
        (offers_later s.h h listed_same z s.c (turned s.c c u) c refl u a))

    turns : (c : ℕ) (u : Turn) (n : Nodes) → OffersListed z s.h s.c c u → Putting z (record { c = turned s.c c u; d = s.d; n = n; p = s.p; h = h })
    turns c u n a = grows c u n s.p (grown_same s.p s.p.shown) a

    -- a reading begins
    reads : (c : ℕ) (n : Nodes) (p : Past) → Grown s.p p → Putting z (record { c = raised_by s.c c; d = s.d; n = n; p = p; h = h })
    reads c n p g =
        keeps h listed_same (raised_by s.c c) n p (rightly_same p g) (λ w. refl) (λ w q. refl)
        (turns_later h listed_same c Turn.raising (raised_by s.c c) (λ j. refl) (λ j f. rw f refl) tt)

    -- a deposit ends: its pointer is written, and frozen where a reading is noticed
    freezes : (c : ℕ) (x : Pointer) (a : Rows) (n : Nodes) → c < z.m → Listed s.h x
        → Putting z (record { c = frozen_by s.c c x a; d = s.d; n = n; p = s.p; h = h })
    freezes c x a n l i =
        record {
          rightly = same;
          written = λ w k. by_eq w c (λ f e. rw f (inr (listed_same x i))) (λ f e. rw f (later h listed_same (s.c.written w) (r.written w k)));
          frozen = λ w q k. by_eq w c
              (λ f e. rw f
              (chosen (NoneOrListed h) (notices s.c a c q) x (s.c.frozen c q) (inr (listed_same x i))
              (later h listed_same (s.c.frozen c q) (r.frozen c q l))))
              (λ f e. rw f (later h listed_same (s.c.frozen w q) (r.frozen w q k)));
          shown = λ w q k. later h listed_same (s.d.frozen w q) (r.shown w q k);
          turns = turns_later h listed_same c Turn.idle (frozen_by s.c c x a) (λ j. refl) (λ j f. refl) tt;
        }

  -- ---- client c's pointer is put in, and its frozen ones are shown

  publishes : Owned z s → Recording z s → (c : ℕ) (x : Pointer) (n : Nodes) (h : History)
      → h.puts ≡ s.h.puts ++ (record { pointer = x; operation = s.h.latest c } ∷ []) → c < z.m → s.c.turn c ≡ Turn.updating x
      → Putting z (record { c = turned s.c c (Turn.updated x); d = published s c; n = n; p = s.p; h = h })
  publishes ow rec c x n h put l e =
      record {
        rightly = λ y i. split y (member_split y new s.h.puts (rw put at i));
        written = λ w k. later h more (s.c.written w) (r.written w k);
        frozen = λ w q k. later h more (s.c.frozen w q) (r.frozen w q k);
        shown = λ w q k. by_eq w c (λ f g. rw f (later h more (s.c.frozen c q) (r.frozen c q l)))
            (λ f g. rw f (later h more (s.d.frozen w q) (r.shown w q k)));
        turns = turns_later h more c (Turn.updated x) (turned s.c c (Turn.updated x)) (λ j. refl) (λ j f. refl)
            (s.h.latest c, rw put (member_last new s.h.puts));
      }
    where
      new : Put
      new = record { pointer = x; operation = s.h.latest c }

      more : (y : Pointer) → Listed s.h y → Listed h y
      more y i = (i.0, rw put (member_left _ s.h.puts (new ∷ []) i.1))

      split : (y : Put) → Member y s.h.puts ⊎ (y ≡ new) → Rightly s.p y
      split y (inl i) = r.rightly y i
      split y (inr g) =
          let a = rw e at (ow.own c l) in
          let b = rw e at (rec.doing c l) in
          rw g (record { drawn = a.drawn; pointer = a.pointer; deposit = b.1.deposit; proper = a.proper })

-- ---- every event

pub putting_kept : (z : Measures) (honest : ℕ → Bool) → Passed z → (s t : Model) → Next z honest s t → Owned z s → Drawing z s → Recording z s → Putting z s
    → Putting z t
putting_kept z honest ok s t (Next.refused h q) ow dr rc r = quiet z s r h q.put s.n
putting_kept z honest ok s t (Next.deposit c b h q l e bb n) ow dr rc r =
    grows z s r h (ap (λ y. y.puts) q) c (Turn.scanning b) s.n _ (grown_same s.p _) tt
putting_kept z honest ok s t (Next.reading c h q l e) ow dr rc r = reads z s r h (ap (λ y. y.puts) q) c s.n _ (grown_same s.p _)
putting_kept z honest ok s t (Next.publish c x h q l e) ow dr rc r = publishes z s r ow rc c x s.n h q.put l e
putting_kept z honest ok s t (Next.raise c h q l e) ow dr rc r = turns z s r h q.put c Turn.raised s.n tt
putting_kept z honest ok s t (Next.scan-first c b h q l e) ow dr rc r = turns z s r h q.put c (Turn.scanned b _) s.n tt
putting_kept z honest ok s t (Next.scan_second c x h q l e) ow dr rc r = turns z s r h q.put c (Turn.noticing x _) s.n (rw e at (r.turns c l))
putting_kept z honest ok s t (Next.scan-reading c h q l e) ow dr rc r =
    turns z s r h q.put c (Turn.picked (rows_of s)) s.n (offers_listed z s r c (s.c.reading c))
putting_kept z honest ok s t (Next.acknowledged c x h q l e) ow dr rc r = turns z s r h q.put c (Turn.freezing x) s.n (rw e at (r.turns c l))
putting_kept z honest ok s t (Next.known c h q l e) ow dr rc r = turns z s r h q.put c Turn.picking s.n tt
putting_kept z honest ok s t (Next.draw c b a v h q l e ec es ab) ow dr rc r =
    grows z s r h q.put c (Turn.storing v b 0) _ (drawn_by s.p (num v) b (s.h.latest c))
    (grown_drawn s.p (num v) b (s.h.latest c) (draw-fresh z s c b a v ok ow dr l e ec ab).1) tt
putting_kept z honest ok s t (Next.spent c b a h q l e) ow dr rc r = turns z s r h q.put c Turn.idle s.n tt
putting_kept z honest ok s t (Next.freeze c x a fl h q l e fr) ow dr rc r = freezes z s r h q.put c x a _ l (rw e at (r.turns c l))
putting_kept z honest ok s t (Next.empty c a h q l e pk) ow dr rc r = turns z s r h q.put c Turn.idle s.n tt
putting_kept z honest ok s t (Next.fetch c a x h q l e pk ne) ow dr rc r =
    turns z s r h q.put c (Turn.fetching x 0 0 (replicate z.n [])) _ (picked_listed z s r c a x l e pk ne)
putting_kept z honest ok s t (Next.store c i v x rest h q hi lo up l e) ow dr rc r = quiet z s r h q.put _
putting_kept z honest ok s t (Next.request c i v rest h q hi lo up l e) ow dr rc r = quiet z s r h q.put _
putting_kept z honest ok s t (Next.free c i fl rest h q hi lo up l e) ow dr rc r = quiet z s r h q.put _
putting_kept z honest ok s t (Next.passed i c m qs h q co) ow dr rc r = quiet z s r h q.put _
putting_kept z honest ok s t (Next.added i c v b a qs h q l lo up e co st few) ow dr rc r = turns z s r h q.put c (Turn.storing v b (with_node a i)) _ tt
putting_kept z honest ok s t (Next.formed i c v b a qs h q l lo up e co st en) ow dr rc r =
    let x : Pointer = pointed z v b (with_node a i) in
    grows z s r h q.put c (Turn.updating x) _ (pointed_by s.p (num v) x) (grown_pointed s.p (num v) x (rw e at (ow.own c l)).pointer) tt
putting_kept z honest ok s t (Next.missed i c x n m ps y qs h q l lo up e co hi sn st) ow dr rc r =
    turns z s r h q.put c (Turn.fetching x (with_node n i) m ps) _ (rw e at (r.turns c l))
putting_kept z honest ok s t (Next.matched i c x n m ps b qs h q l lo up e co sn st eb few) ow dr rc r =
    turns z s r h q.put c (Turn.fetching x (with_node n i) (with_node m i) _) _ (rw e at (r.turns c l))
putting_kept z honest ok s t (Next.ended i c x n m ps y qs h q l e co) ow dr rc r = turns z s r h q.put c Turn.idle _ tt
