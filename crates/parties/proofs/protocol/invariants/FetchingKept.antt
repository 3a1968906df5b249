-- What a reading has fetched are its deposit's pieces: every step keeps `Fetching`.
use mathlib.Core.Path.{◌≡◌, refl, sym, ap, ◌∙◌}
use mathlib.Core.Bool.{Bool, true, false, true≢false}
use mathlib.Core.List.{List, []}
use Prim.Native.Nat.{ℕ, ◌-◌, ◌≤◌, ◌<◌}
use native.Mathlib.Omega.{arith}
use lib.ListN.{length, replicate, set, length-set, length-replicate, get_or-replicate}
use lib.Pow.{pow_pos}
use lib.Seq.{get_or-set_same, get_or-set_other}
use Rattle.coding.proofs.NodesLaws.{nodes-none}
use Rattle.coding.specs.Pieces.{piece}
use Rattle.parties.specs.declared.Measures.{Measures}
use Rattle.parties.specs.protocol.Nodes.{count, stands, with_node}
use Rattle.parties.specs.protocol.Pointer.{Pointer}
use Rattle.parties.specs.protocol.Run.{upd}
use Rattle.parties.proofs.protocol.model.Cells.{by_eq}
use Rattle.parties.proofs.protocol.formats.MeasureLaws.{Passed}
use Rattle.parties.proofs.protocol.formats.NodeMapLaws.{with_node_lem, with_others, stands-none, with_below}
use Rattle.parties.proofs.protocol.model.Model.{num, ver, Turn, Clients, Past, Model, shown_written, rows_of, begun_by, drawn_by, pointed_by, pointed, Next}
use Rattle.parties.proofs.protocol.invariants.Invariants.{Known, Own, Owned, Drawing, Fetched, FetchedAt, Fetching}
use Rattle.parties.proofs.protocol.invariants.DrawLaws.{draw_pages}

-- what a known pointer names is drawn
known_drawn : (p : Past) (w : ℕ) (x : Pointer) → Known p w x → 256 ≤ ver x → p.drawn (ver x) ≡ true
known_drawn p w x (Known.absent e) h = absurd (omega (arith, ap ver e))
known_drawn p w x (Known.formed d q c n) h = d

-- pages of drawn versions stay, so what is fetched stays
fetched_as : (z : Measures) (honest : ℕ → Bool) (p q : Past) (k : Clients) (w : ℕ) (t : Turn)
    → ((v : ℕ) → p.drawn v ≡ true → q.pages v ≡ p.pages v) → Own z p k w t → FetchedAt z honest p t → FetchedAt z honest q t
fetched_as z honest p q k w Turn.idle g o f = tt
fetched_as z honest p q k w (Turn.scanning b) g o f = tt
fetched_as z honest p q k w (Turn.scanned b a) g o f = tt
fetched_as z honest p q k w (Turn.storing v b a) g o f = tt
fetched_as z honest p q k w (Turn.updating x) g o f = tt
fetched_as z honest p q k w (Turn.updated x) g o f = tt
fetched_as z honest p q k w (Turn.freezing x) g o f = tt
fetched_as z honest p q k w (Turn.noticing x a) g o f = tt
fetched_as z honest p q k w Turn.raising g o f = tt
fetched_as z honest p q k w Turn.raised g o f = tt
fetched_as z honest p q k w Turn.picking g o f = tt
fetched_as z honest p q k w (Turn.picked a) g o f = tt
fetched_as z honest p q k w (Turn.fetching x n m ps) g o f =
    record {
      pieces = λ i lo up st. rw (g (ver x) (known_drawn p x.version.client x o.2 o.3)) (f.pieces i lo up st);
      matching = f.matching;
      counted = f.counted;
      within = f.within;
      few = f.few;
      many = f.many;
      empty = f.empty;
    }

-- the turn of one client changes
turn_kept : (z : Measures) (honest : ℕ → Bool) (s : Model) → Owned z s → Fetching z honest s → (q : Past)
    → ((v : ℕ) → s.p.drawn v ≡ true → q.pages v ≡ s.p.pages v) → (c : ℕ) (t : Turn) → FetchedAt z honest q t
    → (j : ℕ) → j < z.m → FetchedAt z honest q (upd s.c.turn c t j)
turn_kept z honest s o f q g c t n j l =
    by_eq j c (λ e h. rw e n) (λ e h. rw e (fetched_as z honest s.p q s.c j (s.c.turn j) g (o.own j l) (f j l)))

-- nothing is fetched yet
fetched_none : (z : Measures) (honest : ℕ → Bool) → Passed z → (p : Past) (x : Pointer) → Fetched z honest p x 0 0 (replicate z.n [])
fetched_none z honest ok p x =
    let none : count 0 ≡ 0 = ap length (nodes-none 16) in
    record {
      pieces = λ i lo up st. absurd (true≢false (sym st ∙ stands-none i));
      matching = λ i hi lo up st. st;
      counted = λ i lo up st. st;
      within = (pow_pos z.n, pow_pos z.n);
      few = omega (arith, ok.parts);
      many = length-replicate z.n [];
      empty = λ i lo up st. get_or-replicate z.n (i - 1) [] [] (omega arith);
    }

module _ (z : Measures) (honest : ℕ → Bool) (p : Past) (x : Pointer) (n m : ℕ) (ps : List (List ℕ)) (i : ℕ) (lo : 1 ≤ i) (up : i ≤ z.n) where
  -- a reply of a dishonest node that does not match is counted
  fetched_missed : honest i ≡ false → Fetched z honest p x n m ps → Fetched z honest p x (with_node n i) m ps
  fetched_missed un f =
      record {
        pieces = f.pieces;
        matching = λ j hi l u s.
            by_eq j i (λ e g. absurd (true≢false (sym hi ∙ ap honest g ∙ un)))
            (λ e g. f.matching j hi l u (sym (with_others n i j lo l e) ∙ s));
        counted = λ j l u s. by_eq j i (λ e g. rw g (with_node_lem n i lo)) (λ e g. with_others n i j lo l e ∙ f.counted j l u s);
        within = (f.within.0, with_below n i z.n lo up f.within.1);
        few = f.few;
        many = f.many;
        empty = f.empty;
      }

  -- one that matches is kept too
  fetched_matched : (b : List ℕ) → b ≡ piece z.k (p.pages (ver x)) i → count (with_node m i) < z.k → Fetched z honest p x n m ps
      → Fetched z honest p x (with_node n i) (with_node m i) (set ps (i - 1) b)
  fetched_matched b eb few f =
      record {
        pieces = λ j l u s.
            by_eq j i (λ e g. rw g (get_or-set_same ps (i - 1) b [] (omega (arith, f.many)) ∙ eb))
            (λ e g. get_or-set_other ps (i - 1) (j - 1) b [] (λ q. g (omega arith)) ∙ f.pieces j l u (sym (with_others m i j lo l e) ∙ s));
        matching = λ j hi l u s.
            by_eq j i (λ e g. rw g (with_node_lem m i lo))
            (λ e g. with_others m i j lo l e ∙ f.matching j hi l u (sym (with_others n i j lo l e) ∙ s));
        counted = λ j l u s.
            by_eq j i (λ e g. rw g (with_node_lem n i lo))
            (λ e g. with_others n i j lo l e ∙ f.counted j l u (sym (with_others m i j lo l e) ∙ s));
        within = (with_below m i z.n lo up f.within.0, with_below n i z.n lo up f.within.1);
        few = few;
        many = length-set ps (i - 1) b ∙ f.many;
        empty = λ j l u s.
            by_eq j i (λ e g. absurd (true≢false (sym (with_node_lem m i lo) ∙ sym (ap (stands (with_node m i)) g) ∙ s)))
            (λ e g. get_or-set_other ps (i - 1) (j - 1) b [] (λ q. g (omega arith)) ∙ f.empty j l u (sym (with_others m i j lo l e) ∙ s));
      }

pub fetching-kept : (z : Measures) (honest : ℕ → Bool) → Passed z → (s t : Model) → Next z honest s t → Owned z s → Drawing z s
    → Fetching z honest s → Fetching z honest t
fetching-kept z honest ok s t (Next.refused h q) o d f = f
fetching-kept z honest ok s t (Next.deposit c b h q l e bb n) o d f =
    turn_kept z honest s o f (begun_by s.p s.h.begun (λ w. ver (shown_written s.c w))) (λ v g. refl) c (Turn.scanning b) tt
fetching-kept z honest ok s t (Next.reading c h q l e) o d f =
    turn_kept z honest s o f (begun_by s.p s.h.begun (λ w. ver (shown_written s.c w))) (λ v g. refl) c Turn.raising tt
fetching-kept z honest ok s t (Next.publish c x h q l e) o d f =
    turn_kept z honest s o f s.p (λ v g. refl) c (Turn.updated x) tt
fetching-kept z honest ok s t (Next.raise c h q l e) o d f =
    turn_kept z honest s o f s.p (λ v g. refl) c Turn.raised tt
fetching-kept z honest ok s t (Next.scan-first c b h q l e) o d f =
    turn_kept z honest s o f s.p (λ v g. refl) c (Turn.scanned b (rows_of s)) tt
fetching-kept z honest ok s t (Next.scan_second c x h q l e) o d f =
    turn_kept z honest s o f s.p (λ v g. refl) c (Turn.noticing x (rows_of s)) tt
fetching-kept z honest ok s t (Next.scan-reading c h q l e) o d f =
    turn_kept z honest s o f s.p (λ v g. refl) c (Turn.picked (rows_of s)) tt
fetching-kept z honest ok s t (Next.acknowledged c x h q l e) o d f =
    turn_kept z honest s o f s.p (λ v g. refl) c (Turn.freezing x) tt
fetching-kept z honest ok s t (Next.known c h q l e) o d f =
    turn_kept z honest s o f s.p (λ v g. refl) c Turn.picking tt
fetching-kept z honest ok s t (Next.draw c b a v h q l e ec es ab) o d f =
    turn_kept z honest s o f (drawn_by s.p (num v) b (s.h.latest c))
    (draw_pages z ok s o d c b a v l e ec ab) c (Turn.storing v b 0) tt
fetching-kept z honest ok s t (Next.spent c b a h q l e) o d f = turn_kept z honest s o f s.p (λ v g. refl) c Turn.idle tt
fetching-kept z honest ok s t (Next.freeze c x a fl h q l e fr) o d f = turn_kept z honest s o f s.p (λ v g. refl) c Turn.idle tt
fetching-kept z honest ok s t (Next.empty c a h q l e pk) o d f = turn_kept z honest s o f s.p (λ v g. refl) c Turn.idle tt
fetching-kept z honest ok s t (Next.fetch c a x h q l e pk ne) o d f =
    turn_kept z honest s o f s.p (λ v g. refl) c (Turn.fetching x 0 0 (replicate z.n [])) (fetched_none z honest ok s.p x)
fetching-kept z honest ok s t (Next.store c i v x rest h q hi lo up l e) o d f = f
fetching-kept z honest ok s t (Next.request c i v rest h q hi lo up l e) o d f = f
fetching-kept z honest ok s t (Next.free c i fl rest h q hi lo up l e) o d f = f
fetching-kept z honest ok s t (Next.passed i c m qs h q co) o d f = f
fetching-kept z honest ok s t (Next.added i c v b a qs h q l lo up e co st few) o d f =
    turn_kept z honest s o f s.p (λ v g. refl) c (Turn.storing v b (with_node a i)) tt
fetching-kept z honest ok s t (Next.formed i c v b a qs h q l lo up e co st en) o d f =
    turn_kept z honest s o f (pointed_by s.p (num v) (pointed z v b (with_node a i))) (λ u g. refl) c (Turn.updating (pointed z v b (with_node a i))) tt
fetching-kept z honest ok s t (Next.missed i c x n m ps y qs h q l lo up e co hi sn st) o d f =
    turn_kept z honest s o f s.p (λ v g. refl) c (Turn.fetching x (with_node n i) m ps)
    (fetched_missed z honest s.p x n m ps i lo up hi (rw e at (f c l)))
fetching-kept z honest ok s t (Next.matched i c x n m ps b qs h q l lo up e co sn st eb few) o d f =
    turn_kept z honest s o f s.p (λ v g. refl) c (Turn.fetching x (with_node n i) (with_node m i) (set ps (i - 1) b))
    (fetched_matched z honest s.p x n m ps i lo up b eb few (rw e at (f c l)))
fetching-kept z honest ok s t (Next.ended i c x n m ps y qs h q l e co) o d f = turn_kept z honest s o f s.p (λ v g. refl) c Turn.idle tt
