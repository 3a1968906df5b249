-- What nodes hold and what is under way to them: every step keeps `Stocking`.
use mathlib.Core.Path.{◌≡◌, refl, sym, ap, ◌∙◌}
use mathlib.Core.Bool.{Bool, true, false, cond, not, ◌||◌, true≢false, or-true}
use mathlib.Core.Logic.{◌⊎◌, inl, inr}
use mathlib.Core.List.{List, [], ◌∷◌}
use Prim.Native.Nat.{ℕ, zero, suc, ◌≤◌, ◌<◌}
use native.Mathlib.Omega.{arith}
use borrow.Author.Tests.{eq-eqb, not-true}
use lib.Dec.{eqb}
use lib.ListN.{replicate}
use Rattle.coding.specs.Pieces.{piece}
use Rattle.coding.proofs.Cases.{and-true as both_true}
use Rattle.parties.specs.declared.Measures.{Measures}
use Rattle.parties.specs.declared.Version.{Version}
use Rattle.parties.specs.protocol.Nodes.{stands}
use Rattle.parties.specs.protocol.Deposit.{pointer_of}
use Rattle.parties.specs.protocol.Pointer.{Pointer, none_pointer}
use Rattle.parties.specs.protocol.NodeTable.{Held, in_order}
use Rattle.parties.specs.protocol.Node.{listed}
use Rattle.parties.specs.protocol.Message.{ToNode, ToClient}
use Rattle.parties.specs.protocol.Reading.{same_version}
use Rattle.parties.specs.protocol.Run.{History}
use Rattle.parties.proofs.protocol.model.Cells.{by_eq, is_false}
use Rattle.parties.proofs.protocol.formats.FormatLaws.{Each}
use Rattle.parties.proofs.protocol.formats.EachLaws.{each_as, each_append}
use Rattle.parties.proofs.protocol.formats.MeasureLaws.{Passed}
use Rattle.parties.proofs.protocol.formats.VersionLaws.{same_eq, eq_same}
use Rattle.parties.proofs.protocol.events.NodeLaws.{keep-ascending, keep-each, release-ascending, release-each}
use Rattle.parties.proofs.protocol.formats.NodeMapLaws.{stands-none}
use Rattle.parties.proofs.protocol.model.Model.{num, ver, Rows, Turn, Clients, Shown, Past, Model, Next, Frees, Replaced, Retains}
use Rattle.parties.proofs.protocol.model.Model.{with_to_client, turned, frozen_by, sent, served, Picks, notices}
use Rattle.parties.proofs.protocol.invariants.Invariants.{Known, KnownVersion, Owned, Drawing, Depositing, Keeps, Plays, Stocked, Sound, Stocking, effect, holding}
use Rattle.parties.proofs.protocol.model.PastLaws.{Later, known_offer, later_same, drawn_later, pointed_later, draw-fresh}
use Rattle.parties.proofs.protocol.model.PlaysLaws.{holding_kept, holding_released, effect_other, Alike, keeps_as, plays_ext, plays_alike, plays_append, plays_bounded}
use Rattle.parties.proofs.protocol.invariants.LaggingKept.{moved}

-- ---- the past

module _ (z : Measures) (p p' : Past) (g : Later p p') where
  stocked_later : (i : ℕ) (l : List Held) → Each (Stocked z p i) l → Each (Stocked z p' i) l
  stocked_later i = each_as (Stocked z p i) (Stocked z p' i) one
    where
      one : (h : Held) → Stocked z p i h → Stocked z p' i h
      one h a =
          let v = num h.version in
          record { drawn = g.drawn v a.drawn; piece = a.piece ∙ ap (λ x. piece z.k x i) (sym (g.pages v a.drawn)); client = a.client }

  -- a node that a version's pointer names stays named: none names no node
  named-later : (v i : ℕ) → p.drawn v ≡ true → stands (p.pointers v).named.nodes i ≡ true → stands (p'.pointers v).named.nodes i ≡ true
  named-later v i d h = go (g.pointers v d)
    where
      go : (p.pointers v ≡ none_pointer) ⊎ (p'.pointers v ≡ p.pointers v) → stands (p'.pointers v).named.nodes i ≡ true
      go (inl n) = absurd (true≢false (sym (rw n at h) ∙ stands-none i))
      go (inr e) = rw e h

  sound-later : (w i : ℕ) (l : List ToNode) → Each (Sound z p w i) l → Each (Sound z p' w i) l
  sound-later w i = each_as (Sound z p w i) (Sound z p' w i) one
    where
      one : (m : ToNode) → Sound z p w i m → Sound z p' w i m
      one (ToNode.store v x) a = (g.drawn (num v) a.0, a.1 ∙ ap (λ x. piece z.k x i) (sym (g.pages (num v) a.0)), a.2)
      one (ToNode.request v) a = (g.drawn (num v) a.0, named-later (num v) i a.0 a.1, a.2)
      one (ToNode.free l) a = a

-- ---- what a client keeps

-- records that agree
others : (z : Measures) (k k' : Clients) (w : ℕ) → k.turn w ≡ k'.turn w → k.written w ≡ k'.written w → k.frozen w ≡ k'.frozen w
    → k.reserved w ≡ k'.reserved w → Alike z k k' w
others z k k' w t a b c u = (
  keeps_as z k k' w u (λ h. Keeps.current (rw t at h)) a b c,
  keeps_as z k' k w u (λ h. Keeps.current (rw t h)) (sym a) (sym b) (sym c),
)

-- a turn changes, and what it has drawn stays
turned-alike : (z : Measures) (k : Clients) (c : ℕ) (x : Turn) (r : ℕ → ℕ)
    → ((u : Version) → (Depositing (k.turn c) u → Depositing x u) × (Depositing x u → Depositing (k.turn c) u))
    → (w : ℕ)
    → Alike z k (moved k c x r) w
turned-alike z k c x r h w u =
    by_eq w c
    (λ f g. (
      keeps_as z k _ w u (λ t. Keeps.current (rw f ((h u).0 (rw g at t)))) refl refl refl,
      keeps_as z _ k w u (λ t. Keeps.current (rw g ((h u).1 (rw f at t)))) refl refl refl,
    ))
    (λ f g. others z k _ w (rw f refl) refl refl refl u)

-- ---- shapes of steps

module _ (z : Measures) (honest : ℕ → Bool) (s : Model) (o : Stocking z honest s) where
  -- nothing is sent to nodes or taken by them
  still : (t : Model) → t.n.held ≡ s.n.held → t.n.to_node ≡ s.n.to_node → Later s.p t.p
      → ((w : ℕ) → Alike z s.c t.c w) → Stocking z honest t
  still t a b g k =
      record {
        order = λ i. rw a (o.order i);
        stocked = λ i h lo up. rw a (stocked_later z s.p t.p g i (s.n.held i) (o.stocked i h lo up));
        sound = λ w i h lo up l. rw b (sound-later z s.p t.p g w i (s.n.to_node w i) (o.sound w i h lo up l));
        plays = λ w i h lo up l.
            rw (a, b) (plays_alike z s.c t.c w (k w) (holding (s.n.held i)) (s.n.to_node w i) (o.plays w i h lo up l));
      }

  -- nor does any but client c's turn change, which has drawn the same
  turns : (c : ℕ) (x : Turn) {y : Turn} {r : ℕ → ℕ} {d : Shown} {q : ℕ → ℕ → List ToClient} {p : Past} {h : History}
      → Later s.p p → s.c.turn c ≡ y → Depositing y ≡ Depositing x
      → Stocking z honest
      (record {
        c = moved s.c c x r;
        d = d;
        n = with_to_client s.n q;
        p = p;
        h = h;
      })
  turns c x {r = r} g e f = still _ refl refl g (turned-alike z s.c c x r (λ u. (λ h. rw (← f) (rw e at h), λ h. rw e (rw (← f) at h))))

  -- client c sends each node messages
  sends : (t : Model) (c : ℕ) (ms : ℕ → List ToNode) → t.n ≡ sent s.n c ms → Later s.p t.p
      → ((w : ℕ) → eqb w c ≡ false → Alike z s.c t.c w)
      → ((i : ℕ) → Each (Sound z t.p c i) (ms i))
      → ((i : ℕ) (f : Version → Bool) → Plays z s.c c f [] → Plays z t.c c f (ms i)) → Stocking z honest t
  sends t c ms a g k m e =
      record {
        order = λ i. rw a (o.order i);
        stocked = λ i h lo up. rw a (stocked_later z s.p t.p g i (s.n.held i) (o.stocked i h lo up));
        sound = λ w i h lo up l.
            let old = sound-later z s.p t.p g w i (s.n.to_node w i) (o.sound w i h lo up l) in
            rw a (by_eq w c (λ f n. rw f (rw n (each_append (Sound z t.p c i) (s.n.to_node c i) (ms i) (rw n at old) (m i)))) (λ f n. rw f old));
        plays = λ w i h lo up l.
            let old = o.plays w i h lo up l in
            rw a (by_eq w c
            (λ f n. rw f (rw n (plays_append z s.c t.c c (ms i) (e i) (holding (s.n.held i)) (s.n.to_node c i) (rw n at old))))
            (λ f n. rw f (plays_alike z s.c t.c w (k w f) (holding (s.n.held i)) (s.n.to_node w i) old)));
      }

  -- node i takes the oldest message m of client c, and holds l then
  serves : (c i : ℕ) (m : ToNode) (rest : List ToNode) (l : List Held) (y : ToClient) (h : History) → honest i ≡ true → 1 ≤ i → i ≤ z.n → c < z.m
      → s.n.to_node c i ≡ m ∷ rest → in_order l ≡ true → Each (Stocked z s.p i) l → ((u : Version) → holding l u ≡ effect m (holding (s.n.held i)) u)
      → Stocking z honest (record { c = s.c; d = s.d; p = s.p; h = h; n = served s.n c i rest l y })
  serves c i m rest l y h hi lo up cm e a b v =
      record {
        order = λ j. by_eq j i (λ f g. rw f a) (λ f g. rw f (o.order j));
        stocked = λ j hj loj upj. by_eq j i (λ f g. rw f (rw g b)) (λ f g. rw f (o.stocked j hj loj upj));
        sound = λ w j hj loj upj wm.
            let old = o.sound w j hj loj upj wm in
            by_eq w c
            (λ f g. by_eq j i (λ f' g'. rw (f, f') (rw (g, g') (rw (g, g', e) at old).1)) (λ f' g'. rw (f, f') (rw g (rw g at old))))
            (λ f g. rw f old);
        plays = λ w j hj loj upj wm.
            let old = o.plays w j hj loj upj wm in
            by_eq w c
            (λ f g.
            by_eq j i
            (λ f' g'. rw (f, f') (rw g (same_plays c (effect m (holding (s.n.held i))) (λ u d. sym (v u)) rest (rw (g, g', e) at old).1)))
            (λ f' g'. rw (f, f') (rw g (rw g at old))))
            (λ f g.
            by_eq j i
            (λ f' g'.
            rw (f, f') (rw g' (same_plays w (holding (s.n.held i)) (λ u d. sym (v u ∙ other u (λ x. g (sym d ∙ x)))) (s.n.to_node w i) (rw g' at old))))
            (λ f' g'. rw (f, f') old));
      }
    where
      same_plays : (w : ℕ) (f : Version → Bool) → ((u : Version) → u.client ≡ w → f u ≡ holding l u)
          → (q : List ToNode) → Plays z s.c w f q → Plays z s.c w (holding l) q
      same_plays w f = plays_ext z s.c s.c w (λ u. (λ h. h, λ h. h)) f (holding l)

      other : (u : Version) → (u.client ≡ c → ⊥) → effect m (holding (s.n.held i)) u ≡ holding (s.n.held i) u
      other = effect_other z s.p c i m (rw e at (o.sound c i hi lo up cm)).0 (holding (s.n.held i))

-- ---- a search for what is retained

-- a test passes at a number below n, or at none
abbrev Found : (ℕ → Bool) → ℕ → Type 0
Found f n = ((q : ℕ) × (q < n) × (f q ≡ true)) ⊎ ((q : ℕ) → q < n → f q ≡ false)

find : (f : ℕ → Bool) (n : ℕ) → Found f n
find f zero = inr (λ q h. absurd (omega arith))
find f (suc n) = go (find f n) (f n) refl
  where
    go : Found f n → (b : Bool) → f n ≡ b → Found f (suc n)
    go r true e = inl (n, omega arith, e)
    go (inl (q, h, d)) false e = inl (q, omega arith, d)
    go (inr k) false e = inr (λ q h. by_eq q n (λ f g. rw g e) (λ f g. k q (omega arith)))

-- a version is frozen or reserved, or not
retains_or : (z : Measures) (k : Clients) (c : ℕ) (v : Version) → Retains z k c v ⊎ (Retains z k c v → ⊥)
retains_or z k c v = go (find (λ q. same_version (k.frozen c q).version v) z.m) (find (λ q. same_version (k.reserved c q) v) z.m)
  where
    go : Found (λ q. same_version (k.frozen c q).version v) z.m → Found (λ q. same_version (k.reserved c q) v) z.m
        → Retains z k c v ⊎ (Retains z k c v → ⊥)
    go (inl (q, i, h)) r = inl (Retains.frozen q i (same_eq (k.frozen c q).version v h))
    go (inr n) (inl (q, i, h)) = inl (Retains.reserved q i (same_eq (k.reserved c q) v h))
    go (inr n) (inr m) = inr no_one
      where
        no_one : Retains z k c v → ⊥
        no_one (Retains.frozen q i h) = true≢false (sym (eq_same (k.frozen c q).version v h) ∙ n q i)
        no_one (Retains.reserved q i h) = true≢false (sym (eq_same (k.reserved c q) v h) ∙ m q i)

-- ---- a deposit's version is drawn

module _ (z : Measures) (pa : Passed z) (s : Model) (o : Owned z s) (c : ℕ) (l : c < z.m) where
  module _ (bytes : List ℕ) (a : Rows) (v : Version) (e : s.c.turn c ≡ Turn.scanned bytes a) (ec : v.client ≡ c) where
    -- the client keeps it too
    draw_plays : (x : List ℕ) (f : Version → Bool) → Plays z s.c c f [] → Plays z (turned s.c c (Turn.storing v bytes 0)) c f (ToNode.store v x ∷ [])
    draw_plays x f p = (plays_bounded z s pa o c l f p, (λ u d h. onward u d (same_version u v) refl h, back))
      where
        onward : (u : Version) → u.client ≡ c → (b : Bool) → same_version u v ≡ b → (b || f u) ≡ true → Keeps z (turned s.c c (Turn.storing v bytes 0)) c u
        onward u d true q h = Keeps.current (rw (eq-eqb c c refl) (sym (same_eq u v q)))
        onward u d false q h = keeps_as z s.c (turned s.c c (Turn.storing v bytes 0)) c u (λ t. absurd (rw e at t)) refl refl refl (p.0 u d h)

        later : (u : Version) → u.client ≡ c → Keeps z s.c c u → (same_version u v || f u) ≡ true
        later u d h = rw (p.1 u d h) (or-true (same_version u v))

        back : (u : Version) → u.client ≡ c → Keeps z (turned s.c c (Turn.storing v bytes 0)) c u → (same_version u v || f u) ≡ true
        back u d (Keeps.current t) = rw (eq_same u v (sym (rw (eq-eqb c c refl) at t))) refl
        back u d (Keeps.written t) = later u d (Keeps.written t)
        back u d (Keeps.frozen q i t) = later u d (Keeps.frozen q i t)
        back u d (Keeps.reserved q i t) = later u d (Keeps.reserved q i t)

  -- ---- a deposit ends

  module _ (x : Pointer) (a : Rows) (fl : List Version) (e : s.c.turn c ≡ Turn.noticing x a) (fr : Frees z s.c a c x fl) where
    -- what it replaces is not above the previous version
    replaced-below : (v : Version) → Replaced z s.c a c v → num v ≤ ver (s.c.written c)
    replaced-below v (Replaced.previous h) = rw (← h) (omega arith)
    replaced-below v (Replaced.thawed q i n h) = rw (← h) (o.frozen c q l).1
    replaced-below v (Replaced.unreserved q i n h) = rw (← h) (o.reserved c q l).1

    -- what it frees is the client's
    freed_own : (v : Version) → listed v fl ≡ true → v.client ≡ c
    freed_own v h = go (fr.replaced v h)
      where
        version : (y : Version) → KnownVersion s.p c y → y ≡ v → v.client ≡ c
        version y (KnownVersion.absent q) r = absurd (fr.proper v h (sym r ∙ q))
        version y (KnownVersion.drawn d k n) r = rw r at k

        pointer : (y : Pointer) → Known s.p c y → y.version ≡ v → v.client ≡ c
        pointer y (Known.absent q) r = absurd (fr.proper v h (sym r ∙ ap (λ y. y.version) q))
        pointer y (Known.formed d q k n) r = rw r at k

        go : Replaced z s.c a c v → v.client ≡ c
        go (Replaced.previous r) = pointer _ (o.written c l) r
        go (Replaced.thawed q i n r) = pointer _ (o.frozen c q l).0 r
        go (Replaced.unreserved q i n r) = version _ (o.reserved c q l).0 r

    abbrev after : Clients
    after = frozen_by s.c c x a

    -- the new version is not freed
    new_left : (u : Version) → x.version ≡ u → listed u fl ≡ false
    new_left u h = is_false (listed u fl) (λ t. omega (arith, replaced-below u (fr.replaced u t), (rw e at (o.own c l)).0.newer, ap num h))

    -- what the client keeps then it kept before, and does not free
    freeze_old : (u : Version) → Keeps z after c u → Keeps z s.c c u × (listed u fl ≡ false)
    freeze_old u (Keeps.current h) = absurd (rw (eq-eqb c c refl) at h)
    freeze_old u (Keeps.written h) = let h' = rw (eq-eqb c c refl) at h in (Keeps.current (rw e h'), new_left u h')
    freeze_old u (Keeps.frozen q i h) =
        (go (notices s.c a c q) (rw (eq-eqb c c refl) at h), is_false (listed u fl) (λ t. fr.left u t (Retains.frozen q i h)))
      where
        go : (b : Bool) → (cond b x (s.c.frozen c q)).version ≡ u → Keeps z s.c c u
        go true h = Keeps.current (rw e h)
        go false h = Keeps.frozen q i h
    freeze_old u (Keeps.reserved q i h) =
        (go (notices s.c a c q) (rw (eq-eqb c c refl) at h), is_false (listed u fl) (λ t. fr.left u t (Retains.reserved q i h)))
      where
        go : (b : Bool) → cond b (s.c.written c).version (s.c.reserved c q) ≡ u → Keeps z s.c c u
        go true h = Keeps.written h
        go false h = Keeps.reserved q i h

    -- what is replaced and not freed is frozen or reserved
    replaced-kept : (u : Version) → u.client ≡ c → listed u fl ≡ false → Replaced z s.c a c u → Keeps z after c u
    replaced-kept u d n r = go (retains_or z after c u)
      where
        go : Retains z after c u ⊎ (Retains z after c u → ⊥) → Keeps z after c u
        go (inl (Retains.frozen q i h)) = Keeps.frozen q i h
        go (inl (Retains.reserved q i h)) = Keeps.reserved q i h
        go (inr k) = absurd (true≢false (sym (fr.all u r k (λ q. let w : u.client ≡ 255 = ap (λ v. v.client) q in omega arith)) ∙ n))

    freeze_new : (u : Version) → u.client ≡ c → listed u fl ≡ false → Keeps z s.c c u → Keeps z after c u
    freeze_new u d n (Keeps.current h) = Keeps.written (rw (eq-eqb c c refl) (rw e at h))
    freeze_new u d n (Keeps.written h) = replaced-kept u d n (Replaced.previous h)
    freeze_new u d n (Keeps.frozen q i h) = go (notices s.c a c q) refl
      where
        go : (b : Bool) → notices s.c a c q ≡ b → Keeps z after c u
        go true t = replaced-kept u d n (Replaced.thawed q i t h)
        go false t = Keeps.frozen q i (rw (eq-eqb c c refl, t) h)
    freeze_new u d n (Keeps.reserved q i h) = go (notices s.c a c q) refl
      where
        go : (b : Bool) → notices s.c a c q ≡ b → Keeps z after c u
        go true t = replaced-kept u d n (Replaced.unreserved q i t h)
        go false t = Keeps.reserved q i (rw (eq-eqb c c refl, t) h)

    freeze_plays : (f : Version → Bool) → Plays z s.c c f [] → Plays z after c f (ToNode.free fl ∷ [])
    freeze_plays f p = (
      plays_bounded z s pa o c l f p,
      (
        λ u d h. let b = both_true (f u) (not (listed u fl)) h in freeze_new u d (not-true (listed u fl) b.1) (p.0 u d b.0),
        λ u d h. let b = freeze_old u h in rw (p.1 u d b.0, b.1) refl,
      ),
    )

  -- ---- a reading asks for its version

  module _ (a : Rows) (x : Pointer) (e : s.c.turn c ≡ Turn.picked a) (pk : Picks z a c (s.c.reading c) x) (ne : ver x ≡ 255 → ⊥) where
    fetch-sound : (i : ℕ) (b : Bool) → stands x.named.nodes i ≡ b → Each (Sound z s.p c i) (cond b (ToNode.request x.version ∷ []) [])
    fetch-sound i true h = (asked (rw pk.offered at (known_offer z s.p a (rw e at (o.own c l)).1 c (s.c.reading c) pk.row pk.within)), tt)
      where
        asked : Known s.p pk.row x → Sound z s.p c i (ToNode.request x.version)
        asked (Known.absent q) = absurd (ne (ap ver q))
        asked (Known.formed d q k n) = (d, rw q h, rw k pk.within)
    fetch-sound i false h = tt

    fetch_plays : (b : Bool) (f : Version → Bool) → Plays z s.c c f []
        → Plays z (turned s.c c (Turn.fetching x 0 0 (replicate z.n []))) c f (cond b (ToNode.request x.version ∷ []) [])
    fetch_plays b f p = go b
      where
        on : Plays z (turned s.c c (Turn.fetching x 0 0 (replicate z.n []))) c f []
        on = plays_alike z s.c _ c (turned-alike z s.c c _ _ (rw e (λ u. (λ h. h, λ h. h))) c) f [] p

        go : (b : Bool) → Plays z (turned s.c c (Turn.fetching x 0 0 (replicate z.n []))) c f (cond b (ToNode.request x.version ∷ []) [])
        go true = (plays_bounded z s pa o c l f p, on)
        go false = on

-- ---- every step

pub stocking_kept : (z : Measures) (honest : ℕ → Bool) → Passed z → (s t : Model) → Next z honest s t
    → Owned z s → Drawing z s → Stocking z honest s → Stocking z honest t
unfolding pointer_of
stocking_kept z honest pa s t (Next.refused h q) w d o = still z honest s o _ refl refl (later_same s.p) (λ w u. (λ h. h, λ h. h))
stocking_kept z honest pa s t (Next.deposit c b h q l e bb n) w d o =
    turns z honest s o c _ (later_same s.p) e refl
stocking_kept z honest pa s t (Next.reading c h q l e) w d o =
    turns z honest s o c _ (later_same s.p) e refl
stocking_kept z honest pa s t (Next.publish c x h q l e) w d o =
    turns z honest s o c _ (later_same s.p) e refl
stocking_kept z honest pa s t (Next.raise c h q l e) w d o =
    turns z honest s o c _ (later_same s.p) e refl
stocking_kept z honest pa s t (Next.scan-first c bytes h q l e) w d o =
    turns z honest s o c _ (later_same s.p) e refl
stocking_kept z honest pa s t (Next.scan_second c x h q l e) w d o =
    turns z honest s o c _ (later_same s.p) e refl
stocking_kept z honest pa s t (Next.scan-reading c h q l e) w d o =
    turns z honest s o c _ (later_same s.p) e refl
stocking_kept z honest pa s t (Next.acknowledged c x h q l e) w d o =
    turns z honest s o c _ (later_same s.p) e refl
stocking_kept z honest pa s t (Next.known c h q l e) w d o =
    turns z honest s o c _ (later_same s.p) e refl
stocking_kept z honest pa s t (Next.draw c bytes a v h q l e ec es ab) w d o =
    sends z honest s o _ c (λ i. ToNode.store v (piece z.k bytes i) ∷ []) refl
    (drawn_later s.p (num v) bytes (s.h.latest c) (draw-fresh z s c bytes a v pa w d l e ec ab).1)
    (λ w f. others z s.c _ w (rw f refl) refl refl refl)
    (λ i. ((rw (eq-eqb (num v) (num v) refl) (refl, refl, ec)), tt))
    (λ i. draw_plays z pa s w c l bytes a v e ec (piece z.k bytes i))
stocking_kept z honest pa s t (Next.spent c bytes a h q l e) w d o =
    turns z honest s o c _ (later_same s.p) e refl
stocking_kept z honest pa s t (Next.freeze c x a fl h q l e fr) w d o =
    sends z honest s o _ c (λ i. ToNode.free fl ∷ []) refl (later_same s.p)
    (λ w f. others z s.c _ w (rw f refl) (rw f refl) (rw f refl) (rw f refl))
    (λ i. (freed_own z pa s w c l x a fl e fr, tt)) (λ i. freeze_plays z pa s w c l x a fl e fr)
stocking_kept z honest pa s t (Next.empty c a h q l e pk) w d o =
    turns z honest s o c _ (later_same s.p) e refl
stocking_kept z honest pa s t (Next.fetch c a x h q l e pk ne) w d o =
    sends z honest s o _ c _ refl (later_same s.p) (λ w f. others z s.c _ w (rw f refl) refl refl refl)
    (λ i. fetch-sound z pa s w c l a x e pk ne i (stands x.named.nodes i) refl) (λ i. fetch_plays z pa s w c l a x e pk ne (stands x.named.nodes i))
stocking_kept z honest pa s t (Next.store c i v x rest h q hi lo up l e) w d o =
    let m = (rw e at (o.sound c i hi lo up l)).0 in
    serves z honest s o c i (ToNode.store v x) rest _ (ToClient.stored v) h hi lo up l e (keep-ascending _ (s.n.held i) (o.order i))
    (keep-each (Stocked z s.p i) _ (s.n.held i) (record { drawn = m.0; piece = m.1; client = rw m.2 l }) (o.stocked i hi lo up))
    (holding_kept _ (s.n.held i) (o.order i))
stocking_kept z honest pa s t (Next.request c i v rest h q hi lo up l e) w d o =
    serves z honest s o c i (ToNode.request v) rest (s.n.held i) _ h hi lo up l e (o.order i) (o.stocked i hi lo up) (λ u. refl)
stocking_kept z honest pa s t (Next.free c i fl rest h q hi lo up l e) w d o =
    serves z honest s o c i (ToNode.free fl) rest _ ToClient.freed h hi lo up l e (release-ascending fl (s.n.held i) (o.order i))
    (release-each (Stocked z s.p i) fl (s.n.held i) (o.stocked i hi lo up)) (holding_released fl (s.n.held i) (o.order i))
stocking_kept z honest pa s t (Next.passed i c m qs h q co) w d o = still z honest s o _ refl refl (later_same s.p) (λ w u. (λ h. h, λ h. h))
stocking_kept z honest pa s t (Next.added i c v bytes a qs h q l lo up e co st few) w d o =
    turns z honest s o c _ (later_same s.p) e refl
stocking_kept z honest pa s t (Next.formed i c v bytes a qs h q l lo up e co st en) w d o =
    turns z honest s o c _ (pointed_later s.p (num v) _ (rw e at (w.own c l)).pointer) e refl
stocking_kept z honest pa s t (Next.missed i c x n m ps y qs h q l lo up e co hi sn st) w d o =
    turns z honest s o c _ (later_same s.p) e refl
stocking_kept z honest pa s t (Next.matched i c x n m ps b qs h q l lo up e co sn st eb few) w d o =
    turns z honest s o c _ (later_same s.p) e refl
stocking_kept z honest pa s t (Next.ended i c x n m ps y qs h q l e co) w d o =
    turns z honest s o c _ (later_same s.p) e refl
