-- What is acknowledged has arrived, and what is replied is true: every step keeps `Arriving`.
use mathlib.Core.Path.{◌≡◌, refl, sym, ap, ◌∙◌, subst}
use mathlib.Core.Bool.{Bool, true, false, cond, true≢false}
use mathlib.Core.Logic.{◌⊎◌, inl, inr}
use mathlib.Core.List.{List, [], ◌∷◌, ◌++◌}
use mathlib.Core.Option.{Option, some, none}
use Prim.Native.Nat.{ℕ, ◌-◌, ◌≤◌, ◌<◌}
use native.Mathlib.Omega.{arith}
use borrow.Author.Tests.{eq-eqb}
use lib.Dec.{eqb}
use lib.ListN.{set, replicate}
use Rattle.coding.specs.Pieces.{piece}
use Rattle.parties.specs.declared.Measures.{Measures}
use Rattle.parties.specs.declared.Version.{Version}
use Rattle.parties.specs.protocol.Nodes.{stands, with_node}
use Rattle.parties.specs.protocol.Pointer.{Pointer}
use Rattle.parties.specs.protocol.NodeTable.{Held}
use Rattle.parties.specs.protocol.Node.{keep, hand_back, release}
use Rattle.parties.specs.protocol.NodeEvents.{is_held}
use Rattle.parties.specs.protocol.Message.{ToNode, ToClient, answer}
use Rattle.parties.specs.protocol.Deposit.{pointer_of}
use Rattle.parties.specs.protocol.Run.{History, upd, upd₂}
use Rattle.parties.proofs.protocol.model.Cells.{by_eq, by_two, two-same}
use Rattle.parties.proofs.protocol.formats.FormatLaws.{Each}
use Rattle.parties.proofs.protocol.formats.EachLaws.{each_as, each_append}
use Rattle.parties.proofs.protocol.formats.MeasureLaws.{Passed}
use Rattle.parties.proofs.protocol.formats.NodeMapLaws.{with_others, stands-none}
use Rattle.parties.proofs.protocol.model.Model.{num, ver, Turn, Clients, Rows, Shown, Nodes, Past, Model, newest, last, rows_of, notices}
use Rattle.parties.proofs.protocol.model.Model.{drawn_by, frozen_by, sent, served, with_to_client, pointed, Comes, Next}
use Rattle.parties.proofs.protocol.invariants.Invariants.{Own, Owned, Drawing, Depositing, Keeps, Stocked, Stocking, NoStore, Sound, Once, Arrived, Truthful, Acked, Arriving}
use Rattle.parties.proofs.protocol.model.VersionNumbers.{num_eq}
use Rattle.parties.proofs.protocol.invariants.DrawLaws.{draw_above, draw_new, draw_pages}
use Rattle.parties.proofs.protocol.model.QueueLaws.{no_store_append, no_store_tail, once_tail, once_append, asked-stores, asked_once, hand-each}
use Rattle.parties.proofs.protocol.model.PlaysLaws.{keeps_as}
use Rattle.parties.proofs.protocol.invariants.StockLaws.{kept-held}
use Rattle.parties.proofs.protocol.invariants.LaggingKept.{moved}

-- the messages from honest nodes are true of a model
abbrev Messages : Measures → (ℕ → Bool) → Model → (ℕ → ℕ → List ToClient) → Type 0
Messages z honest s q = (i c : ℕ) → honest i ≡ true → 1 ≤ i → i ≤ z.n → c < z.m → Each (Truthful z s i c) (q i c)

-- the honest nodes that these pointers name have their versions
abbrev Names : Measures → (ℕ → Bool) → Model → (ℕ → Pointer) → Type 0
Names z honest s ptrs =
    (v : Version) (i : ℕ) → honest i ≡ true → 1 ≤ i → i ≤ z.n → v.client < z.m → s.p.drawn (num v) ≡ true
    → stands (ptrs (num v)).named.nodes i ≡ true → Arrived s.n i v

-- ---- what a step leaves true

record Lasting (z : Measures) (honest : ℕ → Bool) (s t : Model) : Type 0 where
  arrived : (v : Version) (i : ℕ) → honest i ≡ true → s.p.drawn (num v) ≡ true → Arrived s.n i v → Arrived t.n i v
  drawn : (v : ℕ) → s.p.drawn v ≡ true → t.p.drawn v ≡ true
  pages : (v : ℕ) → s.p.drawn v ≡ true → t.p.pages v ≡ s.p.pages v
  keeps : (v : Version) → s.p.drawn (num v) ≡ true → Keeps z t.c v.client v → Keeps z s.c v.client v

module _ (z : Measures) (honest : ℕ → Bool) (s t : Model) (y : Lasting z honest s t) where
  truthful_lasts : (i c : ℕ) → honest i ≡ true → (m : ToClient) → Truthful z s i c m → Truthful z t i c m
  truthful_lasts i c hi (ToClient.stored v) f = (y.arrived v i hi f.2 f.0, f.1, y.drawn (num v) f.2)
  truthful_lasts i c hi ToClient.freed f = tt
  truthful_lasts i c hi (ToClient.reply v x) f = (y.drawn (num v) f.0, rw (y.pages (num v) f.0) f.1, f.2)
  truthful_lasts i c hi (ToClient.missing v) f = (y.drawn (num v) f.0, f.1, λ k. f.2 (y.keeps v f.0 k))

  messages_last : (q : ℕ → ℕ → List ToClient) → Messages z honest s q → Messages z honest t q
  messages_last q f i c hi lo up l = each_as (Truthful z s i c) (Truthful z t i c) (truthful_lasts i c hi) (q i c) (f i c hi lo up l)

  acked_lasts : (w : ℕ) (u : Turn) → Own z s.p s.c w u → Acked z honest s.n u → Acked z honest t.n u
  acked_lasts w Turn.idle o a = tt
  acked_lasts w (Turn.scanning b) o a = tt
  acked_lasts w (Turn.scanned b r) o a = tt
  acked_lasts w (Turn.storing v b m) o a = λ i hi lo up st. y.arrived v i hi o.drawn (a i hi lo up st)
  acked_lasts w (Turn.updating x) o a = tt
  acked_lasts w (Turn.updated x) o a = tt
  acked_lasts w (Turn.freezing x) o a = tt
  acked_lasts w (Turn.noticing x r) o a = tt
  acked_lasts w Turn.raising o a = tt
  acked_lasts w Turn.raised o a = tt
  acked_lasts w Turn.picking o a = tt
  acked_lasts w (Turn.picked r) o a = tt
  acked_lasts w (Turn.fetching x n m ps) o a = tt

  -- the turn of client c is new
  acked_turned : Owned z s → Arriving z honest s → (c : ℕ) (u : Turn) → Acked z honest t.n u → (w : ℕ) → w < z.m
      → Acked z honest t.n (upd s.c.turn c u w)
  acked_turned o a c u n w l = by_eq w c (λ f g. rw f n) (λ f g. rw f (acked_lasts w (s.c.turn w) (o.own w l) (a.acked w l)))

-- ---- what a client keeps

-- its turn is new
keeps-turned : (z : Measures) (k : Clients) (c : ℕ) (u : Turn) (r : ℕ → ℕ) (w : ℕ) (v : Version) → (Depositing u v → Keeps z k c v)
    → Keeps z (moved k c u r) w v → Keeps z k w v
keeps-turned z k c u r w v n =
    keeps_as z (moved k c u r) k w v (λ p. by_eq w c (λ f g. rw g (n (rw f at p))) (λ f g. Keeps.current (rw f at p))) refl refl refl

-- its deposit's end keeps nothing more
keeps-frozen : (z : Measures) (k : Clients) (c : ℕ) (x : Pointer) (a : Rows) → k.turn c ≡ Turn.noticing x a → (w : ℕ) (v : Version)
    → Keeps z (frozen_by k c x a) w v → Keeps z k w v
keeps-frozen z k c x a e w v (Keeps.current p) = by_eq w c (λ f g. absurd (rw f at p)) (λ f g. Keeps.current (rw f at p))
keeps-frozen z k c x a e w v (Keeps.written p) =
    by_eq w c (λ f g. rw g (Keeps.current (rw e (rw f at p)))) (λ f g. Keeps.written (rw f at p))
keeps-frozen z k c x a e w v (Keeps.frozen q l p) =
    by_eq w c (λ f g. rw g (go (notices k a c q) (rw f at p))) (λ f g. Keeps.frozen q l (rw f at p))
  where
    go : (b : Bool) → (cond b x (k.frozen c q)).version ≡ v → Keeps z k c v
    go true h = Keeps.current (rw e h)
    go false h = Keeps.frozen q l h
keeps-frozen z k c x a e w v (Keeps.reserved q l p) =
    by_eq w c (λ f g. rw g (go (notices k a c q) (rw f at p))) (λ f g. Keeps.reserved q l (rw f at p))
  where
    go : (b : Bool) → cond b (k.written c).version (k.reserved c q) ≡ v → Keeps z k c v
    go true h = Keeps.written h
    go false h = Keeps.reserved q l h

-- ---- steps in which the turn of one client changes

-- and besides the queues from the nodes, the pointers and what these invariants do not speak of
abbrev Then : Model → ℕ → Turn → (ℕ → ℕ) → Shown → (ℕ → ℕ → List ToClient) → (ℕ → Pointer) → (ℕ → ℕ → ℕ) → History → Model
Then s c u r d q ptrs sh h =
    record {
      c = moved s.c c u r;
      d = d;
      n = with_to_client s.n q;
      p = record { drawn = s.p.drawn; pages = s.p.pages; deposits = s.p.deposits; pointers = ptrs; shown = sh };
      h = h;
    }

-- the version last drawn, and the one that is current, stay
turn_arriving : (z : Measures) (honest : ℕ → Bool) (s : Model) → Owned z s → Arriving z honest s → (c : ℕ) (old new : Turn) → s.c.turn c ≡ old
    → ((y : ℕ) → newest new y ≡ newest old y) → ((v : Version) → Depositing new v → Depositing old v)
    → {r : ℕ → ℕ} {d : Shown} {q : ℕ → ℕ → List ToClient} {ptrs : ℕ → Pointer} {sh : ℕ → ℕ → ℕ} {h : History}
    → Acked z honest (with_to_client s.n q) new → Messages z honest s q → Names z honest s ptrs → Arriving z honest (Then s c new r d q ptrs sh h)
turn_arriving z honest s o a c old new e same current {r} {d} {q} {ptrs} {sh} {h} ak ms nm =
    let t : Model = Then s c new r d q ptrs sh h in
    let y : Lasting z honest s t =
    record {
      arrived = λ v i hi g b. b;
      drawn = λ v g. g;
      pages = λ v g. refl;
      keeps = λ v g. keeps-turned z s.c c new r v.client v (λ n. Keeps.current (rw e (current v n)));
    }
    in
    record {
      once = λ w i hi lo up l.
          by_eq w c (λ f g. rw f (rw g (rw (same (ver (s.c.written c))) (rw e at (a.once c i hi lo up (rw g at l))))))
          (λ f g. rw f (a.once w i hi lo up l));
      messages = messages_last z honest s t y q ms;
      acked = acked_turned z honest s t y o a c new ak;
      named = nm;
    }

-- ---- messages handed to clients

module _ (z : Measures) (honest : ℕ → Bool) (s : Model) (a : Arriving z honest s) (i c : ℕ) (m : ToClient) where
  -- the others are still under way
  came : (q : ℕ → ℕ → List ToClient) → Comes honest s.n i c m q → Messages z honest s q
  came q (Comes.oldest rest hi e) =
      by_two (λ j w l. honest j ≡ true → 1 ≤ j → j ≤ z.n → w < z.m → Each (Truthful z s j w) l) s.n.to_client i c rest
      (λ hj lo up l. (rw e at (a.messages i c hj lo up l)).1) a.messages
  came q (Comes.lied un) = a.messages

  -- an honest node's was under way
  came_true : (q : ℕ → ℕ → List ToClient) → Comes honest s.n i c m q → honest i ≡ true → 1 ≤ i → i ≤ z.n → c < z.m → Truthful z s i c m
  came_true q (Comes.oldest rest hi e) hj lo up l = (rw e at (a.messages i c hi lo up l)).0
  came_true q (Comes.lied un) hj lo up l = absurd (true≢false (sym hj ∙ un))

module _ (z : Measures) (honest : ℕ → Bool) (s : Model) (a : Arriving z honest s) (i c : ℕ) (v : Version) (b : List ℕ) (m : ℕ) (q : ℕ → ℕ → List ToClient)
    (l : c < z.m) (lo : 1 ≤ i) (up : i ≤ z.n) (e : s.c.turn c ≡ Turn.storing v b m) (co : Comes honest s.n i c (ToClient.stored v) q) where
  -- the nodes that acknowledged, with the one whose acknowledgement came
  acked_more : (j : ℕ) → honest j ≡ true → 1 ≤ j → j ≤ z.n → stands (with_node m i) j ≡ true → Arrived s.n j v
  acked_more j hj lj uj st =
      by_eq j i (λ f g. rw g (came_true z honest s a i c (ToClient.stored v) q co (rw g at hj) lo up l).0)
      (λ f g. (rw e at (a.acked c l)) j hj lj uj (sym (with_others m i j lo lj f) ∙ st))

  -- they are the nodes of the pointer that is formed
  formed_names : Passed z → Owned z s → Names z honest s (upd s.p.pointers (num v) (pointed z v b (with_node m i)))
  unfolding pointer_of
  formed_names ok o u j hj lj uj lu g st =
      let w : v.client ≡ c = (rw e at (o.own c l)).client in
      by_eq (num u) (num v)
      (λ f y.
      subst (Arrived s.n j) (num_eq v u (omega (arith, ok.clients)) (omega (arith, ok.clients)) (sym y)) (acked_more j hj lj uj (rw f at st)))
      (λ f y. a.named u j hj lj uj lu g (rw f at st))

-- the clients stay as they are
quiet_arriving : (z : Measures) (honest : ℕ → Bool) (s : Model) → Owned z s → Arriving z honest s → {q : ℕ → ℕ → List ToClient} {h : History}
    → Messages z honest s q → Arriving z honest (record { c = s.c; d = s.d; n = with_to_client s.n q; p = s.p; h = h })
quiet_arriving z honest s o a {q} {h} ms =
    let t : Model = record { c = s.c; d = s.d; n = with_to_client s.n q; p = s.p; h = h } in
    let y : Lasting z honest s t = record { arrived = λ v i hi g b. b; drawn = λ v g. g; pages = λ v g. refl; keeps = λ v g k. k } in
    record {
      once = a.once;
      messages = messages_last z honest s t y q ms;
      acked = λ w l. acked_lasts z honest s t y w (s.c.turn w) (o.own w l) (a.acked w l);
      named = a.named;
    }

-- ---- messages sent to nodes

abbrev Sent : Model → ℕ → Turn → (ℕ → Pointer) → (ℕ → ℕ → Pointer) → (ℕ → ℕ → Version) → (ℕ → ℕ → ℕ) → (ℕ → List ToNode) → Past → History → Model
Sent s c u wr fz rs ix m p h =
    record {
      c = record { turn = upd s.c.turn c u; written = wr; frozen = fz; reserved = rs; indices = ix; reading = s.c.reading };
      d = s.d;
      n = sent s.n c m;
      p = p;
      h = h;
    }

sent-stores : (n : Nodes) (c : ℕ) (m : ℕ → List ToNode) (v : Version) (i : ℕ) → NoStore v (m i) → (w : ℕ)
    → NoStore v (n.to_node w i) → NoStore v ((sent n c m).to_node w i)
sent-stores n c m v i o w b = by_eq w c (λ f g. rw f (no_store_append v (n.to_node c i) (m i) (rw g at b) o)) (λ f g. rw f b)

-- client c sends m, which stores no version that was drawn before
sent_arriving : (z : Measures) (honest : ℕ → Bool) (s : Model) → Owned z s → Arriving z honest s → (c : ℕ) (u : Turn) (m : ℕ → List ToNode) (p : Past)
    → {wr : ℕ → Pointer} {fz : ℕ → ℕ → Pointer} {rs : ℕ → ℕ → Version} {ix : ℕ → ℕ → ℕ} {h : History}
    → ((w : ℕ) → eqb w c ≡ false → wr w ≡ s.c.written w)
    → ((v : Version) → s.p.drawn (num v) ≡ true → Keeps z (Sent s c u wr fz rs ix m p h).c v.client v → Keeps z s.c v.client v)
    → last s.c c ≤ newest u (ver (wr c))
    → ((v : Version) (i : ℕ) → (num v ≤ last s.c c) ⊎ (s.p.drawn (num v) ≡ true) → NoStore v (m i))
    → ((i : ℕ) → Once (newest u (ver (wr c))) (m i))
    → ((v : ℕ) → s.p.drawn v ≡ true → p.drawn v ≡ true)
    → ((v : ℕ) → s.p.drawn v ≡ true → p.pages v ≡ s.p.pages v)
    → Acked z honest (sent s.n c m) u
    → ((v : Version) (i : ℕ) → p.drawn (num v) ≡ true → stands (p.pointers (num v)).named.nodes i ≡ true
    → (s.p.drawn (num v) ≡ true) × (stands (s.p.pointers (num v)).named.nodes i ≡ true))
    → Arriving z honest (Sent s c u wr fz rs ix m p h)
sent_arriving z honest s o a c u m p {wr} {fz} {rs} {ix} {h} ow kp le ns on dr pg ak nm =
    let t : Model = Sent s c u wr fz rs ix m p h in
    let y : Lasting z honest s t =
    record { arrived = λ v i hi g. sent-stores s.n c m v i (ns v i (inr g)) v.client; drawn = dr; pages = pg; keeps = kp }
    in
    record {
      once = λ w i hi lo up l.
          by_eq w c
          (λ f g.
          simp f (rw g (once_append (last s.c c) (newest u (ver (wr c))) (s.n.to_node c i) (m i) le (λ v b. ns v i (inl b)) (on i)
          (a.once c i hi lo up (rw g at l)))))
          (λ f g. simp (f, ow w f) (a.once w i hi lo up l));
      messages = messages_last z honest s t y s.n.to_client a.messages;
      acked = acked_turned z honest s t y o a c u ak;
      named = λ v i hi lo up l g st. let b = nm v i g st in y.arrived v i hi b.0 (a.named v i hi lo up l b.0 b.1);
    }

-- ---- messages handed to nodes

-- of the messages of client c to node i some are taken
module _ (z : Measures) (honest : ℕ → Bool) (s : Model) (o : Owned z s) (a : Arriving z honest s) (c i : ℕ) (rest : List ToNode) (tab : ℕ → List Held)
    (q : ℕ → ℕ → List ToClient) (h : History) (fewer : honest i ≡ true → (v : Version) → NoStore v (s.n.to_node c i) → NoStore v rest)
    (less : honest i ≡ true → (top : ℕ) → Once top (s.n.to_node c i) → Once top rest) where
  abbrev Taken : Model
  Taken = record { c = s.c; d = s.d; n = record { held = tab; to_node = upd₂ s.n.to_node c i rest; to_client = q }; p = s.p; h = h }

  taken_lasting : Lasting z honest s Taken
  taken_lasting =
      record {
        arrived = λ v j hi g b.
            by_two (λ w j q. honest j ≡ true → NoStore v (s.n.to_node w j) → NoStore v q) s.n.to_node c i rest (λ y. fewer y v) (λ w j y x. x)
            v.client j hi b;
        drawn = λ v g. g;
        pages = λ v g. refl;
        keeps = λ v g k. k;
      }

  -- the messages from nodes that were under way
  taken_messages : Messages z honest Taken s.n.to_client
  taken_messages = messages_last z honest s Taken taken_lasting s.n.to_client a.messages

  taken_arriving : Messages z honest Taken q → Arriving z honest Taken
  taken_arriving ms =
      record {
        once =
            by_two (λ w j q. honest j ≡ true → 1 ≤ j → j ≤ z.n → w < z.m → Once (last s.c w) q) s.n.to_node c i rest
            (λ hi lo up l. less hi (last s.c c) (a.once c i hi lo up l)) a.once;
        messages = ms;
        acked = λ w l. acked_lasts z honest s Taken taken_lasting w (s.c.turn w) (o.own w l) (a.acked w l);
        named = λ v j hi lo up l g st. taken_lasting.arrived v j hi g (a.named v j hi lo up l g st);
      }

-- a node takes the oldest, m, and answers r
module _ (z : Measures) (honest : ℕ → Bool) (s : Model) (o : Owned z s) (a : Arriving z honest s) (c i : ℕ) (m : ToNode) (rest : List ToNode)
    (e : s.n.to_node c i ≡ m ∷ rest) (tab : List Held) (r : ToClient) (h : History) where
  abbrev Answered : Model
  Answered = record { c = s.c; d = s.d; n = served s.n c i rest tab r; p = s.p; h = h }

  answered_arriving : Truthful z Answered i c r → Arriving z honest Answered
  answered_arriving n =
      taken_arriving z honest s o a c i rest (upd s.n.held i tab) queues h fewer less
      (by_two (λ j w q. honest j ≡ true → 1 ≤ j → j ≤ z.n → w < z.m → Each (Truthful z Answered j w) q) s.n.to_client i c (s.n.to_client i c ++ (r ∷ []))
      (λ hi lo up l. each_append (Truthful z Answered i c) (s.n.to_client i c) (r ∷ []) (old i c hi lo up l) (n, tt)) old)
    where
      queues : ℕ → ℕ → List ToClient
      queues = upd₂ s.n.to_client i c (s.n.to_client i c ++ (r ∷ []))

      fewer : honest i ≡ true → (v : Version) → NoStore v (s.n.to_node c i) → NoStore v rest
      fewer hi v b = no_store_tail v m rest (rw e at b)

      less : honest i ≡ true → (top : ℕ) → Once top (s.n.to_node c i) → Once top rest
      less hi top b = once_tail top m rest (rw e at b)

      old : Messages z honest Answered s.n.to_client
      old = taken_messages z honest s o a c i rest (upd s.n.held i tab) queues h fewer less

-- a stored version, of which no second store is under way, has arrived
stored_arrived : (q : ℕ → ℕ → List ToNode) (c i : ℕ) (rest : List ToNode) (v : Version) → v.client ≡ c → NoStore v rest
    → NoStore v (upd₂ q c i rest v.client i)
stored_arrived q c i rest v e b = subst (λ (w : ℕ). NoStore v (upd₂ q c i rest w i)) (sym e) (rw (two-same q c i rest) b)

-- a request is answered by the deposit's piece; or, where the version is not held, its client does not keep it
reply_true : (z : Measures) (honest : ℕ → Bool) (s : Model) → Stocking z honest s → Arriving z honest s → (i : ℕ) (v : Version)
    → honest i ≡ true → 1 ≤ i → i ≤ z.n → (w : ℕ) → Sound z s.p w i (ToNode.request v)
    → (t : Model) → t.p ≡ s.p → t.c ≡ s.c → (c : ℕ) → Truthful z t i c (answer v (hand_back v (s.n.held i)))
reply_true z honest s k a i v hi lo up w f t tp tc c = go (hand_back v (s.n.held i)) refl
  where
    go : (x : Option (List ℕ)) → hand_back v (s.n.held i) ≡ x → Truthful z t i c (answer v x)
    go (some x) g =
        let y = hand-each (Stocked z s.p i) v x (s.n.held i) (k.stocked i hi lo up) g in
        (rw tp y.drawn, rw tp y.piece, y.client)
    go none g =
        let arrived = a.named v i hi lo up f.2 f.0 f.1 in
        (rw tp f.0, f.2, λ y. true≢false (sym (kept-held z honest s k i hi lo up v f.2 (rw tc at y) arrived) ∙ ap is_held g))

pub arriving_kept : (z : Measures) (honest : ℕ → Bool) → Passed z → (s t : Model) → Next z honest s t → Owned z s → Drawing z s → Stocking z honest s
    → Arriving z honest s → Arriving z honest t
unfolding pointer_of
arriving_kept z honest ok s t (Next.refused h q) o d k a = quiet_arriving z honest s o a a.messages
arriving_kept z honest ok s t (Next.deposit c b h q l e bb n) o d k a =
    turn_arriving z honest s o a c Turn.idle (Turn.scanning b) e (λ y. refl) (λ v k. k) tt a.messages a.named
arriving_kept z honest ok s t (Next.reading c h q l e) o d k a =
    turn_arriving z honest s o a c Turn.idle Turn.raising e (λ y. refl) (λ v k. k) tt a.messages a.named
arriving_kept z honest ok s t (Next.publish c x h q l e) o d k a =
    turn_arriving z honest s o a c (Turn.updating x) (Turn.updated x) e (λ y. refl) (λ v k. k) tt a.messages a.named
arriving_kept z honest ok s t (Next.raise c h q l e) o d k a =
    turn_arriving z honest s o a c Turn.raising Turn.raised e (λ y. refl) (λ v k. k) tt a.messages a.named
arriving_kept z honest ok s t (Next.scan-first c b h q l e) o d k a =
    turn_arriving z honest s o a c (Turn.scanning b) (Turn.scanned b (rows_of s)) e (λ y. refl) (λ v k. k) tt a.messages a.named
arriving_kept z honest ok s t (Next.scan_second c x h q l e) o d k a =
    turn_arriving z honest s o a c (Turn.freezing x) (Turn.noticing x (rows_of s)) e (λ y. refl) (λ v k. k) tt a.messages a.named
arriving_kept z honest ok s t (Next.scan-reading c h q l e) o d k a =
    turn_arriving z honest s o a c Turn.picking (Turn.picked (rows_of s)) e (λ y. refl) (λ v k. k) tt a.messages a.named
arriving_kept z honest ok s t (Next.acknowledged c x h q l e) o d k a =
    turn_arriving z honest s o a c (Turn.updated x) (Turn.freezing x) e (λ y. refl) (λ v k. k) tt a.messages a.named
arriving_kept z honest ok s t (Next.known c h q l e) o d k a =
    turn_arriving z honest s o a c Turn.raised Turn.picking e (λ y. refl) (λ v k. k) tt a.messages a.named
arriving_kept z honest ok s t (Next.draw c b r v h q l e ec es ab) o d k a =
    let new = draw_new z ok s o d c b r v l e ec ab in
    sent_arriving z honest s o a c (Turn.storing v b 0) (λ i. ToNode.store v (piece z.k b i) ∷ []) (drawn_by s.p (num v) b (s.h.latest c)) (λ w f. refl)
    (λ u g. keeps-turned z s.c c (Turn.storing v b 0) s.c.reading u.client u (λ y. absurd (new u (inr g) y)))
    (omega (arith, draw_above z ok s o d c b r v l e ec ab)) (λ u i y. (new u y, tt)) (λ i. (omega arith, tt, tt))
    (λ u g. by_eq u (num v) (λ f y. rw f) (λ f y. rw f g))
    (draw_pages z ok s o d c b r v l e ec ab)
    (λ i hi lo up st. absurd (true≢false (sym st ∙ stands-none i)))
    (λ u i g st. by_eq (num u) (num v) (λ f y. absurd (true≢false (sym (rw f at st) ∙ stands-none i))) (λ f y. (rw f at g, rw f at st)))
arriving_kept z honest ok s t (Next.spent c b r h q l e) o d k a =
    turn_arriving z honest s o a c (Turn.scanned b r) Turn.idle e (λ y. refl) (λ v k. k) tt a.messages a.named
arriving_kept z honest ok s t (Next.freeze c x r fl h q l e fr) o d k a =
    sent_arriving z honest s o a c Turn.idle (λ i. ToNode.free fl ∷ []) s.p (λ w f. rw f) (λ v g. keeps-frozen z s.c c x r e v.client v)
    (simp (eq-eqb c c refl, e) (omega arith)) (λ v i y. tt) (λ i. tt) (λ v g. g) (λ v g. refl) tt (λ v i g st. (g, st))
arriving_kept z honest ok s t (Next.empty c r h q l e pk) o d k a =
    turn_arriving z honest s o a c (Turn.picked r) Turn.idle e (λ y. refl) (λ v k. k) tt a.messages a.named
arriving_kept z honest ok s t (Next.fetch c r x h q l e pk ne) o d k a =
    sent_arriving z honest s o a c (Turn.fetching x 0 0 (replicate z.n []))
    (λ i. cond (stands x.named.nodes i) (ToNode.request x.version ∷ []) []) s.p (λ w f. refl)
    (λ v g. keeps-turned z s.c c (Turn.fetching x 0 0 (replicate z.n [])) s.c.reading v.client v (λ y. absurd y))
    (rw e (omega arith)) (λ v i y. asked-stores v x.version (stands x.named.nodes i))
    (λ i. asked_once (ver (s.c.written c)) x.version (stands x.named.nodes i)) (λ v g. g) (λ v g. refl) tt (λ v i g st. (g, st))
arriving_kept z honest ok s t (Next.store c i v x rest h q hi lo up l e) o d k a =
    let f = (rw e at (k.sound c i hi lo up l)).0 in
    answered_arriving z honest s o a c i (ToNode.store v x) rest e (keep (record { version = v; piece = x }) (s.n.held i)) (ToClient.stored v) h
    (stored_arrived s.n.to_node c i rest v f.2 (rw e at (a.once c i hi lo up l)).1, f.2, f.0)
arriving_kept z honest ok s t (Next.request c i v rest h q hi lo up l e) o d k a =
    answered_arriving z honest s o a c i (ToNode.request v) rest e (s.n.held i) (answer v (hand_back v (s.n.held i))) h
    (reply_true z honest s k a i v hi lo up c (rw e at (k.sound c i hi lo up l)).0 t refl refl c)
arriving_kept z honest ok s t (Next.free c i fl rest h q hi lo up l e) o d k a =
    answered_arriving z honest s o a c i (ToNode.free fl) rest e (release fl (s.n.held i)) ToClient.freed h tt
arriving_kept z honest ok s t (Next.passed i c m qs h q co) o d k a = quiet_arriving z honest s o a (came z honest s a i c m qs co)
arriving_kept z honest ok s t (Next.added i c v b m qs h q l lo up e co st few) o d k a =
    turn_arriving z honest s o a c (Turn.storing v b m) (Turn.storing v b (with_node m i)) e (λ y. refl) (λ v k. k)
    (acked_more z honest s a i c v b m qs l lo up e co) (came z honest s a i c (ToClient.stored v) qs co) a.named
arriving_kept z honest ok s t (Next.formed i c v b m qs h q l lo up e co st en) o d k a =
    turn_arriving z honest s o a c (Turn.storing v b m) (Turn.updating (pointed z v b (with_node m i))) e (λ y. refl) (λ v k. k) tt
    (came z honest s a i c (ToClient.stored v) qs co) (formed_names z honest s a i c v b m qs l lo up e co ok o)
arriving_kept z honest ok s t (Next.missed i c x n m ps y qs h q l lo up e co hi sn st) o d k a =
    turn_arriving z honest s o a c (Turn.fetching x n m ps) (Turn.fetching x (with_node n i) m ps) e (λ y. refl) (λ v k. k) tt
    (came z honest s a i c y qs co) a.named
arriving_kept z honest ok s t (Next.matched i c x n m ps b qs h q l lo up e co sn st eb few) o d k a =
    turn_arriving z honest s o a c (Turn.fetching x n m ps) (Turn.fetching x (with_node n i) (with_node m i) (set ps (i - 1) b)) e (λ y. refl) (λ v k. k) tt
    (came z honest s a i c (ToClient.reply x.version b) qs co) a.named
arriving_kept z honest ok s t (Next.ended i c x n m ps y qs h q l e co) o d k a =
    turn_arriving z honest s o a c (Turn.fetching x n m ps) Turn.idle e (λ y. refl) (λ v k. k) tt (came z honest s a i c y qs co) a.named
