-- A message handed to a node is a step of the model.
use mathlib.Core.Path.{◌≡◌, refl, sym, ap, ◌∙◌}
use mathlib.Core.Bool.{Bool, true, false, cond, ◌&&◌, ◌||◌, or-true, false≢true}
use mathlib.Core.Logic.{◌⊎◌, inl, inr}
use mathlib.Core.List.{List, [], ◌∷◌, ◌++◌, map, append-nil, map-append}
use mathlib.Core.Option.{Option, some, none}
use Prim.Native.Nat.{ℕ, suc, ◌*◌, ◌^◌, ◌≤◌, ◌<◌}
use native.Mathlib.Omega.{arith}
use native.Mathlib.Nat.{mul-le-mul}
use native.Mathlib.Decide.{dec_lt, dec_le}
use borrow.Author.Tests.{ne_eqb, le-leb, lt-leb, lt-ltb, leb-true}
use lib.Dec.{leb, ltb}
use lib.ListN.{length, take, drop}
use lib.Seq.{take-append_seam}
use Rattle.coding.specs.Bytes.{Bytes}
use Rattle.coding.proofs.Cases.{and-true}
use Rattle.parties.specs.declared.Measures.{Measures}
use Rattle.parties.specs.declared.Version.{Version}
use Rattle.parties.specs.protocol.Format.{Read}
use Rattle.parties.specs.protocol.Measures.{passes, places}
use Rattle.parties.specs.protocol.Version.{below}
use Rattle.parties.specs.protocol.NodeTable.{Held, read_table, write_table}
use Rattle.parties.specs.protocol.Node.{keep, hand_back, release}
use Rattle.parties.specs.protocol.Message.{ToNode, ToClient, answer, read_to_node, write_to_node, write_to_client}
use Rattle.parties.specs.protocol.Answer.{refuses, serves}
use Rattle.parties.specs.protocol.NodeEvents.{NodeEnd, is_held, held_after, answer_to, kept, on_message, node_message, table_size, answer_size}
use Rattle.parties.specs.protocol.Run.{State, bring, nothing as noAnswer, by_server, tick, stays, keeps, lost, brought, carry_out}
use Rattle.parties.proofs.protocol.model.Cells.{by_eq}
use Rattle.parties.proofs.protocol.formats.FormatLaws.{Each}
use Rattle.parties.proofs.protocol.formats.EachLaws.{each_append}
use Rattle.parties.proofs.protocol.formats.MeasureLaws.{passed as measures}
use Rattle.parties.proofs.protocol.formats.NodeTableLaws.{GoodHeld, FitsPlace, GoodTable, format_table, length-table}
use Rattle.parties.proofs.protocol.events.NodeLaws.{keep-length, keep_good, release_good}
use Rattle.parties.proofs.protocol.formats.MessageLaws.{GoodNamedVersion, GoodStored, GoodToNode, GoodToClient, message_to_node}
use Rattle.parties.proofs.protocol.model.Model.{Model, Next, Quiet, served}
use Rattle.parties.proofs.protocol.model.QueueLaws.{hand-each}
use Rattle.parties.proofs.protocol.invariants.Invariant.{Invariant}
use Rattle.parties.proofs.protocol.steps.View.{Shows, Follows, TableShows, ToClientShows}
use Rattle.parties.proofs.protocol.steps.ViewLaws.{sane_quiet, ordinary, silent_follows, refused_follows, quiet_shown}

-- ---- tables

-- at most 8 clients: the places of a table are counted in 2 bytes
pub places-few : (z : Measures) → passes z ≡ true → places z < 256 ^ 2
places-few z p = let c = (measures z p).clients.1 in omega (arith, mul-le-mul c c)

pub read_table_lem : (z : Measures) (l : List Held) → GoodTable z l → read_table z (write_table z l) ≡ some (record { value = l; rest = [] })
read_table_lem z l g = ap (read_table z) (sym (append-nil (write_table z l))) ∙ (format_table z).back l g []

pub long-table : (z : Measures) (l : List Held) → GoodTable z l → leb (table_size z) (length (write_table z l)) ≡ true
long-table z l g = le-leb (table_size z) (length (write_table z l)) (omega (arith, length-table z l g))

-- a held version is overwritten in its place
pub keep-held : (h : Held) (l : List Held) → is_held (hand_back h.version l) ≡ true → length (keep h l) ≡ length l
unfolding keep hand_back
keep-held h [] e = absurd (false≢true e)
keep-held h (x ∷ l) e = go (keep-held h l) (below h.version x.version) (below x.version h.version) e
  where
    go : (is_held (hand_back h.version l) ≡ true → length (keep h l) ≡ length l) → (a b : Bool)
        → is_held (cond a none (cond b (hand_back h.version l) (some x.piece))) ≡ true
        → length (cond a (h ∷ x ∷ l) (cond b (x ∷ keep h l) (h ∷ l))) ≡ suc (length l)
    go ih true b e = absurd (false≢true e)
    go ih false true e = ap suc (ih e)
    go ih false false e = refl

-- a message's piece is a piece to hold
pub stored_good : (z : Measures) → passes z ≡ true → (v : Version) (x : List ℕ) → GoodNamedVersion z v → GoodStored z x
    → GoodHeld z (record { version = v; piece = x })
stored_good z p v x g h =
    let a = and-true (leb 1 v.sequence.0) (ltb v.client z.m) g.1 in
    let b = and-true (leb 1 (length x)) (leb (length x) z.f) h.1 in
    ((g.0, (omega (arith, leb-true (length x) z.f b.1, (measures z p).bytes.1), (h.0, refl))), simp (a.0, a.1, h.1))

-- what a table hands back is well formed
hand_good : (z : Measures) (v : Version) (l : List Held) → Each (FitsPlace z) l → GoodNamedVersion z v → GoodToClient z (answer v (hand_back v l))
hand_good z v l f n = go (hand_back v l) refl
  where
    go : (x : Option (List ℕ)) → hand_back v l ≡ x → GoodToClient z (answer v x)
    go none e = n
    go (some x) e = (n, (hand-each (FitsPlace z) v x l f e).0.0.0.1.1.0)

module _ (z : Measures) (honest : ℕ → Bool) (passed : passes z ≡ true) (st : State) (s : Model) (o : Shows z honest st s) (c i : ℕ) (room : List ℕ) where
  -- ---- nothing happens

  still : Follows z honest s (bring c i room) (stays noAnswer (tick st.history) st)
  still = silent_follows z honest st s o (bring c i room)

  -- refused before the bytes are looked at
  refusal : (q : List (List ℕ)) (n : ℕ) → ordinary n ≡ true
      → Follows z honest s (bring c i room) (keeps c i q (record { answer = refuses n; table = st.nodes i; room = room }) (refuses n) st)
  refusal q n p = refused_follows z honest st s o (bring c i room) (by_server (refuses n)) n refl p

  quiet : Quiet s.h (tick st.history)
  quiet = quiet_shown z honest st s o

  -- ---- a dishonest node's message is gone

  gone : honest i ≡ false → c < z.m → (q : List (List ℕ)) → Follows z honest s (bring c i room) (lost c i q st)
  gone lies l q =
      record {
        model = record { c = s.c; d = s.d; n = s.n; p = s.p; h = tick st.history };
        step = Next.refused (tick st.history) quiet;
        shows =
            record {
              directory = o.directory;
              client = o.client;
              table = o.table;
              to_node = λ j k lj a lo up.
                  by_eq j c
                  (λ f g. rw (f, ne_eqb k i (λ e. false≢true (sym lies ∙ ap honest (sym e) ∙ a))) (rw g (o.to_node c k l a lo up)))
                  (λ f g. rw f (o.to_node j k lj a lo up));
              to_client = o.to_client;
              strangers = λ j k lj. by_eq j c (λ f g. absurd (omega arith)) (λ f g. rw f (o.strangers j k lj));
              liars = o.liars;
              history = refl;
            };
        sane = sane_quiet (bring c i room) noAnswer refl;
      }

  lying : honest i ≡ false → c < z.m → (q : List (List ℕ)) → Follows z honest s (bring c i room) (brought z honest c i room q st)
  lying lies l [] = still
  lying lies l (m ∷ q) = rw lies (gone lies l q)

  -- ---- a number that is no node's

  outside : honest i ≡ true → (leb 1 i && leb i z.n) ≡ false → (q : List (List ℕ)) → Follows z honest s (bring c i room) (brought z honest c i room q st)
  unfolding node_message
  outside h out [] = still
  outside h out (m ∷ q) = go (leb (table_size z) (length (st.nodes i)) && leb (answer_size z) (length room)) refl
    where
      go : (b : Bool) → (leb (table_size z) (length (st.nodes i)) && leb (answer_size z) (length room)) ≡ b
          → Follows z honest s (bring c i room) (brought z honest c i room (m ∷ q) st)
      go true e = rw (h, passed, e, out) (refusal q 3 refl)
      go false e = rw (h, passed, e) (refusal q 2 refl)

  -- ---- an honest node with a message of a client

  module _ (h : honest i ≡ true) (lo : 1 ≤ i) (up : i ≤ z.n) (l : c < z.m) where
    here : TableShows z (st.nodes i) (s.n.held i)
    here = o.table i h lo up

    enough : leb (table_size z) (length (st.nodes i)) ≡ true
    enough = rw here.bytes (long-table z (s.n.held i) here.good)

    inside : (leb 1 i && leb i z.n) ≡ true
    inside = simp (le-leb 1 i lo, le-leb i z.n up)

    -- what the event does where its table and its message read
    opened : (m : ToNode) → GoodToNode z m → leb (answer_size z) (length room) ≡ true
        → node_message z i (st.nodes i) (write_to_node m) room
        ≡ kept z (st.nodes i) room [] (held_after z (s.n.held i) m) (write_to_client (answer_to (s.n.held i) m))
    unfolding node_message
    opened m g r =
        simp (passed, enough, r, inside)
        (ap (λ (t : Option (Read (List Held))). on_message z (st.nodes i) room t (read_to_node z (write_to_node m)))
        (ap (read_table z) here.bytes ∙ read_table_lem z (s.n.held i) here.good)
        ∙ ap (on_message z (st.nodes i) room (some (record { value = s.n.held i; rest = [] }))) ((message_to_node z).back m g))

    -- the table and the answer after it
    done : List Held → ToClient → NodeEnd
    done t a =
        record {
          answer = serves (length (write_to_client a));
          table = write_table z t ++ [];
          room = write_to_client a ++ drop (length (write_to_client a)) room;
        }

    after-shows : (m : ToNode) (rest : List ToNode) (t : List Held) (a : ToClient) → s.n.to_node c i ≡ m ∷ rest → GoodTable z t → GoodToClient z a
        → Shows z honest (keeps c i (map write_to_node rest) (done t a) (done t a).answer st).state
        (record { c = s.c; d = s.d; n = served s.n c i rest t a; p = s.p; h = tick st.history })
    unfolding done
    after-shows m rest t a e gt ga =
        record {
          directory = o.directory;
          client = o.client;
          table = λ j hj lj uj.
              by_eq j i (λ f g. rw f (record { bytes = append-nil (write_table z t); good = gt })) (λ f g. rw f (o.table j hj lj uj));
          to_node = λ j k lj hk lk uk.
              by_eq j c
              (λ f g.
              by_eq k i (λ f₂ g₂. rw (f, f₂) (record { bytes = refl; good = (rw e at (o.to_node c i l h lo up).good).1 }))
              (λ f₂ g₂. rw (f, f₂) (o.to_node c k l hk lk uk)))
              (λ f g. rw f (o.to_node j k lj hk lk uk));
          to_client = λ k j hk lk uk lj.
              by_eq k i
              (λ f g. by_eq j c (λ f₂ g₂. rw (f, f₂) last) (λ f₂ g₂. rw (f, f₂) (o.to_client i j h lo up lj)))
              (λ f g. rw f (o.to_client k j hk lk uk lj));
          strangers = λ j k lj. by_eq j c (λ f g. absurd (omega arith)) (λ f g. rw f (o.strangers j k lj));
          liars = λ k j hk. by_eq k i (λ f g. absurd (false≢true (sym hk ∙ ap honest g ∙ h))) (λ f g. rw f (o.liars k j hk));
          history = refl;
        }
      where
        w : ToClientShows z (st.to_client i c) (s.n.to_client i c)
        w = o.to_client i c h lo up l

        last : ToClientShows z
            (st.to_client i c ++ (take (length (write_to_client a)) (write_to_client a ++ drop (length (write_to_client a)) room) ∷ []))
            (s.n.to_client i c ++ (a ∷ []))
        last =
            record {
              bytes = rw (take-append_seam (write_to_client a) (drop (length (write_to_client a)) room), w.bytes)
                  (sym (map-append write_to_client (s.n.to_client i c) (a ∷ [])));
              good = each_append (GoodToClient z) (s.n.to_client i c) (a ∷ []) w.good (ga, tt);
            }

    -- a message that the table has room for: the step, and what the bytes show after it
    taken : (m : ToNode) (rest : List ToNode) (t : List Held) → s.n.to_node c i ≡ m ∷ rest → GoodToNode z m → leb (answer_size z) (length room) ≡ true
        → held_after z (s.n.held i) m ≡ some t → GoodTable z t → GoodToClient z (answer_to (s.n.held i) m)
        → Next z honest s (record { c = s.c; d = s.d; n = served s.n c i rest t (answer_to (s.n.held i) m); p = s.p; h = tick st.history })
        → Follows z honest s (bring c i room) (brought z honest c i room (map write_to_node (m ∷ rest)) st)
    unfolding done
    taken m rest t e g r a gt ga step =
        rw (h, opened m g r, a)
        (record {
          model = record { c = s.c; d = s.d; n = served s.n c i rest t (answer_to (s.n.held i) m); p = s.p; h = tick st.history };
          step = step;
          shows = after-shows m rest t (answer_to (s.n.held i) m) e gt ga;
          sane = sane_quiet (bring c i room) (by_server (serves (length (write_to_client (answer_to (s.n.held i) m))))) refl;
        })

    -- a room too short for any answer
    short : (m : List ℕ) (q : List (List ℕ)) → leb (answer_size z) (length room) ≡ false
        → Follows z honest s (bring c i room) (brought z honest c i room (m ∷ q) st)
    unfolding node_message
    short m q e = rw (h, passed, enough, e) (refusal q 2 refl)

    -- a new version finds a free place
    fits : (v : Version) (x : List ℕ) → (is_held (hand_back v (s.n.held i)) ≡ true) ⊎ (length (s.n.held i) < places z)
        → ((is_held (hand_back v (s.n.held i)) || ltb (length (s.n.held i)) (places z)) ≡ true)
        × (length (keep (record { version = v; piece = x }) (s.n.held i)) ≤ places z)
    fits v x (inl e) =
        (simp e, omega (arith, keep-held (record { version = v; piece = x }) (s.n.held i) e, leb-true (length (s.n.held i)) (places z) here.good.0.1))
    fits v x (inr e) = (
      rw (lt-ltb (length (s.n.held i)) (places z) e) (or-true (is_held (hand_back v (s.n.held i)))),
      omega (arith, keep-length (record { version = v; piece = x }) (s.n.held i)),
    )

    module _ (left : (v : Version) (x : List ℕ) (rest : List ToNode) → s.n.to_node c i ≡ ToNode.store v x ∷ rest
        → (is_held (hand_back v (s.n.held i)) ≡ true) ⊎ (length (s.n.held i) < places z)) where
      -- the oldest message is taken
      queued : (q : List ToNode) → s.n.to_node c i ≡ q → Each (GoodToNode z) q → leb (answer_size z) (length room) ≡ true
          → Follows z honest s (bring c i room) (brought z honest c i room (map write_to_node q) st)
      queued [] e g r = still
      queued (ToNode.store v x ∷ rest) e g r =
          let y : Held = record { version = v; piece = x } in
          let f = fits v x (left v x rest e) in
          taken (ToNode.store v x) rest (keep y (s.n.held i)) e g.0 r (simp f.0)
          (keep_good z y (s.n.held i) (places-few z passed) (stored_good z passed v x g.0.0 g.0.1) here.good f.1) g.0.0
          (Next.store c i v x rest (tick st.history) quiet h lo up l e)
      queued (ToNode.request v ∷ rest) e g r =
          taken (ToNode.request v) rest (s.n.held i) e g.0 r refl here.good (hand_good z v (s.n.held i) here.good.1.0.0.0 g.0)
          (Next.request c i v rest (tick st.history) quiet h lo up l e)
      queued (ToNode.free vs ∷ rest) e g r =
          taken (ToNode.free vs) rest (release vs (s.n.held i)) e g.0 r refl (release_good z vs (s.n.held i) (places-few z passed) here.good) tt
          (Next.free c i vs rest (tick st.history) quiet h lo up l e)

      honestly : (r : Bool) → leb (answer_size z) (length room) ≡ r → Follows z honest s (bring c i room) (brought z honest c i room (st.to_node c i) st)
      honestly true r = rw (o.to_node c i l h lo up).bytes (queued (s.n.to_node c i) refl (o.to_node c i l h lo up).good r)
      honestly false r = go (st.to_node c i)
        where
          go : (q : List (List ℕ)) → Follows z honest s (bring c i room) (brought z honest c i room q st)
          go [] = still
          go (m ∷ q) = short m q r

-- a message from client c handed to node i, where a new version never finds a full table
pub bring_follows : (z : Measures) (honest : ℕ → Bool) (passed : passes z ≡ true) (st : State) (s : Model) (o : Shows z honest st s) → Invariant z honest s
    → (room_left : (c i : ℕ) (v : Version) (x : List ℕ) (rest : List ToNode) → honest i ≡ true → 1 ≤ i → i ≤ z.n → c < z.m
    → s.n.to_node c i ≡ ToNode.store v x ∷ rest
    → (is_held (hand_back v (s.n.held i)) ≡ true) ⊎ (length (s.n.held i) < 2 * (z.m * z.m)))
    → (c i : ℕ) (room : List ℕ) → Bytes room → Follows z honest s (bring c i room) (carry_out z honest (bring c i room) st)
unfolding carry_out
bring_follows z honest passed st s o inv room_left c i room b = go (dec_lt c z.m) (honest i) refl (dec_le 1 i) (dec_le i z.n)
  where
    go : Dec (c < z.m) → (h : Bool) → honest i ≡ h → Dec (1 ≤ i) → Dec (i ≤ z.n)
        → Follows z honest s (bring c i room) (brought z honest c i room (st.to_node c i) st)
    go (no l) h e lo up = rw (o.strangers c i (omega arith)) (still z honest passed st s o c i room)
    go (yes l) false e lo up = lying z honest passed st s o c i room e l (st.to_node c i)
    go (yes l) true e (no lo) up = outside z honest passed st s o c i room e (simp (lt-leb 1 i (omega arith))) (st.to_node c i)
    go (yes l) true e (yes lo) (no up) = outside z honest passed st s o c i room e (simp (le-leb 1 i lo, lt-leb i z.n (omega arith))) (st.to_node c i)
    go (yes l) true e (yes lo) (yes up) =
        honestly z honest passed st s o c i room e lo up l (λ v x rest q. room_left c i v x rest e lo up l q) (leb (answer_size z) (length room)) refl
