-- Messages handed to clients, an honest node's and a dishonest one's, are steps of the model.
use mathlib.Core.Path.{◌≡◌, refl, sym, ap, subst, ◌∙◌}
use mathlib.Core.Bool.{Bool, true, false, cond, not, ◌&&◌, ◌||◌, false≢true, true≢false}
use mathlib.Core.List.{List, [], ◌∷◌, ◌++◌, map, cons≢nil, head-eq_of_cons-eq, tail-eq_of_cons-eq}
use mathlib.Core.Option.{Option, some, none}
use Prim.Native.Nat.{ℕ, ◌+◌, ◌-◌, ◌*◌, ◌^◌, ◌≤◌, ◌<◌}
use native.Mathlib.Omega.{arith}
use native.Mathlib.Decide.{dec_lt}
use borrow.Author.Tests.{ne_eqb, lt-ltb, le-ltb, ltb-true, leb-true}
use lib.Dec.{leb, ltb}
use lib.ListN.{length, take, drop, set, length-set, get_or}
use lib.Seq.{take-append_seam, get_or-set_same, get_or-set_other}
use Rattle.coding.specs.Pieces.{piece}
use Rattle.coding.specs.Answer.{Outcome}
use Rattle.coding.specs.Join.{JoinEnd, join}
use Rattle.coding.proofs.Cases.{and-true}
use Rattle.coding.proofs.PageLaws.{some_eq}
use Rattle.coding.proofs.RoundTrip.{piece_bytes}
use Rattle.parties.specs.declared.Measures.{Measures}
use Rattle.parties.specs.declared.Version.{Version}
use Rattle.parties.specs.protocol.Measures.{passes}
use Rattle.parties.specs.protocol.Nodes.{count, stands, with_node}
use Rattle.parties.specs.protocol.Pointer.{Pointer}
use Rattle.parties.specs.protocol.Directory.{write_record}
use Rattle.parties.specs.protocol.Message.{ToClient, answer, read_to_client, write_to_client}
use Rattle.parties.specs.protocol.Client.{Phase, Client, write_client, client_size, lengths, areas}
use Rattle.parties.specs.protocol.Deposit.{digests_of, pointer_of, deposit_fields}
use Rattle.parties.specs.protocol.Reading.{counts, matches, all_counted, same_version}
use Rattle.parties.specs.protocol.Answer.{ClientAnswer, refused, waits, scan, update, stores, requests, deposited, empty, page, spent, failed}
use Rattle.parties.specs.protocol.ClientEvents.{ClientEnd, Step, after, unchanged, on_client, on_message, with_phase, lay, room_size, acknowledge, stored_at}
use Rattle.parties.specs.protocol.ClientEvents.{go_on, joined_at, ends, counted, replied_at, message_at, client_message, message_to}
use Rattle.parties.specs.protocol.Run.{Reply, History, Operation, Call, update_call, State, Event, Result, Answered, by_client, upd, upd₂, tick, mark, marked, heard}
use Rattle.parties.specs.protocol.Run.{replying, ending, giving, stays, goes, called, is_refused, told, delivered, carry_out, deliver, lie}
use Rattle.parties.specs.protocol.Claim.{Sane, Member, StringOf, Differ, dishonest}
use Rattle.parties.proofs.protocol.model.Cells.{by_eq, chosen}
use Rattle.parties.proofs.protocol.model.MemberLaws.{member_last}
use Rattle.parties.proofs.protocol.formats.FormatLaws.{Each}
use Rattle.parties.proofs.protocol.formats.EachLaws.{each_set}
use Rattle.parties.proofs.protocol.formats.MeasureLaws.{Passed, passed as measures}
use Rattle.parties.proofs.protocol.formats.VersionLaws.{same_eq}
use Rattle.parties.proofs.protocol.formats.NodeMapLaws.{stands_with, with_below, count_with}
use Rattle.parties.proofs.protocol.formats.MessageLaws.{message_to_client}
use Rattle.parties.proofs.protocol.formats.ClientLaws.{ShortPiece, GoodPhase}
use Rattle.parties.proofs.protocol.model.Model.{num, ver, Turn, Past, Model, Next, Comes, Quiet, Marked, turned, with_to_client, pointed, pointed_by, put_by, raised_to}
use Rattle.parties.proofs.protocol.invariants.Invariants.{Storing, Truthful, Fetched}
use Rattle.parties.proofs.protocol.invariants.RetainingKept.{safe_keeps}
use Rattle.parties.proofs.protocol.invariants.Invariant.{Invariant}
use Rattle.parties.proofs.protocol.steps.View.{Shows, Follows, ToClientShows, GoodTurn, phase_of, client_at, calls_of, returns_of}
use Rattle.parties.proofs.protocol.steps.ViewLaws.{sane_number, sane_quiet, quiet_heard, stays_follows, goes-shows, unsent, others_turned}
use Rattle.parties.proofs.protocol.steps.ViewLaws.{silent_follows, quiet_mark, record_reads, own_turned, rows-turned}
use Rattle.parties.proofs.protocol.steps.GoodLaws.{pointed_good, ver_some, piece-short}
use Rattle.parties.proofs.protocol.events.ReplyLaws.{enough_match, all-counted, joined-reading, Picked, known_picked, own_matched, matched_own}

-- no two different strings of a history share a digest
abbrev DigestsDiffer : Measures → History → Type 0
DigestsDiffer s h = Differ (StringOf s h)

-- ---- the history after a message

-- the answers to a message: none marks a version
abbrev Leaves : ClientAnswer → Type 0
Leaves (refused n) = Unit {0}
Leaves waits = Unit {0}
Leaves scan = ⊥
Leaves (update len) = Unit {0}
Leaves (stores v len) = ⊥
Leaves (requests v nodes) = ⊥
Leaves (deposited v len) = ⊥
Leaves empty = ⊥
Leaves (page v len) = Unit {0}
Leaves spent = ⊥
Leaves failed = Unit {0}

abbrev StepLeaves : Step → Type 0
StepLeaves (Step.stays a) = Leaves a
StepLeaves (Step.does a x r o) = Leaves a

module _ (z : Measures) (i : ℕ) (x : Client) (room out : List ℕ) where
  stored_leaves : (v : Version) (p : Phase) → StepLeaves (stored_at z i x room out v p)
  stored_leaves v Phase.idle = tt
  stored_leaves v (Phase.scanning bytes) = tt
  stored_leaves v (Phase.storing w a ds) =
      chosen StepLeaves (same_version v w && not (stands a i)) _ _ (chosen StepLeaves (ltb (count (with_node a i)) (z.t + z.k)) _ _ tt tt) tt
  stored_leaves v (Phase.updating p) = tt
  stored_leaves v (Phase.freezing p) = tt
  stored_leaves v Phase.raising = tt
  stored_leaves v Phase.picking = tt
  stored_leaves v (Phase.fetching p n m ps) = tt

  ends_leaves : (v : Version) (e : JoinEnd) → StepLeaves (ends x room v e)
  ends_leaves v e = go e.outcome
    where
      go : (a : Outcome) → StepLeaves (joined_at x room v e.out a)
      go (Outcome.gives len) = tt
      go (Outcome.refuses n) = tt

  on_leaves : (p : Pointer) (n m : ℕ) (ps : List (List ℕ)) → StepLeaves (go_on x room out p n m ps)
  on_leaves p n m ps = chosen StepLeaves (all_counted p n) _ _ tt tt

  counted_leaves : (p : Pointer) (n m : ℕ) (ps : List (List ℕ)) (y : Option (List ℕ)) → StepLeaves (counted z i x room out p n m ps y)
  counted_leaves p n m ps none = on_leaves p n m ps
  counted_leaves p n m ps (some y) =
      chosen StepLeaves (matches z p i y) _ _
      (chosen StepLeaves (ltb (count (with_node m i)) z.k) _ _ (on_leaves p n (with_node m i) (set ps (i - 1) y))
      (ends_leaves p.version
      (join z.n z.k z.f (with_node m i) (areas z (set ps (i - 1) y)) (lengths (set ps (i - 1) y)) out)))
      (on_leaves p n m ps)

  replied_leaves : (v : Version) (y : Option (List ℕ)) (p : Phase) → StepLeaves (replied_at z i x room out v y p)
  replied_leaves v y Phase.idle = tt
  replied_leaves v y (Phase.scanning bytes) = tt
  replied_leaves v y (Phase.storing w a ds) = tt
  replied_leaves v y (Phase.updating p) = tt
  replied_leaves v y (Phase.freezing p) = tt
  replied_leaves v y Phase.raising = tt
  replied_leaves v y Phase.picking = tt
  replied_leaves v y (Phase.fetching p n m ps) = chosen StepLeaves (counts p n i v) _ _ (counted_leaves p (with_node n i) m ps y) tt

  message_leaves : (m : ToClient) → StepLeaves (message_at z i x room out m)
  message_leaves (ToClient.stored v) = stored_leaves v x.phase
  message_leaves ToClient.freed = tt
  message_leaves (ToClient.reply v y) = replied_leaves v (some y) x.phase
  message_leaves (ToClient.missing v) = replied_leaves v none x.phase

after_leaves : (z : Measures) (client room out rest : List ℕ) (e : Step) → StepLeaves e → Leaves (after z client room out rest e).answer
after_leaves z client room out rest (Step.stays a) h = h
after_leaves z client room out rest (Step.does a x r o) h = h

-- operations of the same pages and versions have the same strings
module _ (z : Measures) (h h' : History) (b : h'.begun ≡ h.begun) (p : (o : ℕ) → (h'.operation o).page ≡ (h.operation o).page)
    (v : (o : ℕ) → (h'.operation o).version ≡ (h.operation o).version) (r : h'.replied ≡ h.replied) where
  same_string : (x : List ℕ) → StringOf z h x → StringOf z h' x
  same_string x (StringOf.cut o i u bytes e d lo up q) = StringOf.cut o i u bytes (rw b e.0, v o ∙ e.1) (p o ∙ d) lo up q
  same_string x (StringOf.came y a lo up q) = StringOf.came y (rw r a) lo up q

  same-differ : DigestsDiffer z h' → DigestsDiffer z h
  same-differ d x y e f = d x y (same_string x e) (same_string y f)

module _ (f : ℕ → Operation) (i : ℕ) (x : Operation) where
  upd-page : x.page ≡ (f i).page → (o : ℕ) → (upd f i x o).page ≡ (f o).page
  upd-page e o = by_eq o i (λ g q. rw g (rw q e)) (λ g q. rw g refl)

  upd-version : x.version ≡ (f i).version → (o : ℕ) → (upd f i x o).version ≡ (f o).version
  upd-version e o = by_eq o i (λ g q. rw g (rw q e)) (λ g q. rw g refl)

-- the premise on digests, said of the history after the event, holds once the message is heard
module _ (z : Measures) (c i : ℕ) (message : List ℕ) (tc : ℕ → ℕ → List (List ℕ)) (st : State) where
  answered-differ : (a : ClientAnswer) (client room out : List ℕ) → Leaves a
      → DigestsDiffer z (told z c i message tc (record { answer = a; client = client; room = room; out = out }) st).state.history
      → DigestsDiffer z (heard z c i message (is_refused a) st.history)
  answered-differ (refused n) client room out l d = same-differ z (heard z c i message true st.history) _ refl (λ o. refl) (λ o. refl) refl d
  answered-differ waits client room out l d = same-differ z (heard z c i message false st.history) _ refl (upd-page _ _ _ refl) (upd-version _ _ _ refl) refl d
  answered-differ scan client room out l d = absurd l
  answered-differ (update len) client room out l d = same-differ z (heard z c i message false st.history) _ refl (upd-page _ _ _ refl) (upd-version _ _ _ refl) refl d
  answered-differ (stores v len) client room out l d = absurd l
  answered-differ (requests v nodes) client room out l d = absurd l
  answered-differ (deposited v len) client room out l d = absurd l
  answered-differ empty client room out l d = absurd l
  answered-differ (page v len) client room out l d = same-differ z (heard z c i message false st.history) _ refl (upd-page _ _ _ refl) (upd-version _ _ _ refl) refl d
  answered-differ spent client room out l d = absurd l
  answered-differ failed client room out l d = same-differ z (heard z c i message false st.history) _ refl (upd-page _ _ _ refl) (upd-version _ _ _ refl) refl d

  told-differ : (e : ClientEnd) → Leaves e.answer → DigestsDiffer z (told z c i message tc e st).state.history
      → DigestsDiffer z (heard z c i message (is_refused e.answer) st.history)
  told-differ e l d = answered-differ e.answer e.client e.room e.out l d

-- an answer that ends a reading
given-mark : (z : Measures) (c i : ℕ) (message : List ℕ) (e : ClientEnd) (v : Version) (bytes rest : List ℕ) (h : History)
    → e.answer ≡ page v (length bytes) → e.out ≡ bytes ++ rest
    → Marked h (mark z c e (heard z c i message false h)) c (λ k. ending h.time (giving bytes k))
given-mark z c i message e v bytes rest h f g =
    record { time = refl; begun = refl; operations = rw (f, g, take-append_seam bytes rest) refl; latest = refl; put = refl }

-- ---- the client's event for a message that comes

module _ (z : Measures) (honest : ℕ → Bool) (st : State) (s : Model) (o : Shows z honest st s) (ev : Event) (c : ℕ) (l : c < z.m)
    (i : ℕ) (message : List ℕ) (q : ℕ → ℕ → List ToClient) (tc : ℕ → ℕ → List (List ℕ))
    (shown : (j d : ℕ) → honest j ≡ true → 1 ≤ j → j ≤ z.n → d < z.m → ToClientShows z (tc j d) (q j d))
    (liars : (j d : ℕ) → honest j ≡ false → tc j d ≡ []) where
  -- the client's record
  abbrev mine : Client
  mine = client_at z s.c c

  quiet : (e : ClientEnd)
      → marked z st.history.time e.answer e.client e.out (st.history.operation (st.history.latest c))
      ≡ st.history.operation (st.history.latest c)
      → Quiet s.h (mark z c e (heard z c i message false st.history))
  quiet e f =
      subst (λ (x : History). Quiet x (mark z c e (heard z c i message false st.history))) o.history
      (quiet_mark z c e st.history (heard z c i message false st.history).replied f)

  -- it is passed over
  passed_over : (m : ToClient) → Comes honest s.n i c m q → (room out : List ℕ)
      → Follows z honest s ev (told z c i message tc (unchanged waits (st.clients c) room out) st)
  passed_over m comes room out =
      let e = unchanged waits (st.clients c) room out in
      let h = mark z c e (heard z c i message false st.history) in
      record {
        model = record { c = s.c; d = s.d; n = with_to_client s.n q; p = s.p; h = h };
        step = Next.passed i c m q h (quiet e refl) comes;
        shows =
            goes-shows z honest st s o c l e st.returns tc h s.c (with_to_client s.n q) s.p
            (o.client c l) (λ j ne lj. o.client j lj) refl refl
            (λ j a lo up. unsent z e j (st.to_node c j) (s.n.to_node c j) refl (o.to_node c j l a lo up))
            (λ j k ne. refl) shown liars;
        sane = sane_quiet ev (by_client waits) refl;
      }

  -- it changes the client's turn
  module _ (t : Turn) (a : ClientAnswer) (room out : List ℕ) (p : Past) where
    turns : ClientEnd
    turns = record { answer = a; client = write_client z (with_phase (phase_of z t) mine) ++ []; room = room; out = out }

    turns_follows : is_refused a ≡ false → ((j : ℕ) → message_to z a room j ≡ none) → Sane ev (by_client a) → GoodPhase z (phase_of z t) → GoodTurn z t
        → called a room (st.calls c) ≡ calls_of (with_phase (phase_of z t) mine) t → st.returns c ≡ returns_of z t
        → put_by t (s.c.written c) ≡ put_by (s.c.turn c) (s.c.written c) → raised_to t (s.c.reading c) ≡ raised_to (s.c.turn c) (s.c.reading c)
        → Next z honest s (record { c = turned s.c c t; d = s.d; n = with_to_client s.n q; p = p; h = mark z c turns (heard z c i message false st.history) })
        → Follows z honest s ev (told z c i message tc turns st)
    unfolding turns
    turns_follows goes unsaid sane phase turn calls returns put raised next =
        let w = o.client c l in
        let h = mark z c turns (heard z c i message false st.history) in
        rw goes
        (record {
          model = record { c = turned s.c c t; d = s.d; n = with_to_client s.n q; p = p; h = h };
          step = next;
          shows =
              goes-shows z honest st s o c l turns st.returns tc h (turned s.c c t) (with_to_client s.n q) p
              (own_turned z s.c c w.good t _ _ phase turn calls returns)
              (λ j ne lj. others_turned z (st.clients j) (st.calls j) (st.returns j) s.c c j ne (o.client j lj) t)
              (rows-turned s c t (with_to_client s.n q) p h put raised)
              refl
              (λ k b lo up. unsent z turns k (st.to_node c k) (s.n.to_node c k) (unsaid k) (o.to_node c k l b lo up))
              (λ j k ne. refl) shown liars;
          sane = sane;
        })

  module _ (p : Passed z) (inv : Invariant z honest s) (lo : 1 ≤ i) (up : i ≤ z.n) (room out : List ℕ) where
    -- the event follows where it does this step on the record
    abbrev Goes : Step → Type 0
    Goes e = Follows z honest s ev (told z c i message tc (after z (st.clients c) room out [] e) st)

    -- ---- acknowledgements

    module _ (v : Version) (bytes : List ℕ) (a : ℕ) (e : s.c.turn c ≡ Turn.storing v bytes a) (comes : Comes honest s.n i c (ToClient.stored v) q)
        (new : stands a i ≡ false) where
      good_storing : GoodPhase z (phase_of z (Turn.storing v bytes a))
      good_storing = rw e at (o.client c l).good.phase

      own_storing : Storing z s.p s.c c v bytes a
      own_storing = rw e at (inv.owned.own c l)

      counted-few : count (with_node a i) < z.t + z.k → Goes (acknowledge z mine room out v (with_node a i) (digests_of z v bytes))
      unfolding turns pointer_of
      counted-few few =
          let w = o.client c l in
          let g = good_storing in
          let t = Turn.storing v bytes (with_node a i) in
          rw (lt-ltb (count (with_node a i)) (z.t + z.k) few)
          (turns_follows t waits room out s.p refl (λ j. refl) (sane_quiet ev (by_client waits) refl)
          (g.0, g.1, with_below a i z.n lo up g.2, few, g.4, g.5) tt
          (w.calls ∙ ap (calls_of mine) e) (w.returns ∙ ap (returns_of z) e) (rw e refl) (rw e refl)
          (Next.added i c v bytes a q _ (quiet (turns t waits room out s.p) refl) l lo up e comes new few))

      counted-enough : (count (with_node a i) < z.t + z.k → ⊥) → Goes (acknowledge z mine room out v (with_node a i) (digests_of z v bytes))
      unfolding turns pointer_of
      counted-enough many =
          let w = o.client c l in
          let g = good_storing in
          let u = own_storing in
          let x = pointed z v bytes (with_node a i) in
          let b = write_record (deposit_fields mine x) in
          let t = Turn.updating x in
          let enough : count (with_node a i) ≡ z.t + z.k = omega (arith, count_with a i lo (omega (arith, p.nodes.1)) new, g.3) in
          let r = lay b room in
          rw (le-ltb (count (with_node a i)) (z.t + z.k) (omega arith))
          (turns_follows t (update (length b)) r out (pointed_by s.p (num v) x) refl (λ j. refl) (sane_quiet ev (by_client (update (length b))) refl) (
            pointed_good z p v (with_node a i) u.sequence.0 u.sequence.1 (rw u.client l) (with_below a i z.n lo up g.2) enough bytes,
            ver_some x (omega (arith, u.sequence)),
          ) tt
          (ap (λ (k : List Call). k ++ (update_call (take (length b) r) ∷ [])) (w.calls ∙ ap (calls_of mine) e)
          ∙ ap (λ (k : List ℕ). update_call k ∷ []) (take-append_seam b (drop (length b) room)))
          (w.returns ∙ ap (returns_of z) e) (rw e refl) (rw e refl)
          (Next.formed i c v bytes a q _ (quiet (turns t (update (length b)) r out (pointed_by s.p (num v) x)) refl) l lo up e comes new enough))

      counted_in : Dec (count (with_node a i) < z.t + z.k) → Goes (acknowledge z mine room out v (with_node a i) (digests_of z v bytes))
      counted_in (yes few) = counted-few few
      counted_in (no many) = counted-enough many

    -- an acknowledgement counts if it is of the version that is being stored, and the node's first
    stored_follows : (v : Version) (t : Turn) → s.c.turn c ≡ t → Comes honest s.n i c (ToClient.stored v) q
        → Goes (stored_at z i mine room out v (phase_of z t))
    stored_follows v Turn.idle e comes = passed_over (ToClient.stored v) comes room out
    stored_follows v (Turn.scanning bytes) e comes = passed_over (ToClient.stored v) comes room out
    stored_follows v (Turn.scanned bytes a) e comes = passed_over (ToClient.stored v) comes room out
    stored_follows v (Turn.storing w bytes a) e comes = go (same_version v w) refl (stands a i) refl
      where
        go : (b : Bool) → same_version v w ≡ b → (d : Bool) → stands a i ≡ d
            → Goes (cond (b && not d) (acknowledge z mine room out w (with_node a i) (digests_of z w bytes)) (Step.stays waits))
        go false f d g = passed_over (ToClient.stored v) comes room out
        go true f true g = passed_over (ToClient.stored v) comes room out
        go true f false g =
            counted_in w bytes a e (subst (λ (x : Version). Comes honest s.n i c (ToClient.stored x) q) (same_eq v w f) comes) g
            (dec_lt (count (with_node a i)) (z.t + z.k))
    stored_follows v (Turn.updating x) e comes = passed_over (ToClient.stored v) comes room out
    stored_follows v (Turn.updated x) e comes = passed_over (ToClient.stored v) comes room out
    stored_follows v (Turn.freezing x) e comes = passed_over (ToClient.stored v) comes room out
    stored_follows v (Turn.noticing x a) e comes = passed_over (ToClient.stored v) comes room out
    stored_follows v Turn.raising e comes = passed_over (ToClient.stored v) comes room out
    stored_follows v Turn.raised e comes = passed_over (ToClient.stored v) comes room out
    stored_follows v Turn.picking e comes = passed_over (ToClient.stored v) comes room out
    stored_follows v (Turn.picked a) e comes = passed_over (ToClient.stored v) comes room out
    stored_follows v (Turn.fetching x n m ps) e comes = passed_over (ToClient.stored v) comes room out

    -- ---- replies

    module _ (few : dishonest honest z.n ≤ z.t) (long : z.k * z.f - 4 ≤ length out) (b : Bool) (differ : DigestsDiffer z (heard z c i message b s.h))
        (x : Pointer) (n m : ℕ) (ps : List (List ℕ)) (e : s.c.turn c ≡ Turn.fetching x n m ps)
        (named : stands x.named.nodes i ≡ true) (new : stands n i ≡ false) where
      good_fetching : GoodPhase z (phase_of z (Turn.fetching x n m ps))
      good_fetching = rw e at (o.client c l).good.phase

      fetched : Fetched z honest s.p x n m ps
      fetched = rw e at (inv.fetching c l)

      pick : Picked z s x
      pick = let u = rw e at (inv.owned.own c l) in known_picked z p s inv.drawing x u.1 u.2 u.3

      -- not every named node is counted while fewer than k pieces match
      uncounted : (d : ℕ) → d < 2 ^ z.n → count d < z.k
          → ((j : ℕ) → honest j ≡ true → 1 ≤ j → j ≤ z.n → stands (with_node n i) j ≡ true → stands d j ≡ true)
          → all_counted x (with_node n i) ≡ true → ⊥
      uncounted d bits less f all =
          omega (
            arith,
            enough_match z p honest few x.named.nodes d pick.within bits pick.enough
                (λ j a b h t. f j a b h (all-counted x (with_node n i) j all b (omega (arith, p.nodes.1)) t)),
          )

      -- the reading goes on
      going : (d : ℕ) (ds : List (List ℕ)) → d < 2 ^ z.n → count d < z.k → Each (ShortPiece z) ds → length ds ≡ z.n
          → ((j : ℕ) → honest j ≡ true → 1 ≤ j → j ≤ z.n → stands (with_node n i) j ≡ true → stands d j ≡ true)
          → ((h : History) → Quiet s.h h → Next z honest s
          (record { c = turned s.c c (Turn.fetching x (with_node n i) d ds); d = s.d; n = with_to_client s.n q; p = s.p; h = h }))
          → Goes (go_on mine room out x (with_node n i) d ds)
      unfolding turns
      going d ds bits less short many f next = go (all_counted x (with_node n i)) refl
        where
          t : Turn
          t = Turn.fetching x (with_node n i) d ds

          go : (b : Bool) → all_counted x (with_node n i) ≡ b
              → Goes (cond b (Step.does failed (with_phase Phase.idle mine) room out) (Step.does waits (with_phase (phase_of z t) mine) room out))
          go true h = absurd (uncounted d bits less f h)
          go false h =
              let w = o.client c l in
              let g = good_fetching in
              let fits : n < 2 ^ 16 = omega (arith, g.2) in
              let fit : with_node n i < 256 ^ 2 = omega (arith, with_below n i 16 lo (omega (arith, p.nodes.1)) fits) in
              turns_follows t waits room out s.p refl (λ j. refl) (sane_quiet ev (by_client waits) refl)
              (g.0, g.1, fit, bits, less, short, many) tt
              (w.calls ∙ ap (calls_of mine) e) (w.returns ∙ ap (returns_of z) e) (rw e refl) (rw e refl)
              (next _ (quiet (turns t waits room out s.p) refl))

      -- a reply of a dishonest node that does not match
      missed : honest i ≡ false → (y : ToClient) → Comes honest s.n i c y q
          → Goes (go_on mine room out x (with_node n i) m ps)
      missed b y comes =
          let g = good_fetching in
          going m ps fetched.within.0 fetched.few g.5 g.6
          (λ j a u v h. fetched.matching j a u v
          (sym (stands_with n i j lo u ∙ ap (λ (d : Bool). d || stands n j) (ne_eqb j i (λ r. true≢false (sym a ∙ ap honest r ∙ b)))) ∙ h))
          (λ h r. Next.missed i c x n m ps y q h r l lo up e comes b named new)

      -- a piece that matches is the deposit's, by the premise on digests
      module _ (y : List ℕ) (reads : read_to_client z message ≡ some (ToClient.reply x.version y)) (same : matches z x i y ≡ true) where
        its_piece : y ≡ piece z.k (s.p.pages (ver x)) i
        its_piece =
            let d = inv.recording.deposited (ver x) pick.drawn in
            let r : Reply = record { client = c; node = i; version = x.version; piece = y; time = s.h.time; refused = b } in
            let a : Member r (replying c i s.h.time b (read_to_client z message) s.h.replied) = rw reads (member_last r s.h.replied) in
            matched_own z p s x pick i lo up named (heard z c i message b s.h) (record { begun = d.begun; page = d.page; version = d.version })
            differ y (StringOf.came r a lo up refl) same

      -- the pieces with one more
      module _ (y : List ℕ) (its : y ≡ piece z.k (s.p.pages (ver x)) i) where
        short-pieces : Each (ShortPiece z) (set ps (i - 1) y)
        short-pieces =
            each_set (ShortPiece z) ps (i - 1) y
            (subst (ShortPiece z) (sym its) (piece_bytes z.k (s.p.pages (ver x)) i, piece-short z p (s.p.pages (ver x)) pick.long i))
            good_fetching.5

        many-pieces : length (set ps (i - 1) y) ≡ z.n
        many-pieces = length-set ps (i - 1) y ∙ good_fetching.6

        bits : with_node m i < 2 ^ z.n
        bits = with_below m i z.n lo up fetched.within.0

        its_pieces : (j : ℕ) → 1 ≤ j → j ≤ z.n → stands (with_node m i) j ≡ true → get_or (set ps (i - 1) y) (j - 1) [] ≡ piece z.k (s.p.pages (ver x)) j
        its_pieces j a b h =
            by_eq j i
            (λ f r. rw r (get_or-set_same ps (i - 1) y [] (omega (arith, fetched.many)) ∙ its))
            (λ f r.
            get_or-set_other ps (i - 1) (j - 1) y [] (λ w. r (omega arith))
            ∙ fetched.pieces j a b (sym (stands_with m i j lo a ∙ ap (λ (d : Bool). d || stands m j) f) ∙ h))

        -- one of fewer than k
        matched : count (with_node m i) < z.k → Comes honest s.n i c (ToClient.reply x.version y) q
            → Goes (go_on mine room out x (with_node n i) (with_node m i) (set ps (i - 1) y))
        matched less comes =
            going (with_node m i) (set ps (i - 1) y) bits less short-pieces many-pieces
            (λ j a u v h.
            stands_with m i j lo u
            ∙ by_eq j i (λ f r. rw f refl)
            (λ f r. rw f (fetched.matching j a u v (sym (stands_with n i j lo u ∙ ap (λ (d : Bool). d || stands n j) f) ∙ h))))
            (λ h r. Next.matched i c x n m ps y q h r l lo up e comes named new its less)

        -- the k-th
        ended : z.k ≤ count (with_node m i) → (a : ToClient) → Comes honest s.n i c a q
            → Goes (ends mine room x.version
            (join z.n z.k z.f (with_node m i) (areas z (set ps (i - 1) y)) (lengths (set ps (i - 1) y)) out))
        unfolding turns
        ended enough a comes =
            let w = o.client c l in
            let b = s.p.pages (ver x) in
            let u = b ++ drop (length b) out in
            let t = turns Turn.idle (page x.version (length b)) room u s.p in
            rw (joined-reading z p b pick.bytes pick.long (with_node m i) (set ps (i - 1) y) bits short-pieces many-pieces enough its_pieces out long)
            (turns_follows Turn.idle (page x.version (length b)) room u s.p refl (λ j. refl)
            (sane_quiet ev (by_client (page x.version (length b))) refl) tt tt
            (w.calls ∙ ap (calls_of mine) e) (w.returns ∙ ap (returns_of z) e) (rw e refl) (rw e refl)
            (Next.ended i c x n m ps a q _
            (subst (λ (h : History). Marked h (mark z c t (heard z c i message false st.history)) c (λ k. ending h.time (giving b k)))
            o.history (given-mark z c i message t x.version b (drop (length b) out) st.history refl refl)) l e comes))

      -- a reply that counts
      counted_follows : (y : Option (List ℕ)) → read_to_client z message ≡ some (answer x.version y) → Comes honest s.n i c (answer x.version y) q
          → (honest i ≡ true → Truthful z s i c (answer x.version y))
          → Goes (counted z i mine room out x (with_node n i) m ps y)
      counted_follows none reads comes truth = go (honest i) refl
        where
          -- an honest node holds what a reading may ask for
          go : (b : Bool) → honest i ≡ b → Goes (go_on mine room out x (with_node n i) m ps)
          go true h = absurd ((truth h).2 (safe_keeps z s.c x.version.client c (s.c.reading c) x.version l (rw e at (inv.retaining c l))))
          go false h = missed h (ToClient.missing x.version) comes
      counted_follows (some y) reads comes truth = go (matches z x i y) refl (honest i) refl (dec_lt (count (with_node m i)) z.k)
        where
          go : (b : Bool) → matches z x i y ≡ b → (d : Bool) → honest i ≡ d → Dec (count (with_node m i) < z.k)
              → Goes (cond b
              (cond (ltb (count (with_node m i)) z.k) (go_on mine room out x (with_node n i) (with_node m i) (set ps (i - 1) y))
              (ends mine room x.version (join z.n z.k z.f (with_node m i) (areas z (set ps (i - 1) y)) (lengths (set ps (i - 1) y)) out)))
              (go_on mine room out x (with_node n i) m ps))
          go true f d h (yes less) =
              rw (lt-ltb (count (with_node m i)) z.k less) (matched y (its_piece y reads f) less comes)
          go true f d h (no many) =
              rw (le-ltb (count (with_node m i)) z.k (omega arith)) (ended y (its_piece y reads f) (omega arith) (ToClient.reply x.version y) comes)
          go false f false h t = missed h (ToClient.reply x.version y) comes
          -- an honest node's piece matches
          go false f true h t =
              absurd (false≢true (sym f ∙ own_matched z p s x pick i lo up named y (truth h).1))

    -- a reply counts if it is the first of a named node with the version that is asked for
    module _ (few : dishonest honest z.n ≤ z.t) (long : z.k * z.f - 4 ≤ length out) (b : Bool) (differ : DigestsDiffer z (heard z c i message b s.h)) where
      replied_follows : (v : Version) (y : Option (List ℕ)) → read_to_client z message ≡ some (answer v y) → Comes honest s.n i c (answer v y) q
          → (honest i ≡ true → Truthful z s i c (answer v y)) → (t : Turn) → s.c.turn c ≡ t
          → Goes (replied_at z i mine room out v y (phase_of z t))
      replied_follows v y reads comes truth Turn.idle e = passed_over (answer v y) comes room out
      replied_follows v y reads comes truth (Turn.scanning bytes) e = passed_over (answer v y) comes room out
      replied_follows v y reads comes truth (Turn.scanned bytes a) e = passed_over (answer v y) comes room out
      replied_follows v y reads comes truth (Turn.storing w bytes a) e = passed_over (answer v y) comes room out
      replied_follows v y reads comes truth (Turn.updating x) e = passed_over (answer v y) comes room out
      replied_follows v y reads comes truth (Turn.updated x) e = passed_over (answer v y) comes room out
      replied_follows v y reads comes truth (Turn.freezing x) e = passed_over (answer v y) comes room out
      replied_follows v y reads comes truth (Turn.noticing x a) e = passed_over (answer v y) comes room out
      replied_follows v y reads comes truth Turn.raising e = passed_over (answer v y) comes room out
      replied_follows v y reads comes truth Turn.raised e = passed_over (answer v y) comes room out
      replied_follows v y reads comes truth Turn.picking e = passed_over (answer v y) comes room out
      replied_follows v y reads comes truth (Turn.picked a) e = passed_over (answer v y) comes room out
      replied_follows v y reads comes truth (Turn.fetching x n m ps) e =
          go (same_version v x.version) refl (stands x.named.nodes i) refl (stands n i) refl
        where
          go : (a : Bool) → same_version v x.version ≡ a → (b : Bool) → stands x.named.nodes i ≡ b → (d : Bool) → stands n i ≡ d
              → Goes (cond (a && (b && not d)) (counted z i mine room out x (with_node n i) m ps y) (Step.stays waits))
          go false f b g d h = passed_over (answer v y) comes room out
          go true f false g d h = passed_over (answer v y) comes room out
          go true f true g true h = passed_over (answer v y) comes room out
          go true f true g false h =
              let w = same_eq v x.version f in
              counted_follows few long b differ x n m ps e g h y (subst (λ (u : Version). read_to_client z message ≡ some (answer u y)) w reads)
              (subst (λ (u : Version). Comes honest s.n i c (answer u y) q) w comes)
              (subst (λ (u : Version). honest i ≡ true → Truthful z s i c (answer u y)) w truth)

      message_follows : (m : ToClient) → read_to_client z message ≡ some m → Comes honest s.n i c m q → (honest i ≡ true → Truthful z s i c m)
          → Goes (message_at z i mine room out m)
      message_follows (ToClient.stored v) reads comes truth = stored_follows v (s.c.turn c) refl comes
      message_follows ToClient.freed reads comes truth = passed_over ToClient.freed comes room out
      message_follows (ToClient.reply v y) reads comes truth = replied_follows v (some y) reads comes truth (s.c.turn c) refl
      message_follows (ToClient.missing v) reads comes truth = replied_follows v none reads comes truth (s.c.turn c) refl

-- ---- the same on bytes

-- what is looked at before the message: the slices' lengths and the numbers
abbrev enough : Measures → List ℕ → List ℕ → List ℕ → Bool
enough z client room out = leb (client_size z) (length client) && (leb (room_size z) (length room) && leb (z.k * z.f - 4) (length out))

abbrev within : Measures → ℕ → ℕ → Bool
within z c i = ltb c z.m && (leb 1 i && leb i z.n)

numbers : (z : Measures) (c i : ℕ) → within z c i ≡ true → (c < z.m) × (1 ≤ i) × (i ≤ z.n)
numbers z c i e =
    let a = and-true (ltb c z.m) _ e in
    let b = and-true (leb 1 i) _ a.1 in
    (ltb-true c z.m a.0, leb-true 1 i b.0, leb-true i z.n b.1)

module _ (z : Measures) (honest : ℕ → Bool) (passed : passes z ≡ true) (few : dishonest honest z.n ≤ z.t)
    (st : State) (s : Model) (o : Shows z honest st s) (inv : Invariant z honest s) (ev : Event) (i c : ℕ) (message room out : List ℕ) where
  -- what is refused
  told-refused : (tc : ℕ → ℕ → List (List ℕ)) (e : ClientEnd) (n : ℕ) → e.answer ≡ refused n → Sane ev (by_client (refused n))
      → Follows z honest s ev (told z c i message tc e st)
  told-refused tc e n q sane =
      rw q (stays_follows z honest st s o ev (by_client (refused n)) (tick (heard z c i message true st.history)) (quiet_heard z c i message st.history) sane)

  -- measures, slices and numbers come before the message
  guarded_follows : (tc : ℕ → ℕ → List (List ℕ)) (a b : Bool) → enough z (st.clients c) room out ≡ a → within z c i ≡ b
      → (enough z (st.clients c) room out ≡ true → within z c i ≡ true
      → Follows z honest s ev (told z c i message tc (client_message z c i (st.clients c) message room out) st))
      → Follows z honest s ev (told z c i message tc (client_message z c i (st.clients c) message room out) st)
  unfolding client_message
  guarded_follows tc false b e f inside =
      rw (passed, e)
      (told-refused tc (unchanged (refused 2) (st.clients c) room out) 2 refl
      (sane_number ev (by_client (refused 2)) 2 refl refl))
  guarded_follows tc true false e f inside =
      rw (passed, e, f)
      (told-refused tc (unchanged (refused 3) (st.clients c) room out) 3 refl
      (sane_number ev (by_client (refused 3)) 3 refl refl))
  guarded_follows tc true true e f inside = inside e f

  -- what the event does where its record reads
  opened : enough z (st.clients c) room out ≡ true → within z c i ≡ true → (r : Option ToClient) → read_to_client z message ≡ r
      → client_message z c i (st.clients c) message room out
      ≡ after z (st.clients c) room out [] (on_message r (λ m. message_at z i (client_at z s.c c) room out m))
  unfolding client_message
  opened e f r q =
      simp (passed, e, f)
      (ap (λ r. on_client z (st.clients c) room out r (λ x. on_message (read_to_client z message) (λ m. message_at z i x room out m)))
      (record_reads z honest st s o passed c (numbers z c i f).0))
      ∙ ap (λ r. after z (st.clients c) room out [] (on_message r (λ m. message_at z i (client_at z s.c c) room out m))) q

  -- a message that reads
  comes_follows : (m : ToClient) (q : ℕ → ℕ → List ToClient) (tc : ℕ → ℕ → List (List ℕ)) → read_to_client z message ≡ some m
      → Comes honest s.n i c m q → (honest i ≡ true → Truthful z s i c m)
      → ((j d : ℕ) → honest j ≡ true → 1 ≤ j → j ≤ z.n → d < z.m → ToClientShows z (tc j d) (q j d))
      → ((j d : ℕ) → honest j ≡ false → tc j d ≡ [])
      → enough z (st.clients c) room out ≡ true → within z c i ≡ true
      → DigestsDiffer z (told z c i message tc (client_message z c i (st.clients c) message room out) st).state.history
      → Follows z honest s ev (told z c i message tc (client_message z c i (st.clients c) message room out) st)
  comes_follows m q tc reads comes truth shown liars e f differ =
      let x = client_at z s.c c in
      let y = message_at z i x room out m in
      let eq : client_message z c i (st.clients c) message room out ≡ after z (st.clients c) room out [] y = opened e f (some m) reads in
      let a = numbers z c i f in
      let long = (and-true (leb (room_size z) (length room)) _ (and-true (leb (client_size z) (length (st.clients c))) _ e).1).1 in
      let f' = is_refused (after z (st.clients c) room out [] y).answer in
      let d : DigestsDiffer z (heard z c i message f' st.history) =
      told-differ z c i message tc st (after z (st.clients c) room out [] y) (after_leaves z (st.clients c) room out [] y (message_leaves z i x room out m))
      (subst (λ (w : ClientEnd). DigestsDiffer z (told z c i message tc w st).state.history) eq differ)
      in
      subst (λ (w : ClientEnd). Follows z honest s ev (told z c i message tc w st)) (sym eq)
      (message_follows z honest st s o ev c a.0 i message q tc shown liars (measures z passed) inv a.1 a.2
      room out few (leb-true (z.k * z.f - 4) (length out) long) f'
      (subst (λ (h : History). DigestsDiffer z (heard z c i message f' h)) o.history d) m reads comes truth)

-- ---- the events

-- a refusal with 4 is with no other number
four-alone : (n : ℕ) → 4 < n → ◌≡◌ {A = Option ℕ} (some 4) (some n) → ⊥
four-alone n l e = let q : 4 ≡ n = some_eq e in omega arith

module _ (z : Measures) (honest : ℕ → Bool) (passed : passes z ≡ true) (few : dishonest honest z.n ≤ z.t)
    (st : State) (s : Model) (o : Shows z honest st s) (inv : Invariant z honest s) (i c : ℕ) where
  -- the queues when the oldest message of an honest node is gone
  popped_shows : honest i ≡ true → (b : List (List ℕ)) (y : ToClient) (ys : List ToClient) → s.n.to_client i c ≡ y ∷ ys
      → 1 ≤ i → i ≤ z.n → c < z.m → b ≡ map write_to_client ys
      → (j d : ℕ) → honest j ≡ true → 1 ≤ j → j ≤ z.n → d < z.m → ToClientShows z (upd₂ st.to_client i c b j d) (upd₂ s.n.to_client i c ys j d)
  popped_shows h b y ys e lo up l q j d a u v w =
      by_eq j i
      (λ f g.
      rw f
      (by_eq d c
      (λ f g. rw f (record { bytes = q; good = (rw e at (o.to_client i c h lo up l).good).1 }))
      (λ f g. rw f (o.to_client i d h lo up w))))
      (λ f g. rw f (o.to_client j d a u v w))

  popped_liars : honest i ≡ true → (b : List (List ℕ)) (j d : ℕ) → honest j ≡ false → upd₂ st.to_client i c b j d ≡ []
  popped_liars h b j d f =
      by_eq j i (λ g e. absurd (true≢false (sym h ∙ ap honest (sym e) ∙ f))) (λ g e. rw g (o.liars j d f))

  module _ (room out : List ℕ) where
    -- the oldest message of an honest node
    oldest_follows : (b : List ℕ) (r : List (List ℕ)) → st.to_client i c ≡ b ∷ r
        → enough z (st.clients c) room out ≡ true → within z c i ≡ true
        → DigestsDiffer z (delivered z i c room out (b ∷ r) st).state.history
        → Follows z honest s (deliver i c room out) (delivered z i c room out (b ∷ r) st)
    oldest_follows b r e f g differ = go (honest i) refl (s.n.to_client i c) refl
      where
        ev : Event
        ev = deliver i c room out

        go : (a : Bool) → honest i ≡ a → (ys : List ToClient) → s.n.to_client i c ≡ ys → Follows z honest s ev (delivered z i c room out (b ∷ r) st)
        go false a ys h = absurd (cons≢nil (sym e ∙ o.liars i c a))
        go true a [] h =
            let t = numbers z c i g in absurd (cons≢nil (sym e ∙ (o.to_client i c a t.1 t.2 t.0).bytes ∙ ap (map write_to_client) h))
        go true a (y ∷ ys) h =
            let t = numbers z c i g in
            let w = o.to_client i c a t.1 t.2 t.0 in
            let q : b ∷ r ≡ write_to_client y ∷ map write_to_client ys = sym e ∙ w.bytes ∙ ap (map write_to_client) h in
            comes_follows z honest passed few st s o inv ev i c b room out y (upd₂ s.n.to_client i c ys) (upd₂ st.to_client i c r)
            (ap (read_to_client z) (head-eq_of_cons-eq q) ∙ (message_to_client z).back y (rw h at w.good).0)
            (Comes.oldest ys a h) (λ k. (rw h at (inv.arriving.messages i c a t.1 t.2 t.0)).0)
            (popped_shows a r y ys h t.1 t.2 t.0 (tail-eq_of_cons-eq q)) (popped_liars a r) f g differ

    pub deliver_follows : DigestsDiffer z (carry_out z honest (deliver i c room out) st).state.history
        → Follows z honest s (deliver i c room out) (carry_out z honest (deliver i c room out) st)
    unfolding carry_out
    deliver_follows = go (st.to_client i c) refl
      where
        ev : Event
        ev = deliver i c room out

        go : (q : List (List ℕ)) → st.to_client i c ≡ q → DigestsDiffer z (delivered z i c room out q st).state.history
            → Follows z honest s (deliver i c room out) (delivered z i c room out q st)
        go [] e d =
            silent_follows z honest st s o ev
        go (b ∷ r) e d =
            guarded_follows z honest passed few st s o inv ev i c b room out (upd₂ st.to_client i c r)
            (enough z (st.clients c) room out) (within z c i) refl refl
            (λ f g. oldest_follows b r e f g d)

  module _ (bytes room out : List ℕ) where
    -- bytes of a dishonest node
    lied_follows : honest i ≡ false → enough z (st.clients c) room out ≡ true → within z c i ≡ true
        → (m : Option ToClient) → read_to_client z bytes ≡ m
        → DigestsDiffer z (told z c i bytes st.to_client (client_message z c i (st.clients c) bytes room out) st).state.history
        → Follows z honest s (lie i c bytes room out) (told z c i bytes st.to_client (client_message z c i (st.clients c) bytes room out) st)
    lied_follows h f g none reads differ =
        let ev = lie i c bytes room out in
        told-refused z honest passed few st s o inv ev i c bytes room out st.to_client (client_message z c i (st.clients c) bytes room out) 4
        (ap (λ (e : ClientEnd). e.answer) (opened z honest passed few st s o inv ev i c bytes room out f g none reads))
        (record {
          room = four-alone 8 (omega arith);
          matching = four-alone 9 (omega arith);
          form = λ e. tt;
          lengths = four-alone 11 (omega arith);
          rules = four-alone 12 (omega arith);
          owners = four-alone 14 (omega arith);
        })
    lied_follows h f g (some m) reads differ =
        comes_follows z honest passed few st s o inv (lie i c bytes room out) i c bytes room out m s.n.to_client st.to_client reads (Comes.lied h)
        (λ t. absurd (true≢false (sym t ∙ h))) o.to_client o.liars f g differ

    pub lie_follows : DigestsDiffer z (carry_out z honest (lie i c bytes room out) st).state.history
        → Follows z honest s (lie i c bytes room out) (carry_out z honest (lie i c bytes room out) st)
    unfolding carry_out
    lie_follows = go (honest i) refl
      where
        ev : Event
        ev = lie i c bytes room out

        end : Result
        end = told z c i bytes st.to_client (client_message z c i (st.clients c) bytes room out) st

        go : (b : Bool) → honest i ≡ b → DigestsDiffer z (cond b (stays Answered.nothing (tick st.history) st) end).state.history
            → Follows z honest s ev (cond b (stays Answered.nothing (tick st.history) st) end)
        go true h d =
            silent_follows z honest st s o ev
        go false h d =
            guarded_follows z honest passed few st s o inv ev i c bytes room out st.to_client
            (enough z (st.clients c) room out) (within z c i) refl refl
            (λ f g. lied_follows h f g (read_to_client z bytes) refl d)
