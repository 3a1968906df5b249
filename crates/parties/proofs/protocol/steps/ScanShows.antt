-- The answers of a deposit's second scan and of a reading's scan are steps of the model.
use mathlib.Core.Path.{◌≡◌, refl, sym, ap, subst, ◌∙◌}
use mathlib.Core.Bool.{Bool, true, false, cond, ◌&&◌, ◌||◌, true≢false, or-true}
use mathlib.Core.List.{List, [], ◌∷◌, ◌++◌, append-nil}
use mathlib.Core.Option.{Option, some}
use Prim.Native.Nat.{ℕ, ◌+◌, ◌^◌, ◌≤◌, ◌<◌}
use native.Mathlib.Omega.{arith}
use native.Mathlib.Decide.{dec_le}
use borrow.Author.Tests.{eq-eqb, ne_eqb, le-leb, lt-ltb}
use lib.Dec.{leb, ltb, eqb}
use lib.Seq.{take-append_seam, take_at}
use lib.ListN.{length, drop, replicate}
use Rattle.coding.proofs.BytesLaws.{length-tabulate}
use Rattle.coding.proofs.Cases.{and-true}
use Rattle.parties.specs.declared.Measures.{Measures}
use Rattle.parties.specs.declared.ReadingIndex.{ReadingIndex}
use Rattle.parties.specs.declared.Version.{Version}
use Rattle.parties.specs.protocol.Measures.{passes}
use Rattle.parties.specs.protocol.Version.{no_version}
use Rattle.parties.specs.protocol.Nodes.{nodes_in, stands}
use Rattle.parties.specs.protocol.Pointer.{Pointer, none_pointer, is_none, proper_pointer}
use Rattle.parties.specs.protocol.Directory.{write_directory}
use Rattle.parties.specs.protocol.Message.{ToNode, write_to_node}
use Rattle.parties.specs.protocol.Client.{Phase, Client, read_client, write_client, proper_reserved}
use Rattle.parties.specs.protocol.Deposit.{still_retained, frozen_after, replaced, freed}
use Rattle.parties.specs.protocol.Reading.{pick}
use Rattle.parties.specs.protocol.Answer.{deposited, empty, requests}
use Rattle.parties.specs.protocol.ClientEvents.{ClientEnd, scanned_at, fetch, after, lay, room_size, scan_answer, with_phase}
use Rattle.parties.specs.protocol.Run.{History, State, hand, by_client, pointer_in, mark, returned, sends, sent_to, upd}
use Rattle.parties.proofs.protocol.model.Cells.{by_eq, chosen}
use Rattle.parties.proofs.protocol.formats.EachLaws.{each_chosen, each-tabulate, tabulate-each}
use Rattle.parties.proofs.protocol.formats.MeasureLaws.{Passed, passed as measures}
use Rattle.parties.proofs.protocol.formats.PointerLaws.{GoodPointer, length-version}
use Rattle.parties.proofs.protocol.formats.DirectoryLaws.{GoodIndex}
use Rattle.parties.proofs.protocol.formats.MessageLaws.{GoodNamedVersion, GoodToNode}
use Rattle.parties.proofs.protocol.formats.ClientLaws.{GoodPhase, GoodReserved, GoodClient, client-back}
use Rattle.parties.proofs.protocol.model.Model.{num, ver, Rows, Turn, Clients, Nodes, Past, Model, Next, Marked, Replaced, Frees, Picks, rows_of}
use Rattle.parties.proofs.protocol.model.Model.{shown_written, shown_reading, offer, notices, turned, frozen_by, sent, choosing}
use Rattle.parties.proofs.protocol.invariants.Invariants.{Known, KnownVersion, KnownRows, Own, Drawing}
use Rattle.parties.proofs.protocol.model.PastLaws.{pointer-version, known_offer}
use Rattle.parties.proofs.protocol.invariants.Invariant.{Invariant}
use Rattle.parties.proofs.protocol.steps.View.{Shows, Follows, ClientShows, ToNodeShows, GoodTurn, GoodRows, phase_of, client_at, rows_at, calls_of}
use Rattle.parties.proofs.protocol.steps.ViewLaws.{sane_quiet, rows_own, own_turned, others_frozen, rows-turned, goes-shows, unsent}
use Rattle.parties.proofs.protocol.steps.GoodLaws.{ver_some, known_good, asking_good}
use Rattle.parties.proofs.protocol.events.FreeLaws.{each-listed, free-ascending, frozen-after, frees}
use Rattle.parties.proofs.protocol.events.PickLaws.{Told, picks}
use Rattle.parties.proofs.protocol.events.HandLaws.{sent-shows, others_answered, scan-opened, scan-refused}

-- ---- forms

-- a version known and not none may be named
pub known_named : (z : Measures) → Passed z → (s : Model) → Drawing z s → (w : ℕ) → w < z.m → (v : Version) → KnownVersion s.p w v → (v ≡ no_version → ⊥)
    → GoodNamedVersion z v
known_named z ok s dr w l v (KnownVersion.absent e) n = absurd (n e)
known_named z ok s dr w l v (KnownVersion.drawn d e h) n =
    let q : v.client < 256 = omega (arith, ok.clients.1) in
    let one : 1 ≤ v.sequence.0 = omega arith in
    ((omega (arith, (dr (num v) d).sequence), q), simp (le-leb 1 v.sequence.0 one, lt-ltb v.client z.m (rw e l)))

-- a pointer's version may be reserved
pointer-reserved : (z : Measures) (x : Pointer) → GoodPointer z x → GoodReserved z x.version
unfolding proper_pointer
pointer-reserved z x g = (g.0.0, go (is_none x) refl g.1)
  where
    go : (b : Bool) → is_none x ≡ b
        → (b || (leb 1 x.version.sequence.0 && (ltb x.version.client z.m
        && (eqb (length (nodes_in x.named.nodes)) (z.t + z.k) && ltb x.named.nodes (2 ^ z.n))))) ≡ true
        → proper_reserved z x.version ≡ true
    go true e h =
        let p = and-true (eqb x.version.sequence.0 0) _ e in
        let q = and-true (eqb x.version.client 255) _ p.1 in
        simp (p.0, q.0)
    go false e h =
        let p = and-true (leb 1 x.version.sequence.0) _ h in
        let q = and-true (ltb x.version.client z.m) _ p.1 in
        rw (p.0, q.0) (or-true (eqb x.version.sequence.0 0 && eqb x.version.client 255))

-- ---- the answer of a deposit's second scan

module _ (z : Measures) (honest : ℕ → Bool) (passed : passes z ≡ true) (st : State) (s : Model) (o : Shows z honest st s) (inv : Invariant z honest s)
    (c : ℕ) (x : Pointer) (a : Rows) (l : c < z.m) (e : s.c.turn c ≡ Turn.noticing x a) (room : List ℕ) where
  abbrev own : Client
  own = client_at z s.c c

  abbrev next : Clients
  next = frozen_by s.c c x a

  -- the free list and its message
  list : List Version
  list = freed z c own (rows_at z a) x

  abbrev message : List ℕ
  message = write_to_node (ToNode.free list)

  list_frees : Frees z s.c a c x list
  unfolding list
  list_frees = frees z s.c a c x

  list-named : (v : Version) → Replaced z s.c a c v → (v ≡ no_version → ⊥) → GoodNamedVersion z v
  list-named v r n = known_named z (measures z passed) s inv.drawing c l v (go r) n
    where
      go : Replaced z s.c a c v → KnownVersion s.p c v
      go (Replaced.previous h) = subst (KnownVersion s.p c) h (pointer-version s.p c (s.c.written c) (inv.owned.written c l))
      go (Replaced.thawed q b p h) = subst (KnownVersion s.p c) h (pointer-version s.p c (s.c.frozen c q) (inv.owned.frozen c q l).0)
      go (Replaced.unreserved q b p h) = subst (KnownVersion s.p c) h (inv.owned.reserved c q l).0

  list_good : GoodToNode z (ToNode.free list)
  unfolding list
  list_good = (
    each-listed (GoodNamedVersion z) list (λ v h. list-named v (list_frees.replaced v h) (list_frees.proper v h)),
    free-ascending (still_retained (frozen_after z c own (rows_at z a) x)) (replaced c own (rows_at z a) z.m),
  )

  -- the event's end, with the record after it
  ended : Client → ClientEnd
  ended r = record { answer = deposited x.version (length message); client = write_client z r ++ []; room = lay message room; out = [] }

  abbrev done : ClientEnd
  done = ended (client_at z next c)

  good_rows : GoodRows z a
  good_rows = subst (GoodTurn z) e (o.client c l).turn

  opened : room_size z ≤ length room → scan_answer z c (st.clients c) (write_directory z (rows_at z a)) room ≡ done
  unfolding ended list
  opened enough =
      scan-opened z honest passed st s o c l room a good_rows (rows_own z s.p a (subst (Own z s.p s.c c) e (inv.owned.own c l)).1) enough
      ∙ ap (λ p. after z (st.clients c) room [] [] (scanned_at z c own room (rows_at z a) p)) (ap (phase_of z) e)
      ∙ ap ended (frozen-after z s.c a c x)

  -- the record after it is well formed: what is frozen is new or was there, so is what is reserved and what is noticed
  new : GoodPointer z x
  new = (subst (GoodPhase z) (ap (phase_of z) e) (o.client c l).good.phase).0

  seen : (q : ℕ) → q < z.m → GoodIndex (record { 0 = a.reading q })
  seen q b = (good_rows q b).0.1.1.1.1.1.1.1.1.0.0.0

  next_good : GoodClient z (client_at z next c)
  next_good =
      let g = (o.client c l).good in
      rw (eq-eqb c c refl)
      (record {
        phase = tt;
        index = g.index;
        written = new;
        frozen = (each_chosen (GoodPointer z) z.m (notices s.c a c) x (s.c.frozen c) new g.frozen.0, length-tabulate z.m _);
        reserved = (
          each_chosen (GoodReserved z) z.m (notices s.c a c) (s.c.written c).version (s.c.reserved c)
              (pointer-reserved z (s.c.written c) g.written) g.reserved.0,
          length-tabulate z.m _,
        );
        indices = (
          each-tabulate GoodIndex z.m _
              (λ q b. chosen (λ (n : ℕ). n < 256 ^ 4) (notices s.c a c q) (a.reading q) (s.c.indices c q) (seen q b)
              (tabulate-each GoodIndex z.m (λ q. record { 0 = s.c.indices c q }) g.indices.0 q b)),
          length-tabulate {A = ReadingIndex} z.m _,
        );
      })

  next-shows : ClientShows z done.client (st.calls c) (upd st.returns c [] c) next c
  unfolding ended
  next-shows =
      let w = o.client c l in
      record {
        bytes = append-nil (write_client z (client_at z next c));
        good = next_good;
        calls = rw (eq-eqb c c refl) (w.calls ∙ ap (calls_of own) e);
        returns = rw (eq-eqb c c refl) refl;
        turn = rw (eq-eqb c c refl) tt;
      }

  -- the new pointer stands in the client's row already
  same_rows : (n : Nodes) (p : Past) (h : History) → rows_of (record { c = next; d = s.d; n = n; p = p; h = h }) ≡ rows_of s
  same_rows n p h i =
      record {
        written = λ w. by_eq {G = shown_written next w ≡ shown_written s.c w} w c (λ f q. rw f (rw q (rw e refl))) (λ f q. rw f refl) i;
        frozen = s.d.frozen;
        indices = s.d.indices;
        reading = λ w. by_eq {G = shown_reading next w ≡ shown_reading s.c w} w c (λ f q. rw f (rw q (rw e refl))) (λ f q. rw f refl) i;
      }

  freezes : Follows z honest s (hand c room) (returned z c [] done st)
  unfolding ended
  freezes =
      let h : History = mark z c done st.history in
      let m : ℕ → List ToNode = λ i. ToNode.free list ∷ [] in
      record {
        model = record { c = next; d = s.d; n = sent s.n c m; p = s.p; h = h };
        step =
            Next.freeze c x a list h
            (rw o.history (record { time = refl; begun = refl; operations = refl; latest = refl; put = refl })) l e list_frees;
        shows =
            goes-shows z honest st s o c l done (upd st.returns c []) st.to_client h next (sent s.n c m) s.p
            next-shows
            (λ j ne lj. rw (ne_eqb j c ne) (others_frozen z (st.clients j) (st.calls j) (st.returns j) s.c c j ne (o.client j lj) x a))
            (same_rows (sent s.n c m) s.p h)
            refl
            (λ i t lo up. rw (eq-eqb c c refl)
            (sent-shows z done i lo up (ToNode.free list) (ap some (take-append_seam message (drop (length message) room))) list_good
            (st.to_node c i) (s.n.to_node c i) (o.to_node c i l t lo up)))
            (λ j i ne. rw (ne_eqb j c ne) refl) o.to_client o.liars;
        sane = sane_quiet (hand c room) (by_client done.answer) refl;
      }

  pub frozen_follows : Follows z honest s (hand c room) (returned z c [] (scan_answer z c (st.clients c) (write_directory z (rows_at z a)) room) st)
  frozen_follows = go (dec_le (room_size z) (length room))
    where
      go : Dec (room_size z ≤ length room)
          → Follows z honest s (hand c room) (returned z c [] (scan_answer z c (st.clients c) (write_directory z (rows_at z a)) room) st)
      go (no short) = scan-refused z honest passed st s o c l room [] a good_rows (omega arith)
      go (yes enough) = rw (opened enough) freezes

-- ---- the answer of a reading's scan

-- a known pointer is told by its number
known_told : (z : Measures) → Passed z → (p : Past) (w : ℕ) → w < z.m → (x : Pointer) → Known p w x → Told x
known_told z ok p w l x (Known.absent e) = subst Told (sym e) (omega arith, omega arith)
known_told z ok p w l x (Known.formed d e q h) = (omega (arith, ok.clients.1), omega arith)

-- one that is none is the none pointer, another is a deposit's
known_none : (p : Past) (w : ℕ) (x : Pointer) → Known p w x → is_none x ≡ true → x ≡ none_pointer
known_none p w x (Known.absent e) n = e
known_none p w x (Known.formed d e q h) n = absurd (true≢false (sym n ∙ ver_some x h))

known_some : (p : Past) (w : ℕ) (x : Pointer) → Known p w x → is_none x ≡ false → 256 ≤ ver x
known_some p w x (Known.absent e) n = absurd (true≢false (sym (ap is_none e) ∙ n))
known_some p w x (Known.formed d e q h) n = h

module _ (z : Measures) (honest : ℕ → Bool) (passed : passes z ≡ true) (st : State) (s : Model) (o : Shows z honest st s) (inv : Invariant z honest s)
    (c : ℕ) (a : Rows) (l : c < z.m) (e : s.c.turn c ≡ Turn.picked a) (room : List ℕ) where
  abbrev reader : Client
  reader = client_at z s.c c

  -- the pointer picked, and whose row offers it
  chosen_pointer : Pointer
  chosen_pointer = pick c (record { 0 = s.c.reading c }) (rows_at z a)

  known_rows : KnownRows z s.p a
  known_rows = (subst (Own z s.p s.c c) e (inv.owned.own c l)).1

  offers : (w : ℕ) → w < z.m → Known s.p w (offer a c (s.c.reading c) w)
  offers = known_offer z s.p a known_rows c (s.c.reading c)

  picks_it : Picks z a c (s.c.reading c) chosen_pointer
  unfolding chosen_pointer
  picks_it =
      let ok = measures z passed in
      picks z a c (s.c.reading c) l (λ w b. known_told z ok s.p w b (offer a c (s.c.reading c) w) (offers w b)) ok.clients.0

  known_it : Known s.p picks_it.row chosen_pointer
  known_it = subst (Known s.p picks_it.row) picks_it.offered (offers picks_it.row picks_it.within)

  shown-rows : GoodRows z a
  shown-rows = subst (GoodTurn z) e (o.client c l).turn

  picked_opened : room_size z ≤ length room
      → scan_answer z c (st.clients c) (write_directory z (rows_at z a)) room ≡ after z (st.clients c) room [] [] (fetch z reader room chosen_pointer)
  unfolding chosen_pointer
  picked_opened enough =
      scan-opened z honest passed st s o c l room a shown-rows (rows_own z s.p a known_rows) enough
      ∙ ap (λ p. after z (st.clients c) room [] [] (scanned_at z c reader room (rows_at z a) p)) (ap (phase_of z) e)

  -- nothing is found: the reading ends
  empty_end : ClientEnd
  empty_end = record { answer = empty; client = write_client z (with_phase Phase.idle reader) ++ []; room = room; out = [] }

  ends-empty : chosen_pointer ≡ none_pointer → Follows z honest s (hand c room) (returned z c [] empty_end st)
  unfolding empty_end
  ends-empty n =
      let w = o.client c l in
      let h : History = mark z c empty_end st.history in
      record {
        model = record { c = turned s.c c Turn.idle; d = s.d; n = s.n; p = s.p; h = h };
        step =
            Next.empty c a h
            (rw o.history (record { time = refl; begun = refl; operations = refl; latest = refl; put = refl })) l e
            (subst (Picks z a c (s.c.reading c)) n picks_it);
        shows =
            goes-shows z honest st s o c l empty_end (upd st.returns c []) st.to_client h (turned s.c c Turn.idle) s.n s.p
            (own_turned z s.c c w.good Turn.idle _ _ tt tt (w.calls ∙ ap (calls_of reader) e) (rw (eq-eqb c c refl) refl))
            (λ j ne lj. others_answered z honest passed st s o c j Turn.idle [] ne lj)
            (rows-turned s c Turn.idle s.n s.p h (rw e refl) (rw e refl))
            refl
            (λ i t lo up. unsent z empty_end i (st.to_node c i) (s.n.to_node c i) refl (o.to_node c i l t lo up))
            (λ j i ne. refl) o.to_client o.liars;
        sane = sane_quiet (hand c room) (by_client empty) refl;
      }

  -- a pointer is found: its nodes are asked
  module _ (some-it : 256 ≤ ver chosen_pointer) where
    abbrev asking : Phase
    asking = Phase.fetching chosen_pointer 0 0 (replicate z.n [])

    abbrev asked : Turn
    asked = Turn.fetching chosen_pointer 0 0 (replicate z.n [])

    asked_good : GoodPhase z asking
    asked_good =
        let ok = measures z passed in
        asking_good z ok chosen_pointer (known_good z ok s inv.drawing picks_it.row picks_it.within chosen_pointer known_it) (ver_some chosen_pointer some-it)

    request : ToNode
    request = ToNode.request chosen_pointer.version

    request_good : GoodToNode z request
    unfolding request
    request_good =
        known_named z (measures z passed) s inv.drawing picks_it.row picks_it.within chosen_pointer.version
        (pointer-version s.p picks_it.row chosen_pointer known_it) (λ n. let q : ver chosen_pointer ≡ 255 = ap num n in omega arith)

    request-length : length (write_to_node request) ≡ 6
    unfolding request write_to_node
    request-length = omega (arith, length-version chosen_pointer.version)

    ask_end : ClientEnd
    ask_end =
        record {
          answer = requests chosen_pointer.version chosen_pointer.named.nodes;
          client = write_client z (with_phase asking reader) ++ [];
          room = lay (write_to_node request) room;
          out = [];
        }

    -- the history's mark: the record written shows the pointer picked
    reads-back : pointer_in (read_client z ask_end.client) ≡ some chosen_pointer
    unfolding ask_end
    reads-back =
        let g = (o.client c l).good in
        ap pointer_in
        (client-back z passed (with_phase asking reader)
        (record { phase = asked_good; index = g.index; written = g.written; frozen = g.frozen; reserved = g.reserved; indices = g.indices }) [])

    marks : Marked st.history (mark z c ask_end st.history) c (choosing chosen_pointer)
    unfolding ask_end
    marks =
        let h = st.history in
        let op = h.operation (h.latest c) in
        record {
          time = refl;
          begun = refl;
          operations =
              ap (λ (p : Option Pointer). upd h.operation (h.latest c)
              (record {
                client = op.client;
                page = op.page;
                began = op.began;
                ended = op.ended;
                version = some chosen_pointer.version;
                pointer = p;
                given = op.given;
              })) reads-back;
          latest = refl;
          put = refl;
        }

    -- a node that is named is sent the request, another nothing
    asked-node : (i : ℕ) → 1 ≤ i → i ≤ z.n → (b : List (List ℕ)) (q : List ToNode) → ToNodeShows z b q
        → ToNodeShows z (sent_to (sends z ask_end i) b) (q ++ cond (stands chosen_pointer.named.nodes i) (request ∷ []) [])
    unfolding ask_end
    asked-node i lo up b q w = go (stands chosen_pointer.named.nodes i) refl
      where
        go : (t : Bool) → stands chosen_pointer.named.nodes i ≡ t → ToNodeShows z (sent_to (sends z ask_end i) b) (q ++ cond t (request ∷ []) [])
        go true p =
            sent-shows z ask_end i lo up request
            (rw p (ap some (take_at (write_to_node request) (drop (length (write_to_node request)) room) 6 request-length))) request_good b q w
        go false p = rw (append-nil q) (unsent z ask_end i b q (rw p refl) w)

    asks : Follows z honest s (hand c room) (returned z c [] ask_end st)
    unfolding ask_end request
    asks =
        let w = o.client c l in
        let h : History = mark z c ask_end st.history in
        let n : Nodes = sent s.n c (λ i. cond (stands chosen_pointer.named.nodes i) (request ∷ []) []) in
        record {
          model = record { c = turned s.c c asked; d = s.d; n = n; p = s.p; h = h };
          step =
              Next.fetch c a chosen_pointer h (subst (λ (g : History). Marked g h c (choosing chosen_pointer)) o.history marks) l e picks_it
              (λ q. omega arith);
          shows =
              goes-shows z honest st s o c l ask_end (upd st.returns c []) st.to_client h (turned s.c c asked) n s.p
              (own_turned z s.c c w.good asked _ _ asked_good tt (w.calls ∙ ap (calls_of reader) e) (rw (eq-eqb c c refl) refl))
              (λ j ne lj. others_answered z honest passed st s o c j asked [] ne lj)
              (rows-turned s c asked n s.p h (rw e refl) (rw e refl))
              refl
              (λ i t lo up. rw (eq-eqb c c refl) (asked-node i lo up (st.to_node c i) (s.n.to_node c i) (o.to_node c i l t lo up)))
              (λ j i ne. rw (ne_eqb j c ne) refl) o.to_client o.liars;
          sane = sane_quiet (hand c room) (by_client ask_end.answer) refl;
        }

  pub picked_follows : Follows z honest s (hand c room) (returned z c [] (scan_answer z c (st.clients c) (write_directory z (rows_at z a)) room) st)
  unfolding empty_end ask_end request
  picked_follows = go (dec_le (room_size z) (length room)) (is_none chosen_pointer) refl
    where
      found : (b : Bool) → is_none chosen_pointer ≡ b
          → Follows z honest s (hand c room) (returned z c [] (after z (st.clients c) room [] [] (fetch z reader room chosen_pointer)) st)
      found true n = rw n (ends-empty (known_none s.p picks_it.row chosen_pointer known_it n))
      found false n = rw n (asks (known_some s.p picks_it.row chosen_pointer known_it n))

      go : Dec (room_size z ≤ length room) → (b : Bool) → is_none chosen_pointer ≡ b
          → Follows z honest s (hand c room) (returned z c [] (scan_answer z c (st.clients c) (write_directory z (rows_at z a)) room) st)
      go (no short) b n = scan-refused z honest passed st s o c l room [] a shown-rows (omega arith)
      go (yes enough) b n = rw (picked_opened enough) (found b n)
