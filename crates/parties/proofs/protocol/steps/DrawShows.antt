-- The answers of an update, and of a deposit's first scan, are steps of the model.
use mathlib.Core.Path.{◌≡◌, refl, sym, ap, subst, ◌∙◌}
use mathlib.Core.Bool.{Bool, true, false}
use mathlib.Core.List.{List, [], ◌∷◌, ◌++◌}
use Prim.Native.Nat.{ℕ, ◌+◌, ◌-◌, ◌*◌, ◌≤◌, ◌<◌}
use native.Mathlib.Omega.{arith}
use native.Mathlib.Decide.{dec_le}
use borrow.Author.Tests.{eq-eqb, ne_eqb, le-leb, lt-ltb, ltb-true}
use lib.Dec.{ltb}
use lib.ListN.{length}
use Rattle.coding.specs.Bytes.{Bytes}
use Rattle.coding.specs.Pieces.{columns, piece}
use Rattle.parties.specs.declared.Measures.{Measures}
use Rattle.parties.specs.declared.Version.{Version}
use Rattle.parties.specs.protocol.Measures.{passes}
use Rattle.parties.specs.protocol.Pointer.{Pointer}
use Rattle.parties.specs.protocol.Directory.{write_directory}
use Rattle.parties.specs.protocol.Owner.{own_rows}
use Rattle.parties.specs.protocol.Message.{ToNode}
use Rattle.parties.specs.protocol.Client.{Phase, write_client}
use Rattle.parties.specs.protocol.Deposit.{highest, digests_of}
use Rattle.parties.specs.protocol.Answer.{scan, stores, spent}
use Rattle.parties.specs.protocol.ClientEvents.{ClientEnd, room_size, stores_room, update_answer, scan_answer, with_phase}
use Rattle.parties.specs.protocol.Run.{History, Call, scan_call, State, hand, by_client, mark, returned, upd}
use Rattle.parties.proofs.protocol.formats.MeasureLaws.{passed as measures}
use Rattle.parties.proofs.protocol.formats.MessageLaws.{GoodNamedVersion}
use Rattle.parties.proofs.protocol.formats.ClientLaws.{GoodPhase}
use Rattle.parties.proofs.protocol.model.Model.{Rows, Turn, Model, Past, Nodes, Next, Quiet, turned, sent, drawn_by, num, put_by, raised_to}
use Rattle.parties.proofs.protocol.invariants.Invariants.{Own, KnownRows}
use Rattle.parties.proofs.protocol.invariants.Invariant.{Invariant}
use Rattle.parties.proofs.protocol.steps.View.{Shows, Follows, GoodRows, GoodTurn, phase_of, client_at, rows_at, calls_of, returns_of}
use Rattle.parties.proofs.protocol.steps.ViewLaws.{sane_number, sane_quiet, rows_own, goes-shows, unsent, own_turned, rows-turned, quiet_mark}
use Rattle.parties.proofs.protocol.steps.GoodLaws.{piece-stored}
use Rattle.parties.proofs.protocol.events.DepositLaws.{highest-rows, stores-sent, storing_good}
use Rattle.parties.proofs.protocol.events.HandLaws.{sent-shows, others_answered, update-opened, update-refused, scan-opened, scan-refused}

-- ---- an update's answer

module _ (z : Measures) (honest : ℕ → Bool) (passed : passes z ≡ true) (st : State) (s : Model) (o : Shows z honest st s) (c : ℕ) (l : c < z.m)
    (room : List ℕ) where
  -- the scan after the update is called, and the turn is t
  asks : Turn → ClientEnd
  asks t = record { answer = scan; client = write_client z (with_phase (phase_of z t) (client_at z s.c c)) ++ []; room = room; out = [] }

  asked : (t u : Turn) → s.c.turn c ≡ t
      → calls_of (client_at z s.c c) t ≡ []
      → calls_of (with_phase (phase_of z u) (client_at z s.c c)) u ≡ scan_call ∷ [] → returns_of z u ≡ [] → GoodPhase z (phase_of z u) → GoodTurn z u
      → put_by u (s.c.written c) ≡ put_by t (s.c.written c) → raised_to u (s.c.reading c) ≡ raised_to t (s.c.reading c)
      → Next z honest s (record { c = turned s.c c u; d = s.d; n = s.n; p = s.p; h = mark z c (asks u) st.history })
      → Follows z honest s (hand c room) (returned z c [] (asks u) st)
  unfolding asks
  asked t u e none one back gp gt written reading step =
      let w = o.client c l in
      let h : History = mark z c (asks u) st.history in
      record {
        model = record { c = turned s.c c u; d = s.d; n = s.n; p = s.p; h = h };
        step = step;
        shows =
            goes-shows z honest st s o c l (asks u) (upd st.returns c []) st.to_client h (turned s.c c u) s.n s.p
            (own_turned z s.c c w.good u _ _ gp gt
            (ap (λ (q : List Call). q ++ (scan_call ∷ [])) (w.calls ∙ ap (calls_of (client_at z s.c c)) e ∙ none) ∙ sym one)
            (rw (eq-eqb c c refl) (sym back)))
            (λ j ne lj. others_answered z honest passed st s o c j u [] ne lj)
            (rows-turned s c u s.n s.p h (rw e written) (rw e reading))
            refl
            (λ i a lo up. unsent z (asks u) i (st.to_node c i) (s.n.to_node c i) refl (o.to_node c i l a lo up))
            (λ j i ne. refl) o.to_client o.liars;
        sane = sane_quiet (hand c room) (by_client scan) refl;
      }

  -- the phase of the turn is good
  good : (t : Turn) → s.c.turn c ≡ t → GoodPhase z (phase_of z t)
  good t e = subst (λ (u : Turn). GoodPhase z (phase_of z u)) e (o.client c l).good.phase

  quiet : (t : Turn) → Quiet s.h (mark z c (asks t) st.history)
  unfolding asks
  quiet t = rw o.history (quiet_mark z c (asks t) s.h s.h.replied refl)

  pub updated_follows : (x : Pointer) → s.c.turn c ≡ Turn.updated x
      → Follows z honest s (hand c room) (returned z c [] (update_answer z c (st.clients c) room) st)
  unfolding asks
  updated_follows x e = go (dec_le (room_size z) (length room))
    where
      go : Dec (room_size z ≤ length room) → Follows z honest s (hand c room) (returned z c [] (update_answer z c (st.clients c) room) st)
      go (no short) = update-refused z honest passed st s o c l room [] (omega arith)
      go (yes enough) =
          rw (update-opened z honest passed st s o c l room enough)
          (rw e
          (asked (Turn.updated x) (Turn.freezing x) e refl refl refl (good (Turn.updated x) e) tt refl refl
          (Next.acknowledged c x _ (quiet (Turn.freezing x)) l e)))

  pub raised_follows : s.c.turn c ≡ Turn.raised → Follows z honest s (hand c room) (returned z c [] (update_answer z c (st.clients c) room) st)
  unfolding asks
  raised_follows e = go (dec_le (room_size z) (length room))
    where
      go : Dec (room_size z ≤ length room) → Follows z honest s (hand c room) (returned z c [] (update_answer z c (st.clients c) room) st)
      go (no short) = update-refused z honest passed st s o c l room [] (omega arith)
      go (yes enough) =
          rw (update-opened z honest passed st s o c l room enough)
          (rw e (asked Turn.raised Turn.picking e refl refl refl tt tt refl refl (Next.known c _ (quiet Turn.picking) l e)))

-- ---- the answer of a deposit's first scan

module _ (z : Measures) (honest : ℕ → Bool) (passed : passes z ≡ true) (st : State) (s : Model) (o : Shows z honest st s) (inv : Invariant z honest s)
    (c : ℕ) (bytes : List ℕ) (a : Rows) (l : c < z.m) (e : s.c.turn c ≡ Turn.scanned bytes a) (room : List ℕ) where
  -- the page of the turn
  page : Bytes bytes × (length bytes ≤ z.k * z.f - 4) × (a.written c ≡ s.c.written c) × KnownRows z s.p a
  page = subst (Own z s.p s.c c) e (inv.owned.own c l)

  good_rows : GoodRows z a
  good_rows = subst (GoodTurn z) e (o.client c l).turn

  own_rows_lem : own_rows 0 (rows_at z a) ≡ true
  own_rows_lem = rows_own z s.p a page.3

  -- the sequence is spent: the deposit ends
  spent_end : ClientEnd
  spent_end = record { answer = spent; client = write_client z (with_phase Phase.idle (client_at z s.c c)) ++ []; room = room; out = [] }

  spends : Follows z honest s (hand c room) (returned z c [] spent_end st)
  unfolding spent_end
  spends =
      let w = o.client c l in
      let h : History = mark z c spent_end st.history in
      record {
        model = record { c = turned s.c c Turn.idle; d = s.d; n = s.n; p = s.p; h = h };
        step =
            Next.spent c bytes a h
            (rw o.history (record { time = refl; begun = refl; operations = refl; latest = refl; put = refl })) l e;
        shows =
            goes-shows z honest st s o c l spent_end (upd st.returns c []) st.to_client h (turned s.c c Turn.idle) s.n s.p
            (own_turned z s.c c w.good Turn.idle _ _ tt tt (w.calls ∙ ap (calls_of (client_at z s.c c)) e) (rw (eq-eqb c c refl) refl))
            (λ j ne lj. others_answered z honest passed st s o c j Turn.idle [] ne lj)
            (rows-turned s c Turn.idle s.n s.p h (rw e refl) (rw e refl))
            refl
            (λ i t lo up. unsent z spent_end i (st.to_node c i) (s.n.to_node c i) refl (o.to_node c i l t lo up))
            (λ j i ne. refl) o.to_client o.liars;
        sane = sane_number (hand c room) (by_client spent) 7 refl refl;
      }

  -- a version is drawn and its pieces are sent
  version : Version
  version = record { sequence = record { 0 = (highest (rows_at z a)).0 + 1 }; client = c }

  drawn_end : ClientEnd
  unfolding version
  drawn_end =
      record {
        answer = stores version (columns z.k (length bytes));
        client = write_client z (with_phase (Phase.storing version 0 (digests_of z version bytes)) (client_at z s.c c)) ++ [];
        room = stores_room z version bytes room;
        out = [];
      }

  good_version : (highest (rows_at z a)).0 < 4294967295 → GoodNamedVersion z version
  unfolding version
  good_version few =
      let m : z.m ≤ 8 = (measures z passed).clients.1 in
      ((omega arith, omega arith), simp (le-leb 1 ((highest (rows_at z a)).0 + 1) (omega arith), lt-ltb c z.m l))

  draws : (highest (rows_at z a)).0 < 4294967295 → room_size z ≤ length room → Follows z honest s (hand c room) (returned z c [] drawn_end st)
  unfolding drawn_end version
  draws few enough =
      let w = o.client c l in
      let v : Version = record { sequence = record { 0 = (highest (rows_at z a)).0 + 1 }; client = c } in
      let t : Turn = Turn.storing v bytes 0 in
      let n : Nodes = sent s.n c (λ i. ToNode.store v (piece z.k bytes i) ∷ []) in
      let past : Past = drawn_by s.p (num v) bytes (s.h.latest c) in
      let h : History = mark z c drawn_end st.history in
      record {
        model = record { c = turned s.c c t; d = s.d; n = n; p = past; h = h };
        step =
            Next.draw c bytes a v h (rw o.history (record { time = refl; begun = refl; operations = refl; latest = refl; put = refl })) l e
            refl (omega arith) (highest-rows z a);
        shows =
            goes-shows z honest st s o c l drawn_end (upd st.returns c []) st.to_client h (turned s.c c t) n past
            (own_turned z s.c c w.good t _ _ (storing_good z passed v bytes (good_version few)) tt
            (w.calls ∙ ap (calls_of (client_at z s.c c)) e) (rw (eq-eqb c c refl) refl))
            (λ j ne lj. others_answered z honest passed st s o c j t [] ne lj)
            (rows-turned s c t n past h (rw e refl) (rw e refl))
            refl
            (λ i x lo up.
            rw (eq-eqb c c refl)
            (sent-shows z drawn_end i lo up (ToNode.store v (piece z.k bytes i)) (stores-sent z passed v bytes room page.1 enough i lo up)
            (good_version few, piece-stored z (measures z passed) bytes page.1 i) (st.to_node c i) (s.n.to_node c i) (o.to_node c i l x lo up)))
            (λ j i ne. rw (ne_eqb j c ne) refl) o.to_client o.liars;
        sane = sane_quiet (hand c room) (by_client drawn_end.answer) refl;
      }

  -- whether there is a number after the highest
  known : room_size z ≤ length room → (more : Bool) → ltb (highest (rows_at z a)).0 4294967295 ≡ more
      → Follows z honest s (hand c room) (returned z c [] (scan_answer z c (st.clients c) (write_directory z (rows_at z a)) room) st)
  unfolding drawn_end spent_end version
  known enough true f =
      rw (scan-opened z honest passed st s o c l room a good_rows own_rows_lem enough) (rw (e, f) (draws (ltb-true (highest (rows_at z a)).0 4294967295 f) enough))
  known enough false f = rw (scan-opened z honest passed st s o c l room a good_rows own_rows_lem enough) (rw (e, f) spends)

  pub drawn_follows : Bytes room
      → Follows z honest s (hand c room) (returned z c [] (scan_answer z c (st.clients c) (write_directory z (rows_at z a)) room) st)
  drawn_follows b = go (dec_le (room_size z) (length room))
    where
      go : Dec (room_size z ≤ length room)
          → Follows z honest s (hand c room) (returned z c [] (scan_answer z c (st.clients c) (write_directory z (rows_at z a)) room) st)
      go (no short) = scan-refused z honest passed st s o c l room [] a good_rows (omega arith)
      go (yes enough) = known enough (ltb (highest (rows_at z a)).0 4294967295) refl
