-- Starts of operations are steps of the model.
use mathlib.Core.Path.{◌≡◌, refl, ap, ◌∙◌}
use mathlib.Core.Bool.{Bool, true, false, ◌&&◌, false≢true, and-false}
use mathlib.Core.List.{List, [], ◌∷◌, ◌++◌, append-nil}
use mathlib.Core.Option.{Option, some, none}
use Prim.Native.Nat.{ℕ, ◌+◌, ◌-◌, ◌*◌, ◌≤◌, ◌<◌}
use native.Mathlib.Omega.{arith}
use native.Mathlib.Decide.{dec_lt, dec_le}
use borrow.Author.Tests.{eq-eqb, le-leb, lt-leb, lt-ltb, le-ltb, ltb-true}
use lib.Dec.{leb, ltb, eqb}
use lib.ListN.{length, take, drop}
use lib.Seq.{take-append_seam}
use Rattle.coding.specs.Bytes.{Bytes}
use Rattle.parties.specs.declared.Measures.{Measures}
use Rattle.parties.specs.declared.ReadingIndex.{ReadingIndex}
use Rattle.parties.specs.protocol.Measures.{passes}
use Rattle.parties.specs.protocol.Directory.{write_record}
use Rattle.parties.specs.protocol.Client.{Phase, write_client, client_size}
use Rattle.parties.specs.protocol.Reading.{reading_fields}
use Rattle.parties.specs.protocol.Answer.{refused, scan, update}
use Rattle.parties.specs.protocol.ClientEvents.{ClientEnd, is_idle, begin_deposit, begin_reading, lay, room_size, after}
use Rattle.parties.specs.protocol.ClientEvents.{unchanged, on_client, start_deposit, start_reading, with_phase}
use Rattle.parties.specs.protocol.Run.{History, Call, scan_call, update_call, State, Event, by_client, starts, called, begin, carry_out, deposit, reading}
use Rattle.parties.proofs.protocol.model.Cells.{by_eq}
use Rattle.parties.proofs.protocol.model.Model.{Turn, Nodes, Past, Model, Next, turned, raised_by, begun_by, rows_of, shown_written, shown_reading, ver}
use Rattle.parties.proofs.protocol.steps.View.{Shows, Follows, ClientShows, phase_of, client_at, calls_of, returns_of}
use Rattle.parties.proofs.protocol.steps.ViewLaws.{sane_quiet, goes-shows, unsent, others_turned, ordinary, refused_follows}
use Rattle.parties.proofs.protocol.steps.ViewLaws.{record_long, record_reads, others_raised, own_turned, rows-turned}

-- a client whose record is idle is idle
pub idle_turn : (z : Measures) (t : Turn) → is_idle (phase_of z t) ≡ true → t ≡ Turn.idle
idle_turn z Turn.idle e = refl
idle_turn z (Turn.scanning bytes) e = absurd (false≢true e)
idle_turn z (Turn.scanned bytes a) e = absurd (false≢true e)
idle_turn z (Turn.storing v bytes a) e = absurd (false≢true e)
idle_turn z (Turn.updating x) e = absurd (false≢true e)
idle_turn z (Turn.updated x) e = absurd (false≢true e)
idle_turn z (Turn.freezing x) e = absurd (false≢true e)
idle_turn z (Turn.noticing x a) e = absurd (false≢true e)
idle_turn z Turn.raising e = absurd (false≢true e)
idle_turn z Turn.raised e = absurd (false≢true e)
idle_turn z Turn.picking e = absurd (false≢true e)
idle_turn z (Turn.picked a) e = absurd (false≢true e)
idle_turn z (Turn.fetching x n m ps) e = absurd (false≢true e)

module _ (z : Measures) (honest : ℕ → Bool) (passed : passes z ≡ true) (st : State) (s : Model) (o : Shows z honest st s) where
  -- a start that is refused
  pub starts-refused : (ev : Event) (c : ℕ) (bytes : Option (List ℕ)) (e : ClientEnd) (n : ℕ) → e.answer ≡ refused n → ordinary n ≡ true
      → Follows z honest s ev (starts z c bytes e st)
  starts-refused ev c bytes e n q p = rw q (refused_follows z honest st s o ev (by_client (refused n)) n refl p)

  module _ (c : ℕ) (bytes : List ℕ) (b : Bytes bytes) where
    -- what the event does where its record reads
    opened : (l : c < z.m) → start_deposit z c (st.clients c) bytes ≡ after z (st.clients c) [] [] [] (begin_deposit z (client_at z s.c c) bytes)
    unfolding start_deposit
    opened l =
        simp (passed, record_long z honest st s o passed c l, lt-ltb c z.m l)
        (ap (λ r. on_client z (st.clients c) [] [] r (λ x. begin_deposit z x bytes)) (record_reads z honest st s o passed c l))

    done : ClientEnd
    done = record { answer = scan; client = write_client z (with_phase (Phase.scanning bytes) (client_at z s.c c)) ++ []; room = []; out = [] }

    begun : (l : c < z.m) → s.c.turn c ≡ Turn.idle → (short : length bytes ≤ z.k * z.f - 4)
        → Follows z honest s (deposit c bytes) (starts z c (some bytes) done st)
    unfolding done
    begun l e short =
        let w = o.client c l in
        record {
          model =
              record {
                c = turned s.c c (Turn.scanning bytes);
                d = s.d;
                n = s.n;
                p = begun_by s.p s.h.begun (λ j. ver (shown_written s.c j));
                h = begin c (some bytes) st.history;
              };
          step = Next.deposit c bytes (begin c (some bytes) st.history) (ap (begin c (some bytes)) o.history) l e b short;
          shows =
              goes-shows z honest st s o c l done st.returns st.to_client (begin c (some bytes) st.history)
              (turned s.c c (Turn.scanning bytes)) s.n
              (begun_by s.p s.h.begun (λ j. ver (shown_written s.c j)))
              (own_turned z s.c c w.good (Turn.scanning bytes) _ _ (b, le-leb (length bytes) (z.k * z.f - 4) short) tt
              (ap (λ (q : List Call). q ++ (scan_call ∷ [])) (w.calls ∙ ap (calls_of (client_at z s.c c)) e)) (w.returns ∙ ap (returns_of z) e))
              (λ j ne lj. others_turned z (st.clients j) (st.calls j) (st.returns j) s.c c j ne (o.client j lj) (Turn.scanning bytes))
              (rows-turned s c (Turn.scanning bytes) s.n (begun_by s.p s.h.begun (λ j. ver (shown_written s.c j)))
              (begin c (some bytes) st.history) (rw e refl) (rw e refl))
              refl
              (λ i a lo up. unsent z done i (st.to_node c i) (s.n.to_node c i) refl (o.to_node c i l a lo up))
              (λ j i ne. refl) o.to_client o.liars;
          sane = sane_quiet (deposit c bytes) (by_client scan) refl;
        }

    known : (l : c < z.m) (idle : Bool) → is_idle (phase_of z (s.c.turn c)) ≡ idle → Dec (length bytes ≤ z.k * z.f - 4)
        → Follows z honest s (deposit c bytes) (starts z c (some bytes) (start_deposit z c (st.clients c) bytes) st)
    unfolding begin_deposit done
    known l false e short = rw (opened l) (rw e (starts-refused (deposit c bytes) c (some bytes) (unchanged (refused 5) (st.clients c) [] []) 5 refl refl))
    known l true e (no long) =
        rw (opened l)
        (rw (e, lt-leb (length bytes) (z.k * z.f - 4) (omega arith))
        (starts-refused (deposit c bytes) c (some bytes) (unchanged (refused 6) (st.clients c) [] []) 6 refl refl))
    known l true e (yes short) =
        rw (opened l) (rw (e, le-leb (length bytes) (z.k * z.f - 4) short) (begun l (idle_turn z (s.c.turn c) e) short))

    -- a client number out of bounds is 3, or 2 where there is no record of the length wanted
    stranger : (z.m ≤ c) → (long : Bool) → leb (client_size z) (length (st.clients c)) ≡ long
        → Follows z honest s (deposit c bytes) (starts z c (some bytes) (start_deposit z c (st.clients c) bytes) st)
    unfolding start_deposit
    stranger l true e =
        rw (passed, e, le-ltb c z.m l)
        (starts-refused (deposit c bytes) c (some bytes) (unchanged (refused 3) (st.clients c) [] []) 3 refl refl)
    stranger l false e =
        rw (passed, e) (starts-refused (deposit c bytes) c (some bytes) (unchanged (refused 2) (st.clients c) [] []) 2 refl refl)

    pub deposit_follows : Follows z honest s (deposit c bytes) (carry_out z honest (deposit c bytes) st)
    unfolding carry_out
    deposit_follows = go (dec_lt c z.m)
      where
        go : Dec (c < z.m) → Follows z honest s (deposit c bytes) (starts z c (some bytes) (start_deposit z c (st.clients c) bytes) st)
        go (yes l) = known l (is_idle (phase_of z (s.c.turn c))) refl (dec_le (length bytes) (z.k * z.f - 4))
        go (no l) = stranger (omega arith) (leb (client_size z) (length (st.clients c))) refl

-- the directory shows a reading's index before its update
rows_raised : (s : Model) (c : ℕ) (n : Nodes) (p : Past) (h : History) → s.c.turn c ≡ Turn.idle
    → rows_of (record { c = raised_by s.c c; d = s.d; n = n; p = p; h = h }) ≡ rows_of s
rows_raised s c n p h e i =
    record {
      written = λ w. by_eq {G = shown_written (raised_by s.c c) w ≡ shown_written s.c w} w c (λ f q. rw f (rw q (rw e refl))) (λ f q. rw f refl) i;
      frozen = s.d.frozen;
      indices = s.d.indices;
      reading = λ w. by_eq {G = shown_reading (raised_by s.c c) w ≡ shown_reading s.c w} w c (λ f q. rw f (rw q (rw e (omega arith)))) (λ f q. rw f refl) i;
    }

module _ (z : Measures) (honest : ℕ → Bool) (passed : passes z ≡ true) (st : State) (s : Model) (o : Shows z honest st s) (c : ℕ) (room : List ℕ) where
  opened-reading : (l : c < z.m) → room_size z ≤ length room
      → start_reading z c (st.clients c) room ≡ after z (st.clients c) room [] [] (begin_reading (client_at z s.c c) room)
  unfolding start_reading
  opened-reading l enough =
      simp (passed, record_long z honest st s o passed c l, le-leb (room_size z) (length room) enough, lt-ltb c z.m l)
      (ap (λ r. on_client z (st.clients c) room [] r (λ x. begin_reading x room)) (record_reads z honest st s o passed c l))

  index : ReadingIndex
  index = record { 0 = s.c.reading c + 1 }

  raised_end : ClientEnd
  unfolding index
  raised_end =
      record {
        answer = update (length (write_record (reading_fields index)));
        client =
            write_client z
            (record {
              phase = Phase.raising;
              reading_index = index;
              written = s.c.written c;
              frozen = (client_at z s.c c).frozen;
              reserved = (client_at z s.c c).reserved;
              frozen_indices = (client_at z s.c c).frozen_indices;
            })
            ++ [];
        room = lay (write_record (reading_fields index)) room;
        out = [];
      }

  -- the record after it, and the update that is called
  own_raised : (l : c < z.m) → s.c.turn c ≡ Turn.idle → s.c.reading c < 4294967295
      → ClientShows z raised_end.client (called raised_end.answer raised_end.room (st.calls c)) (st.returns c) (raised_by s.c c) c
  unfolding raised_end index
  own_raised l e few =
      let w = o.client c l in
      let g = w.good in
      let f : eqb c c ≡ true = eq-eqb c c refl in
      let r : List ℕ = write_record (reading_fields (record { 0 = s.c.reading c + 1 })) in
      record {
        bytes = rw f (append-nil _);
        good =
            rw f
            (record { phase = tt; index = omega arith; written = g.written; frozen = g.frozen; reserved = g.reserved; indices = g.indices });
        calls =
            rw f
            (ap (λ (q : List Call). q ++ (update_call (take (length r) (lay r room)) ∷ [])) (w.calls ∙ ap (calls_of (client_at z s.c c)) e)
            ∙ ap (λ (b : List ℕ). update_call b ∷ []) (take-append_seam r (drop (length r) room)));
        returns = rw f (w.returns ∙ ap (returns_of z) e);
        turn = rw f tt;
      }

  raises : (l : c < z.m) → s.c.turn c ≡ Turn.idle → s.c.reading c < 4294967295 → Follows z honest s (reading c room) (starts z c none raised_end st)
  unfolding raised_end
  raises l e few =
      let past : Past = begun_by s.p s.h.begun (λ j. ver (shown_written s.c j)) in
      let h : History = begin c none st.history in
      record {
        model = record { c = raised_by s.c c; d = s.d; n = s.n; p = past; h = h };
        step = Next.reading c h (ap (begin c none) o.history) l e;
        shows =
            goes-shows z honest st s o c l raised_end st.returns st.to_client h (raised_by s.c c) s.n past
            (own_raised l e few)
            (λ j ne lj. others_raised z (st.clients j) (st.calls j) (st.returns j) s.c c j ne (o.client j lj))
            (rows_raised s c s.n past h e)
            refl
            (λ i a lo up. unsent z raised_end i (st.to_node c i) (s.n.to_node c i) refl (o.to_node c i l a lo up))
            (λ j i ne. refl) o.to_client o.liars;
        sane = sane_quiet (reading c room) (by_client (update _)) refl;
      }

  refuses : (n : ℕ) → ordinary n ≡ true → Follows z honest s (reading c room) (starts z c none (unchanged (refused n) (st.clients c) room []) st)
  refuses n = starts-refused z honest passed st s o (reading c room) c none (unchanged (refused n) (st.clients c) room []) n refl

  known_reading : (l : c < z.m) → room_size z ≤ length room → (idle : Bool) → is_idle (phase_of z (s.c.turn c)) ≡ idle
      → (more : Bool) → ltb (s.c.reading c) 4294967295 ≡ more
      → Follows z honest s (reading c room) (starts z c none (start_reading z c (st.clients c) room) st)
  unfolding begin_reading raised_end index
  known_reading l enough false e more f = rw (opened-reading l enough) (rw e (refuses 5 refl))
  known_reading l enough true e false f = rw (opened-reading l enough) (rw (e, f) (refuses 7 refl))
  known_reading l enough true e true f =
      rw (opened-reading l enough) (rw (e, f) (raises l (idle_turn z (s.c.turn c) e) (ltb-true (s.c.reading c) 4294967295 f)))

  -- no room is 2; a client number out of bounds is 3, or 2 where there is no record of the length wanted
  short-reading : (enough : Bool) → (leb (client_size z) (length (st.clients c)) && leb (room_size z) (length room)) ≡ enough → (enough ≡ true → z.m ≤ c)
      → Follows z honest s (reading c room) (starts z c none (start_reading z c (st.clients c) room) st)
  unfolding start_reading
  short-reading false e out = rw (passed, e) (refuses 2 refl)
  short-reading true e out = rw (passed, e, le-ltb c z.m (out refl)) (refuses 3 refl)

  pub reading_follows : Bytes room → Follows z honest s (reading c room) (carry_out z honest (reading c room) st)
  unfolding carry_out
  reading_follows b = go (dec_lt c z.m) (dec_le (room_size z) (length room))
    where
      go : Dec (c < z.m) → Dec (room_size z ≤ length room) → Follows z honest s (reading c room) (starts z c none (start_reading z c (st.clients c) room) st)
      go (yes l) (yes enough) = known_reading l enough (is_idle (phase_of z (s.c.turn c))) refl (ltb (s.c.reading c) 4294967295) refl
      go (yes l) (no h) =
          short-reading false
          (rw (lt-leb (room_size z) (length room) (omega arith)) (and-false (leb (client_size z) (length (st.clients c))))) (λ e. absurd (false≢true e))
      go (no l) h = short-reading (leb (client_size z) (length (st.clients c)) && leb (room_size z) (length room)) refl (λ e. omega arith)
