-- Answers of directory calls: what an update's and a scan's answer do where record and rows read, their refusals, and messages sent to nodes.
use mathlib.Core.Path.{◌≡◌, refl, sym, ap, ◌∙◌}
use mathlib.Core.Bool.{Bool, true}
use mathlib.Core.List.{List, [], ◌∷◌, ◌++◌, map-append}
use mathlib.Core.Option.{Option, some}
use Prim.Native.Nat.{ℕ, ◌≤◌, ◌<◌}
use borrow.Author.Tests.{ne_eqb, le-leb, lt-leb, lt-ltb}
use lib.ListN.{length}
use Rattle.parties.specs.declared.Measures.{Measures}
use Rattle.parties.specs.protocol.Measures.{passes}
use Rattle.parties.specs.protocol.Directory.{read_directory, write_directory}
use Rattle.parties.specs.protocol.Owner.{own_rows}
use Rattle.parties.specs.protocol.Verdict.{rows_verdict}
use Rattle.parties.specs.protocol.Message.{ToNode, write_to_node}
use Rattle.parties.specs.protocol.Answer.{refused}
use Rattle.parties.specs.protocol.ClientEvents.{ClientEnd, acknowledged_at, scanned_at, after, unchanged, on_client}
use Rattle.parties.specs.protocol.ClientEvents.{on_rows, room_size, update_answer, scan_answer, message_to}
use Rattle.parties.specs.protocol.Run.{State, Event, hand, Return, by_client, returned, sends, sent_to, upd}
use Rattle.parties.proofs.protocol.formats.EachLaws.{each_append}
use Rattle.parties.proofs.protocol.formats.OwnerLaws.{owner_verdict}
use Rattle.parties.proofs.protocol.formats.MessageLaws.{GoodToNode}
use Rattle.parties.proofs.protocol.model.Model.{Rows, Turn, Model, turned}
use Rattle.parties.proofs.protocol.steps.View.{Shows, Follows, ClientShows, ToNodeShows, GoodRows, phase_of, client_at, rows_at}
use Rattle.parties.proofs.protocol.steps.ViewLaws.{others_turned, read-rows, long-rows, ordinary, refused_follows, record_long, record_reads}

-- ---- what is sent to a node

-- a message that a client's event sends stands last
pub sent-shows : (z : Measures) (e : ClientEnd) (i : ℕ) → 1 ≤ i → i ≤ z.n → (m : ToNode) → message_to z e.answer e.room i ≡ some (write_to_node m)
    → GoodToNode z m → (b : List (List ℕ)) (q : List ToNode) → ToNodeShows z b q → ToNodeShows z (sent_to (sends z e i) b) (q ++ (m ∷ []))
sent-shows z e i lo up m h g b q o =
    record {
      bytes =
          simp (le-leb 1 i lo, le-leb i z.n up)
          (ap (λ (x : Option (List ℕ)). sent_to x b) h
          ∙ ap (λ (x : List (List ℕ)). x ++ (write_to_node m ∷ [])) o.bytes
          ∙ sym (map-append write_to_node q (m ∷ [])));
      good = each_append (GoodToNode z) q (m ∷ []) o.good (g, tt);
    }

-- ---- the answers

module _ (z : Measures) (honest : ℕ → Bool) (passed : passes z ≡ true) (st : State) (s : Model) (o : Shows z honest st s) where
  -- other clients, where a client's answer is taken and its turn changes
  pub others_answered : (c j : ℕ) (t : Turn) (q : List Return) → (j ≡ c → ⊥) → j < z.m
      → ClientShows z (st.clients j) (st.calls j) (upd st.returns c q j) (turned s.c c t) j
  others_answered c j t q ne lj =
      rw (ne_eqb j c ne) (others_turned z (st.clients j) (st.calls j) (st.returns j) s.c c j ne (o.client j lj) t)

  -- an answer that is refused
  pub returned-refused : (ev : Event) (c : ℕ) (q : List Return) (e : ClientEnd) (n : ℕ) → e.answer ≡ refused n → ordinary n ≡ true
      → Follows z honest s ev (returned z c q e st)
  returned-refused ev c q e n r p = rw r (refused_follows z honest st s o ev (by_client (refused n)) n refl p)

  module _ (c : ℕ) (l : c < z.m) (room : List ℕ) where
    -- what an update's answer does
    pub update-opened : room_size z ≤ length room
        → update_answer z c (st.clients c) room ≡ after z (st.clients c) room [] [] (acknowledged_at (client_at z s.c c) room (phase_of z (s.c.turn c)))
    unfolding update_answer
    update-opened enough =
        simp (passed, record_long z honest st s o passed c l, le-leb (room_size z) (length room) enough, lt-ltb c z.m l)
        (ap (λ r. on_client z (st.clients c) room [] r (λ x. acknowledged_at x room x.phase)) (record_reads z honest st s o passed c l))

    pub update-short : length room < room_size z → update_answer z c (st.clients c) room ≡ unchanged (refused 2) (st.clients c) room []
    unfolding update_answer
    update-short h = simp (passed, record_long z honest st s o passed c l, lt-leb (room_size z) (length room) h)

    -- what a scan's answer does
    pub scan-opened : (a : Rows) → GoodRows z a → own_rows 0 (rows_at z a) ≡ true → room_size z ≤ length room
        → scan_answer z c (st.clients c) (write_directory z (rows_at z a)) room
        ≡ after z (st.clients c) room [] [] (scanned_at z c (client_at z s.c c) room (rows_at z a) (phase_of z (s.c.turn c)))
    unfolding scan_answer
    scan-opened a good own enough =
        simp (passed, record_long z honest st s o passed c l, long-rows z a good, le-leb (room_size z) (length room) enough, lt-ltb c z.m l)
        (ap (λ r. on_client z (st.clients c) room [] r
        (λ x. on_rows (rows_verdict z (write_directory z (rows_at z a))) (λ rows. scanned_at z c x room rows x.phase)))
        (record_reads z honest st s o passed c l)
        ∙ ap (λ v. after z (st.clients c) room [] [] (on_rows v (λ rows. scanned_at z c (client_at z s.c c) room rows (phase_of z (s.c.turn c)))))
        (owner_verdict (read_directory z (write_directory z (rows_at z a))) _ true (read-rows z a good) own))

    pub scan-short : (a : Rows) → GoodRows z a → length room < room_size z
        → scan_answer z c (st.clients c) (write_directory z (rows_at z a)) room ≡ unchanged (refused 2) (st.clients c) room []
    unfolding scan_answer
    scan-short a good h = simp (passed, record_long z honest st s o passed c l, long-rows z a good, lt-leb (room_size z) (length room) h)

    -- a short room is refused with 2
    pub update-refused : (q : List Return) → length room < room_size z
        → Follows z honest s (hand c room) (returned z c q (update_answer z c (st.clients c) room) st)
    update-refused q h =
        rw (update-short h)
        (returned-refused (hand c room) c q (unchanged (refused 2) (st.clients c) room []) 2 refl refl)

    pub scan-refused : (q : List Return) (a : Rows) → GoodRows z a → length room < room_size z
        → Follows z honest s (hand c room) (returned z c q (scan_answer z c (st.clients c) (write_directory z (rows_at z a)) room) st)
    scan-refused q a good h =
        rw (scan-short a good h)
        (returned-refused (hand c room) c q (unchanged (refused 2) (st.clients c) room []) 2 refl refl)
