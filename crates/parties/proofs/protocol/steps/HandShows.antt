-- Answers of directory calls handed to their clients are steps of the model.
use mathlib.Core.Path.{◌≡◌, refl, ap}
use mathlib.Core.Bool.{Bool, true, false, ◌&&◌}
use mathlib.Core.List.{List, [], ◌∷◌}
use Prim.Native.Nat.{ℕ, ◌*◌, ◌≤◌, ◌<◌}
use native.Mathlib.Omega.{arith}
use native.Mathlib.Decide.{dec_lt}
use borrow.Author.Tests.{le-ltb}
use lib.Dec.{leb}
use lib.ListN.{length}
use Rattle.coding.specs.Bytes.{Bytes}
use Rattle.parties.specs.declared.Measures.{Measures}
use Rattle.parties.specs.protocol.Measures.{passes, row_size}
use Rattle.parties.specs.protocol.Client.{client_size}
use Rattle.parties.specs.protocol.Answer.{refused}
use Rattle.parties.specs.protocol.ClientEvents.{ClientEnd, room_size, unchanged, update_answer, scan_answer}
use Rattle.parties.specs.protocol.Run.{State, Return, updated, rows, returned, handed, carry_out, hand}
use Rattle.parties.proofs.protocol.model.Model.{Turn, Model}
use Rattle.parties.proofs.protocol.invariants.Invariant.{Invariant}
use Rattle.parties.proofs.protocol.steps.View.{Shows, Follows, returns_of}
use Rattle.parties.proofs.protocol.steps.ViewLaws.{ordinary, silent_follows}
use Rattle.parties.proofs.protocol.events.HandLaws.{returned-refused}
use Rattle.parties.proofs.protocol.steps.DrawShows.{updated_follows, raised_follows, drawn_follows}
use Rattle.parties.proofs.protocol.steps.ScanShows.{frozen_follows, picked_follows}

module _ (z : Measures) (honest : ℕ → Bool) (passed : passes z ≡ true) (st : State) (s : Model) (o : Shows z honest st s) where
  -- nothing is under way
  still : (c : ℕ) (room : List ℕ) → Follows z honest s (hand c room) (handed z c room [] st)
  still c room = silent_follows z honest st s o (hand c room)

  -- an answer that is refused
  refusal : (c : ℕ) (room : List ℕ) (q : List Return) (e : ClientEnd) (n : ℕ) → ordinary n ≡ true → e ≡ unchanged (refused n) (st.clients c) room []
      → Follows z honest s (hand c room) (returned z c q e st)
  refusal c room q e n p f = returned-refused z honest passed st s o (hand c room) c q e n (ap (λ (x : ClientEnd). x.answer) f) p

  -- a client number out of bounds is 3, or 2 where a slice is too short
  stranger : (c : ℕ) (room : List ℕ) → z.m ≤ c → (q : List Return) → Follows z honest s (hand c room) (handed z c room q st)
  unfolding update_answer scan_answer
  stranger c room l [] = still c room
  stranger c room l (updated ∷ q) = go (leb (client_size z) (length (st.clients c)) && leb (room_size z) (length room)) refl
    where
      go : (b : Bool) → (leb (client_size z) (length (st.clients c)) && leb (room_size z) (length room)) ≡ b
          → Follows z honest s (hand c room) (returned z c q (update_answer z c (st.clients c) room) st)
      go true e = refusal c room q (update_answer z c (st.clients c) room) 3 refl (simp (passed, e, le-ltb c z.m l))
      go false e = refusal c room q (update_answer z c (st.clients c) room) 2 refl (simp (passed, e))
  stranger c room l (rows b ∷ q) =
      go (leb (client_size z) (length (st.clients c)) && (leb (z.m * row_size z) (length b) && leb (room_size z) (length room))) refl
    where
      go : (x : Bool) → (leb (client_size z) (length (st.clients c)) && (leb (z.m * row_size z) (length b) && leb (room_size z) (length room))) ≡ x
          → Follows z honest s (hand c room) (returned z c q (scan_answer z c (st.clients c) b room) st)
      go true e = refusal c room q (scan_answer z c (st.clients c) b room) 3 refl (simp (passed, e, le-ltb c z.m l))
      go false e = refusal c room q (scan_answer z c (st.clients c) b room) 2 refl (simp (passed, e))

  module _ (inv : Invariant z honest s) (c : ℕ) (l : c < z.m) (room : List ℕ) (b : Bytes room) where
    -- by the client's turn
    at_turn : (t : Turn) → s.c.turn c ≡ t → Follows z honest s (hand c room) (handed z c room (returns_of z t) st)
    at_turn Turn.idle e = still c room
    at_turn (Turn.scanning bytes) e = still c room
    at_turn (Turn.scanned bytes a) e = drawn_follows z honest passed st s o inv c bytes a l e room b
    at_turn (Turn.storing v bytes a) e = still c room
    at_turn (Turn.updating x) e = still c room
    at_turn (Turn.updated x) e = updated_follows z honest passed st s o c l room x e
    at_turn (Turn.freezing x) e = still c room
    at_turn (Turn.noticing x a) e = frozen_follows z honest passed st s o inv c x a l e room
    at_turn Turn.raising e = still c room
    at_turn Turn.raised e = raised_follows z honest passed st s o c l room e
    at_turn Turn.picking e = still c room
    at_turn (Turn.picked a) e = picked_follows z honest passed st s o inv c a l e room
    at_turn (Turn.fetching x n m ps) e = still c room

  pub hand_follows : Invariant z honest s → (c : ℕ) (room : List ℕ) → Bytes room → Follows z honest s (hand c room) (carry_out z honest (hand c room) st)
  unfolding carry_out
  hand_follows inv c room b = go (dec_lt c z.m)
    where
      go : Dec (c < z.m) → Follows z honest s (hand c room) (handed z c room (st.returns c) st)
      go (yes l) = rw (o.client c l).returns (at_turn inv c l room b (s.c.turn c) refl)
      go (no l) = stranger c room (omega arith) (st.returns c)
