-- A list of events and one more. A delivery hands over what stands first in its queue, by the event's definition, and nothing that was not sent.
use mathlib.Core.Path.{◌≡◌, refl, ap, ◌∙◌}
use mathlib.Core.Bool.{Bool, true, false, cond}
use mathlib.Core.List.{List, [], ◌∷◌, ◌++◌}
use Prim.Native.Nat.{ℕ}
use Rattle.parties.specs.declared.Measures.{Measures}
use Rattle.parties.specs.protocol.ClientEvents.{update_answer, scan_answer, client_message}
use Rattle.parties.specs.protocol.DirectoryEvents.{directory_update, directory_scan}
use Rattle.parties.specs.protocol.NodeEvents.{node_message}
use Rattle.parties.specs.protocol.Run.{State, Call, scan_call, update_call, Return, updated, rows, nothing, tick, stays, carry_out, carry, hand, bring}
use Rattle.parties.specs.protocol.Run.{Event, run, deliver, carries, scan_by, update_by, handed, returned, brought, keeps, lost, delivered, told, upd₂}

pub run-last : (s : Measures) (honest : ℕ → Bool) (es : List Event) (e : Event) (st : State)
    → run s honest (es ++ (e ∷ [])) st ≡ (carry_out s honest e (run s honest es st)).state
unfolding run
run-last s honest [] e st = refl
run-last s honest (x ∷ es) e st = run-last s honest es e (carry_out s honest x st).state

module _ (s : Measures) (honest : ℕ → Bool) (st : State) where
  pub head_scan : (c : ℕ) (room : List ℕ) (q : List Call) → st.calls c ≡ scan_call ∷ q
      → carry_out s honest (carry c room) st ≡ scan_by c q (directory_scan s st.directory room) st
  unfolding carry_out
  head_scan c room q e = ap (λ (x : List Call). carries s c room x st) e

  pub head_update : (c : ℕ) (room fields : List ℕ) (q : List Call) → st.calls c ≡ update_call fields ∷ q
      → carry_out s honest (carry c room) st ≡ update_by s c fields q (directory_update s c st.directory fields) st
  unfolding carry_out
  head_update c room fields q e = ap (λ (x : List Call). carries s c room x st) e

  pub head_updated : (c : ℕ) (room : List ℕ) (q : List Return) → st.returns c ≡ updated ∷ q
      → carry_out s honest (hand c room) st ≡ returned s c q (update_answer s c (st.clients c) room) st
  unfolding carry_out
  head_updated c room q e = ap (λ (x : List Return). handed s c room x st) e

  pub head_rows : (c : ℕ) (room b : List ℕ) (q : List Return) → st.returns c ≡ rows b ∷ q
      → carry_out s honest (hand c room) st ≡ returned s c q (scan_answer s c (st.clients c) b room) st
  unfolding carry_out
  head_rows c room b q e = ap (λ (x : List Return). handed s c room x st) e

  pub head_to_node : (c i : ℕ) (room m : List ℕ) (q : List (List ℕ)) → honest i ≡ true → st.to_node c i ≡ m ∷ q
      → carry_out s honest (bring c i room) st ≡ keeps c i q (node_message s i (st.nodes i) m room) (node_message s i (st.nodes i) m room).answer st
  unfolding carry_out
  head_to_node c i room m q h e =
      ap (λ (x : List (List ℕ)). brought s honest c i room x st) e
      ∙ ap (λ (b : Bool). cond b (keeps c i q (node_message s i (st.nodes i) m room) (node_message s i (st.nodes i) m room).answer st) (lost c i q st)) h

  pub head_lost : (c i : ℕ) (room m : List ℕ) (q : List (List ℕ)) → honest i ≡ false → st.to_node c i ≡ m ∷ q
      → carry_out s honest (bring c i room) st ≡ lost c i q st
  unfolding carry_out
  head_lost c i room m q h e =
      ap (λ (x : List (List ℕ)). brought s honest c i room x st) e
      ∙ ap (λ (b : Bool). cond b (keeps c i q (node_message s i (st.nodes i) m room) (node_message s i (st.nodes i) m room).answer st) (lost c i q st)) h

  pub head_to_client : (i c : ℕ) (room out m : List ℕ) (q : List (List ℕ)) → st.to_client i c ≡ m ∷ q
      → carry_out s honest (deliver i c room out) st ≡ told s c i m (upd₂ st.to_client i c q) (client_message s c i (st.clients c) m room out) st
  unfolding carry_out
  head_to_client i c room out m q e = ap (λ (x : List (List ℕ)). delivered s i c room out x st) e

  -- nothing under way: nothing happens
  pub none_to_node : (c i : ℕ) (room : List ℕ) → st.to_node c i ≡ [] → carry_out s honest (bring c i room) st ≡ stays nothing (tick st.history) st
  unfolding carry_out
  none_to_node c i room e = ap (λ (x : List (List ℕ)). brought s honest c i room x st) e

  pub none_to_client : (i c : ℕ) (room out : List ℕ) → st.to_client i c ≡ []
      → carry_out s honest (deliver i c room out) st ≡ stays nothing (tick st.history) st
  unfolding carry_out
  none_to_client i c room out e = ap (λ (x : List (List ℕ)). delivered s i c room out x st) e

  pub none-called : (c : ℕ) (room : List ℕ) → st.calls c ≡ [] → carry_out s honest (carry c room) st ≡ stays nothing (tick st.history) st
  unfolding carry_out
  none-called c room e = ap (λ (x : List Call). carries s c room x st) e

  pub none-returned : (c : ℕ) (room : List ℕ) → st.returns c ≡ [] → carry_out s honest (hand c room) st ≡ stays nothing (tick st.history) st
  unfolding carry_out
  none-returned c room e = ap (λ (x : List Return). handed s c room x st) e
