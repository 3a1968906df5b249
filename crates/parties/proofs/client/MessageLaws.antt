-- A message to a client: what each way out leaves.
use mathlib.Core.Path.{◌≡◌, refl, sym, ap, ◌∙◌}
use mathlib.Core.Bool.{Bool, true, ◌&&◌, true≢false}
use mathlib.Core.List.{List}
use mathlib.Core.Option.{Option, some, none}
use Prim.Native.Nat.{ℕ, ◌-◌, ◌*◌, ◌≤◌}
use native.Mathlib.Omega.{arith}
use borrow.Author.Tests.{leb-true}
use lib.Dec.{leb, ltb}
use lib.ListN.{length, take, drop, length-drop}
use lib.Seq.{take_all}
use Rattle.coding.proofs.Cases.{and-true}
use Rattle.parties.specs.declared.Measures.{Measures}
use Rattle.parties.specs.declared.Version.{Version}
use Rattle.parties.specs.protocol.Format.{Read}
use Rattle.parties.specs.protocol.Measures.{passes}
use Rattle.parties.specs.protocol.Message.{ToClient, read_to_client}
use Rattle.parties.specs.protocol.Answer.{ClientAnswer, refused, waits}
use Rattle.parties.specs.protocol.Client.{Client, read_client}
use Rattle.parties.specs.protocol.ClientEvents.{stays, ClientEnd, room_size, unchanged, on_client, guarded, on_message, message_at, client_message}
use Rattle.parties.specs.declared.Phase.{Phase}
use Rattle.std.specs.Prelude.{Option as StdOption, Some, None}
use Rattle.parties.specs.declared.client.tell.Told.{Told}
use Rattle.parties.specs.client.Record.{record_of, area_size, is_some}
use Rattle.parties.specs.client.Publish.{stored_end}
use Rattle.parties.specs.client.Reply.{replied_end}
use Rattle.parties.specs.client.Tell.{told_by}
use Rattle.parties.specs.client.Receive.{received_end}
use Rattle.parties.proofs.client.GateLaws.{long_record, guarded_through}
use Rattle.parties.proofs.client.TellLaws.{reply-long}

-- ---- by what is told

module _ (s : Measures) (i : ℕ) (client message room out : List ℕ) (r : StdOption Told) (e : told_by message r ≡ read_to_client s message) where
  told_as : (k : StdOption Told) → r ≡ k
      → received_end s i client message room out
      ≡ on_client s client room out (read_client s client) (λ c. on_message (told_by message k) (λ m. message_at s i c room out m))
  unfolding received_end
  told_as k f =
      ap (λ (x : Option ToClient). on_client s client room out (read_client s client) (λ c. on_message x (λ m. message_at s i c room out m)))
      (sym e ∙ ap (told_by message) f)

  pub told-stored : (v : Version) → r ≡ Some (Told.Stored v) → received_end s i client message room out ≡ stored_end s i v client room out
  unfolding stored_end
  told-stored v f = told_as (Some (Told.Stored v)) f

  -- with the piece as the code lends it
  pub told-reply : (v : Version) → r ≡ Some (Told.Reply v)
      → received_end s i client message room out ≡ replied_end s i v (some (take (length message - 7) (drop 7 message))) client room out
  unfolding replied_end
  told-reply v f =
      told_as (Some (Told.Reply v)) f
      ∙ ap (λ (x : List ℕ). replied_end s i v (some x) client room out)
      (sym (take_all (length message - 7) (drop 7 message) (omega (arith, length-drop 7 message))))

  pub told-missing : (v : Version) → r ≡ Some (Told.Missing v) → received_end s i client message room out ≡ replied_end s i v none client room out
  unfolding replied_end
  told-missing v f = told_as (Some (Told.Missing v)) f

  -- a step that changes nothing
  still : (a : ClientAnswer) (o : Option (Read Client)) → is_some o ≡ true → on_client s client room out o (λ c. stays a) ≡ unchanged a client room out
  still a none g = absurd (true≢false (sym g))
  still a (some x) g = refl

  pub told-freed : r ≡ Some Told.Freed → is_some (read_client s client) ≡ true → received_end s i client message room out ≡ unchanged waits client room out
  told-freed f g = told_as (Some Told.Freed) f ∙ still waits (read_client s client) g

  pub told-broken : r ≡ None → is_some (read_client s client) ≡ true → received_end s i client message room out ≡ unchanged (refused 4) client room out
  told-broken f g = told_as None f ∙ still (refused 4) (read_client s client) g

pub told-long : (s : Measures) (message : List ℕ) (r : StdOption Told) → told_by message r ≡ read_to_client s message → (v : Version) → r ≡ Some (Told.Reply v) → 7 ≤ length message
told-long s message r e v f = reply-long s message v (drop 7 message) (sym (ap (told_by message) f) ∙ e)

-- ---- the gate

module _ (s : Measures) (own i : ℕ) (p : Phase) (area message room out : List ℕ) where
  abbrev bytes : List ℕ
  bytes = record_of p area

  abbrev refuses : ClientAnswer → ClientEnd
  refuses a = unchanged a bytes room out

  abbrev enough : Bool
  enough = leb (area_size s) (length area) && (leb (room_size s) (length room) && leb (s.k * s.f - 4) (length out))

  module _ (within : Bool) (f : within ≡ (ltb own s.m && (leb 1 i && leb i s.n))) where
    pub message_guarded : client_message s own i bytes message room out ≡ guarded s enough within (received_end s i bytes message room out) refuses
    unfolding client_message received_end
    message_guarded =
        ap (λ (b : Bool).
        guarded s (b && (leb (room_size s) (length room) && leb (s.k * s.f - 4) (length out))) (ltb own s.m && (leb 1 i && leb i s.n))
        (received_end s i bytes message room out) refuses)
        (long_record s p area)
        ∙ (λ j. guarded s enough (sym f j) (received_end s i bytes message room out) refuses)

    pub message_through : passes s ≡ true → enough ≡ true → within ≡ true → client_message s own i bytes message room out ≡ received_end s i bytes message room out
    message_through h x y = message_guarded ∙ guarded_through s enough within (received_end s i bytes message room out) refuses h x y

    pub message_room : enough ≡ true → (room_size s ≤ length room) × (s.k * s.f - 4 ≤ length out)
    message_room x =
        let y = and-true (leb (room_size s) (length room)) (leb (s.k * s.f - 4) (length out)) (and-true (leb (area_size s) (length area)) _ x).1 in
        (leb-true (room_size s) (length room) y.0, leb-true (s.k * s.f - 4) (length out) y.1)

    pub message_node : within ≡ true → (1 ≤ i) × (i ≤ s.n)
    message_node x =
        let y = and-true (leb 1 i) (leb i s.n) (and-true (ltb own s.m) _ (sym f ∙ x)).1 in (leb-true 1 i y.0, leb-true i s.n y.1)
