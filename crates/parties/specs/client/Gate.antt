-- What the tests before an event at a client say.
use Rattle.std.specs.Prelude.{◌≡◌, Bool, true, List, ℕ, Result, Ok, Err}
use Rattle.parties.specs.declared.Measures.{Measures}
use Rattle.parties.specs.protocol.Answer.{refused}
use Rattle.parties.specs.protocol.Client.{Client, read_client}
use Rattle.parties.specs.protocol.ClientEvents.{Step, unchanged, on_client, guarded}
use Rattle.parties.specs.declared.Phase.{Phase}
use Rattle.parties.specs.declared.Refusal.{Refusal}
use Rattle.parties.specs.records.Answer.{number}
use Rattle.parties.specs.client.Record.{record_of, is_some}

-- passed: the event finds a client's record; else, whatever the event's step is, it is refused with this number
abbrev pub Gated : Measures → Phase → List ℕ → Bool → Bool → Result (Unit {0}) Refusal → Type 0
Gated s p area enough within (Ok x) = (enough ≡ true) × (within ≡ true) × (is_some (read_client s (record_of p area)) ≡ true)
Gated s p area enough within (Err r) =
    (room out : List ℕ) (f : Client → Step)
    → guarded s enough within (on_client s (record_of p area) room out (read_client s (record_of p area)) f) (λ a. unchanged a (record_of p area) room out)
    ≡ unchanged (refused (number r)) (record_of p area) room out
