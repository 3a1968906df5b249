-- What a step of an event at a client leaves, as the event's definition on the bytes of a record has it.
use Rattle.std.specs.Prelude.{List, ℕ, Result}
use Rattle.parties.specs.protocol.ClientEvents.{ClientEnd}
use Rattle.parties.specs.declared.ClientAnswer.{ClientAnswer}
use Rattle.parties.specs.declared.Phase.{Phase}
use Rattle.parties.specs.declared.Refusal.{Refusal}
use Rattle.parties.specs.client.Answer.{answered}
use Rattle.parties.specs.client.Record.{record_of}
use Rattle.parties.specs.client.Step.{phase_left}

abbrev pub step_end : Phase → Result ClientAnswer Refusal → List ℕ → List ℕ → List ℕ → ClientEnd
step_end p a area room out = record { answer = answered a; client = record_of (phase_left p a) area; room = room; out = out }
