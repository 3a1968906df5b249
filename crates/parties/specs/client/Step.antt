-- Where the rows of a scan or a message lead a client: its answer says which step comes next.
use Rattle.std.specs.Prelude.{ℕ, Result, Ok, Err}
use Rattle.parties.specs.protocol.Client.{idle_step, storing_step, updating_step, fetching_step}
use Rattle.parties.specs.declared.ClientAnswer.{ClientAnswer}
use Rattle.parties.specs.declared.Phase.{Phase}
use Rattle.parties.specs.declared.Refusal.{Refusal}

abbrev pub at_step : Phase → ℕ → Phase
at_step p n = record { step = n; reading = p.reading }

-- a scan's call is no answer to either
abbrev pub phase_after : Phase → ClientAnswer → Phase
phase_after p ClientAnswer.Waits = p
phase_after p ClientAnswer.Scan = p
phase_after p (ClientAnswer.Update len) = at_step p updating_step
phase_after p (ClientAnswer.Stores v len) = at_step p storing_step
phase_after p (ClientAnswer.Requests v nodes) = at_step p fetching_step
phase_after p (ClientAnswer.Deposited v len) = at_step p idle_step
phase_after p ClientAnswer.Empty = at_step p idle_step
phase_after p (ClientAnswer.Page v len) = at_step p idle_step
phase_after p ClientAnswer.Spent = at_step p idle_step
phase_after p ClientAnswer.Failed = at_step p idle_step

-- a refusal leaves the phase
abbrev pub phase_left : Phase → Result ClientAnswer Refusal → Phase
phase_left p (Ok a) = phase_after p a
phase_left p (Err r) = p
