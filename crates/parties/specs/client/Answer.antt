-- What an answer of an event at a client says.
use Rattle.std.specs.Prelude.{Result, Ok, Err}
use Rattle.parties.specs.protocol.Answer.{ClientAnswer as Answer, refused, waits, scan, update, stores, requests, deposited, empty, page, spent, failed}
use Rattle.parties.specs.records.Answer.{number}
use Rattle.parties.specs.declared.ClientAnswer.{ClientAnswer}
use Rattle.parties.specs.declared.Phase.{Phase}
use Rattle.parties.specs.declared.Refusal.{Refusal}
use Rattle.parties.specs.declared.Turned.{Turned}

abbrev pub answered : Result ClientAnswer Refusal → Answer
answered (Err r) = refused (number r)
answered (Ok ClientAnswer.Waits) = waits
answered (Ok ClientAnswer.Scan) = scan
answered (Ok (ClientAnswer.Update len)) = update len
answered (Ok (ClientAnswer.Stores v len)) = stores v len
answered (Ok (ClientAnswer.Requests v nodes)) = requests v nodes
answered (Ok (ClientAnswer.Deposited v len)) = deposited v len
answered (Ok ClientAnswer.Empty) = empty
answered (Ok (ClientAnswer.Page v len)) = page v len
answered (Ok ClientAnswer.Spent) = spent
answered (Ok ClientAnswer.Failed) = failed

-- of an event by value: its answer, and the phase after it, which a refusal leaves
abbrev pub answer_of : Result Turned Refusal → Result ClientAnswer Refusal
answer_of (Ok t) = Ok t.answer
answer_of (Err r) = Err r

abbrev pub phase_of : Phase → Result Turned Refusal → Phase
phase_of p (Ok t) = t.phase
phase_of p (Err r) = p
