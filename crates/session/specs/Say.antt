-- The line that tells how an operation ended.
use Rattle.std.specs.Prelude.{List, ℕ, take, Ok, Err}
use Rattle.std.proofs.Math.Option.{Option, some, none}
use Rattle.lines.specs.Text.{Written, written, put_line}
use Rattle.lines.specs.Sentences.{refused_line, deposited_line, nothing_line, page_line}
use Rattle.parties.specs.records.Answer.{number}
use Rattle.parties.specs.declared.ClientAnswer.{ClientAnswer}
use Rattle.runs.specs.declared.answer.Happened.{Happened}

-- of client c, with what stands in the output
abbrev pub client_line : ℕ → ClientAnswer → List ℕ → Option (List ℕ)
client_line c ClientAnswer.Waits out = none
client_line c ClientAnswer.Scan out = none
client_line c (ClientAnswer.Update n) out = none
client_line c (ClientAnswer.Stores v n) out = none
client_line c (ClientAnswer.Requests v nodes) out = none
client_line c (ClientAnswer.Deposited v n) out = some (deposited_line c v.sequence.0)
client_line c ClientAnswer.Empty out = some (nothing_line c)
client_line c (ClientAnswer.Page v n) out = some (page_line c v.sequence.0 v.client (take n out))
client_line c ClientAnswer.Spent out = some (refused_line 7)
client_line c ClientAnswer.Failed out = some (refused_line 9)

abbrev pub happened_line : ℕ → Happened → List ℕ → Option (List ℕ)
happened_line c (Happened.Refused r) out = some (refused_line (number r))
happened_line c Happened.Nothing out = none
happened_line c Happened.Taken out = none
happened_line c (Happened.ByClient (Err r)) out = some (refused_line (number r))
happened_line c (Happened.ByClient (Ok a)) out = client_line c a out
happened_line c (Happened.ByServer a) out = none

-- it is put at the front of the text; if there is none, the text stays as it was, and the answer is 0
abbrev pub put_told : List ℕ → Option (List ℕ) → Written
put_told text none = written text 0
put_told text (some l) = put_line text l
