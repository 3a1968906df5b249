-- What a call's answer says in document 02's terms: that it is done, or the number of its refusal.
use Rattle.std.specs.Prelude.{ℕ, Result, Ok, Err}
use Rattle.recordings.specs.declared.answer.Refusal.{Refusal}
use Rattle.recordings.specs.declared.answer.Refusal.TheVariants.{Short, Width}

pub data Outcome : Type 0 where
  done : Outcome
  refuses : ℕ → Outcome

abbrev pub number : Refusal → ℕ
number Short = 2
number Width = 15

abbrev pub outcome : Result (Unit {0}) Refusal → Outcome
outcome (Ok _) = Outcome.done
outcome (Err r) = Outcome.refuses (number r)
