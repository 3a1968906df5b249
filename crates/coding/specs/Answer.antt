-- What a call's answer says in document 01's terms: the number that it gives, or the number of its refusal.
use Rattle.std.specs.Prelude.{ℕ, Result, Ok, Err}
use Rattle.coding.specs.declared.answer.Refusal.{Refusal}
use Rattle.coding.specs.declared.answer.Refusal.TheVariants.{Measures, Short, Number, Form, TooLong, TooFew}

pub data Outcome : Type 0 where
  gives : ℕ → Outcome
  refuses : ℕ → Outcome

abbrev pub number : Refusal → ℕ
number Measures = 1
number Short = 2
number Number = 3
number Form = 4
number TooLong = 6
number TooFew = 9

-- a split, whole or of one piece, gives the length of a piece; a join gives the length of the page
abbrev pub outcome : Result ℕ Refusal → Outcome
outcome (Ok len) = gives len
outcome (Err r) = refuses (number r)
