-- The papers' number of each refusal.
use Rattle.std.specs.Prelude.{ℕ}
use Rattle.parties.specs.declared.Refusal.{Refusal}
use Rattle.parties.specs.declared.Refusal.TheVariants.{Measures, Short, Number, Form, Length, Rule, Owner, OutOfTurn, TooLong, Spent, Full}

abbrev pub number : Refusal → ℕ
number Measures = 1
number Short = 2
number Number = 3
number Form = 4
number Length = 11
number Rule = 12
number Owner = 14
number OutOfTurn = 5
number TooLong = 6
number Spent = 7
number Full = 8
