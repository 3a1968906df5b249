-- An answer as one number.
use Rattle.std.specs.Prelude.{ℕ, ◌+◌, ◌^◌}
use Rattle.coding.specs.Answer.{Outcome, gives, refuses}

-- the length that is given; or 2^32 and document 01's number of the refusal
abbrev pub code : Outcome → ℕ
code (gives len) = len
code (refuses n) = 2 ^ 32 + n
