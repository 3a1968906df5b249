-- An answer as one number.
use Rattle.std.specs.Prelude.{ℕ, ◌+◌, ◌^◌}
use Rattle.recordings.specs.Answer.{Outcome, done, refuses}

-- 0; or 2^32 and document 02's number of the refusal
abbrev pub code : Outcome → ℕ
code done = 0
code (refuses n) = 2 ^ 32 + n
