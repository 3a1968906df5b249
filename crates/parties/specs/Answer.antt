-- What an answer of the directory or a node says.
use Rattle.std.specs.Prelude.{ℕ, Result, Ok, Err}
use Rattle.parties.specs.protocol.Answer.{Served, refuses, serves}
use Rattle.parties.specs.records.Answer.{number}
use Rattle.parties.specs.declared.Refusal.{Refusal}

abbrev pub served : Result ℕ Refusal → Served
served (Ok len) = serves len
served (Err r) = refuses (number r)
