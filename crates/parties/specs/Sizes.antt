-- Sizes that follow from the measures.
use Rattle.std.specs.Prelude.{cond, ℕ, ◌≤◌}
use Rattle.parties.specs.declared.Measures.{Measures}
use Rattle.parties.specs.protocol.Measures.{passes, row_size}
use Rattle.parties.specs.protocol.Answer.{ClientAnswer, refused, waits, scan, update, stores, requests, deposited, empty, page, spent, failed}

-- one that is asked for whatever the measures: 0 where they do not pass
abbrev pub sized : Measures → ℕ → ℕ
sized s size = cond (passes s) size 0

-- what an answer of a client sends: an update's record and a list to drop are no longer than a row's area, a piece than F bytes
abbrev pub Sized : Measures → ClientAnswer → Type 0
Sized s (refused n) = Unit {0}
Sized s waits = Unit {0}
Sized s scan = Unit {0}
Sized s (update len) = len ≤ row_size s
Sized s (stores v len) = len ≤ s.f
Sized s (requests v nodes) = Unit {0}
Sized s (deposited v len) = len ≤ row_size s
Sized s empty = Unit {0}
Sized s (page v len) = Unit {0}
Sized s spent = Unit {0}
Sized s failed = Unit {0}
