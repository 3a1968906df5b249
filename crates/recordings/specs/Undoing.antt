-- Two calls of which the second undoes the first.
use Rattle.std.specs.Prelude.{◌≡◌, List, ℕ, length, take, drop}
use Rattle.recordings.specs.Answer.{Outcome}
use Rattle.recordings.specs.Arrange.{ArrangeEnd}

-- `there` serves d, and `back` serves what it wrote: its output begins with d, and goes on as it was
pub record Undoes (there back : List ℕ → List ℕ → ArrangeEnd) (d out again : List ℕ) : Type 0 where
  pub written : List ℕ
  pub served : (there d out).outcome ≡ Outcome.done
  pub front : take (length d) (there d out).out ≡ written
  pub beyond : drop (length d) (there d out).out ≡ drop (length d) out
  pub returned : (back written again).outcome ≡ Outcome.done
  pub same : take (length d) (back written again).out ≡ d
  pub kept : drop (length d) (back written again).out ≡ drop (length d) again
