use Rattle.std.proofs.Common.{◌≡◌, ℕ, ◌+◌, ◌<◌, length, get_or}
use Rattle.coding.specs.Field.{power as pow}
use Rattle.coding.proofs.grid.powers.Given as goal

-- The loop has filled the first t powers, and the right half is still 0.
abbrev pub invariant-loop-t : goal.invariant-loop-t
invariant-loop-t l =
    (length l.row ≡ 32)
    × (l.power ≡ pow l.x l.t)
    × ((i : ℕ) → i < l.t → get_or l.row i 0 ≡ pow l.x i)
    × ((i : ℕ) → get_or l.row (16 + i) 0 ≡ 0)
