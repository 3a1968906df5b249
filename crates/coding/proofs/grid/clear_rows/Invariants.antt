use Rattle.std.proofs.Common.{◌≡◌, ℕ, ◌<◌, [], length, get_or}
use Rattle.coding.specs.Grid.{Cleared}
use Rattle.coding.proofs.grid.clear_rows.Given as goal

-- The loop has filled the first r rows.
abbrev pub invariant-loop-r : goal.invariant-loop-r
invariant-loop-r l = (length l.out ≡ 16) × ((i : ℕ) → i < l.r → Cleared l.k l.c i l.pivot (get_or l.m i []) (get_or l.out i []))
