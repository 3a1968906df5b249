use Rattle.std.proofs.Common.{◌≡◌, ℕ, ◌<◌, [], length, get_or}
use Rattle.coding.specs.Grid.{Powers}
use Rattle.coding.proofs.grid.build.Given as goal

-- The loop has filled the first s rows.
abbrev pub invariant-loop-s : goal.invariant-loop-s
invariant-loop-s l = (length l.m ≡ 16) × ((i : ℕ) → i < l.s → Powers (length l.nodes) (get_or l.nodes i 0) i (get_or l.m i []))
