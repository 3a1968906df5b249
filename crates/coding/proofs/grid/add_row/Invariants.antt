use Rattle.std.proofs.Common.{◌≡◌, length}
use Rattle.coding.specs.Grid.{Added}
use Rattle.coding.proofs.grid.add_row.Given as goal

-- The loop has filled the first t entries of each half.
abbrev pub invariant-loop-t : goal.invariant-loop-t
invariant-loop-t l = (length l.out ≡ 32) × Added l.t l.f l.row l.other l.out
