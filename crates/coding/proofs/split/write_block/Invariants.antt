use Rattle.coding.proofs.SplitLaws.{Rows}
use Rattle.coding.proofs.split.write_block.Given as goal

-- The rows from r on stand in the sums.
abbrev pub invariant-loop-r : goal.invariant-loop-r
invariant-loop-r l = Rows l.first l.n l.f l.k l.page l.j l.m l.r l.initial.room l.room
