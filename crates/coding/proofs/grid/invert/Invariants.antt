use Rattle.std.proofs.Common.{length}
use Rattle.coding.proofs.GridLaws.{Nodes, Upto}
use Rattle.coding.proofs.grid.invert.Given as goal

-- The loop keeps what `GridLaws` says of c reduced columns.
abbrev pub invariant-loop-c : goal.invariant-loop-c
invariant-loop-c l = Nodes (length l.nodes) l.nodes → Upto (length l.nodes) l.nodes l.c l.m
