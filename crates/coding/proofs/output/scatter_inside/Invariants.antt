use Rattle.coding.proofs.OutputLaws.{Scatter}
use Rattle.coding.proofs.output.scatter_inside.Given as goal

-- The first l lanes are placed.
abbrev pub invariant-loop-l : goal.invariant-loop-l
invariant-loop-l l = Scatter l.v 16 l.from l.k l.len l.initial.out l.out l.l
