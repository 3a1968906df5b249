use Rattle.std.proofs.Common.{rules}
use Rattle.coding.proofs.OutputLaws.{scatter_more}
use Rattle.coding.proofs.output.scatter_edge.Goals as goal

pub loop-l-preserved : goal.loop-l-preserved
loop-l-preserved c = scatter_more _ _ _ _ _ _ _ _ _ c.loop-l.invariant c.loop-l-test.true (search rules) c.put.ensures
