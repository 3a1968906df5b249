use Rattle.std.proofs.Common.{arith}
use Rattle.std.proofs.lemmas.Grind.{common_steps}
use Rattle.coding.specs.Pieces.{proper}
use Rattle.coding.proofs.measures.proper_measures.Goals as goal

pub returns-then-f-le4096 : goal.returns-then-f-le4096
unfolding proper
returns-then-f-le4096 c = grind (arith, common_steps)

pub returns-else-f-le4096 : goal.returns-else-f-le4096
unfolding proper
returns-else-f-le4096 c = grind (arith, common_steps)
