use Rattle.std.proofs.Common.{arith}
use Rattle.coding.proofs.Sha256Laws.{length-padding}
use Rattle.coding.proofs.sha256.last_len.Goals as goal

pub returns-then-n-lt56 : goal.returns-then-n-lt56
returns-then-n-lt56 c = omega (arith, length-padding c.args.n)

pub returns-else-n-lt56 : goal.returns-else-n-lt56
returns-else-n-lt56 c = omega (arith, length-padding c.args.n)
