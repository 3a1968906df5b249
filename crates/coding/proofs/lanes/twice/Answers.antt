use Rattle.std.proofs.Common.{rules}
use Rattle.coding.proofs.LaneLaws.{twice_rule}
use Rattle.coding.proofs.lanes.twice.Goals as goal

pub returns : goal.returns
returns c = twice_rule c.args.x (search rules)
