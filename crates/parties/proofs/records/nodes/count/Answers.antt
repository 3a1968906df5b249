use native.Mathlib.Omega.{arith}
use Rattle.parties.proofs.records.NodesLaws.{ones_all}
use Rattle.parties.proofs.records.nodes.count.Goals as goal

pub returns : goal.returns
returns c = ones_all c.args.map (omega arith)
