use Rattle.coding.proofs.NodesLaws.{shifted_out}
use Rattle.coding.proofs.nodes.within.Goals as goal

pub returns : goal.returns
returns c = rw c.from.ensures (shifted_out c.args.map c.args.n)
