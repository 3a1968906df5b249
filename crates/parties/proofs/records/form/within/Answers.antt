use Rattle.coding.proofs.NodesLaws.{shifted_out}
use Rattle.parties.proofs.records.form.within.Goals as goal

pub returns : goal.returns
returns c = shifted_out c.args.map c.args.n
