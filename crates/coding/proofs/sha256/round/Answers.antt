use Rattle.coding.specs.Sha256.{round}
use Rattle.coding.proofs.sha256.round.Goals as goal

pub returns : goal.returns
unfolding round
returns c = rw (← c.constant.ensures) c.turned.ensures
