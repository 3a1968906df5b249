use Rattle.session.specs.Settle.{Hands}
use Rattle.session.proofs.settle.settle.Goals as goal

pub loop-turn-init : goal.loop-turn-init
loop-turn-init c = Hands.begun
