use Rattle.std.proofs.Common.{arith}
use Rattle.vectors.proofs.BytesLaws.{poison_none, poison_more}
use Rattle.vectors.proofs.poison.Goals as goal

pub loop-i-init : goal.loop-i-init
loop-i-init c = poison_none c.args.s.now

pub loop-i-preserved : goal.loop-i-preserved
loop-i-preserved c = poison_more c.loop-i.s c.loop-i.i (omega arith) c.loop-i.invariant
