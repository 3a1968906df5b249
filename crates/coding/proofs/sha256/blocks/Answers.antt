use Rattle.std.proofs.Common.{refl}
use Rattle.coding.proofs.Sha256Laws.{hash_turn}
use Rattle.coding.specs.Sha256.{hash}
use Rattle.coding.proofs.sha256.blocks.Goals as goal

pub loop-i-init : goal.loop-i-init
unfolding hash
loop-i-init c = refl

pub loop-i-preserved : goal.loop-i-preserved
loop-i-preserved c =
    hash_turn _ c.args.s.now _ _ _ _ c.loop-i.invariant c.block.ensures c.compress-next.ensures
