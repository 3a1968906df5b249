use Rattle.std.proofs.Common.{refl, arith, rules}
use Rattle.coding.proofs.Sha256Laws.{block_turn}
use Rattle.coding.specs.Sha256.{words}
use Rattle.coding.proofs.sha256.block.Goals as goal

pub loop-j-init : goal.loop-j-init
unfolding words
loop-j-init c = (refl, refl)

pub loop-j-preserved : goal.loop-j-preserved
loop-j-preserved c = (
  search rules,
  block_turn _ _ _ _ _ (omega arith) c.loop-j.invariant.1 c.word.ensures,
)
