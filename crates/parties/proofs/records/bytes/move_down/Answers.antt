use native.Mathlib.Omega.{arith}
use Rattle.parties.proofs.records.BytesLaws.{down_none, down_more, down_rest}
use Rattle.parties.proofs.records.bytes.move_down.Goals as goal

pub loop-p-init : goal.loop-p-init
loop-p-init c = down_none _ _ _ _ c.requires.1

pub loop-p-preserved : goal.loop-p-preserved
loop-p-preserved c = down_more _ _ _ _ c.requires.0 c.requires.2 _ _ c.loop-p.invariant _ 512 (omega arith) (omega arith) _ c.move_block.ensures

pub returns : goal.returns
returns c = (down_rest _ _ _ _ c.requires.0 c.requires.2 _ _ c.loop-p.invariant _ c.copy_within.ensures.after).moved
