use native.Mathlib.Omega.{arith}
use Rattle.parties.proofs.records.BytesLaws.{up_none, up_more, up_rest}
use Rattle.parties.proofs.records.bytes.move_up.Goals as goal

pub loop-p-init : goal.loop-p-init
loop-p-init c = up_none _ _ _ _ c.requires.0

pub loop-p-preserved : goal.loop-p-preserved
loop-p-preserved c = up_more _ _ _ _ c.requires.1 _ _ c.loop-p.invariant _ 512 (omega arith) (omega arith) _ c.move_block.ensures

pub returns : goal.returns
returns c = (up_rest _ _ _ _ c.requires.1 _ _ c.loop-p.invariant _ c.copy_within.ensures.after).moved
