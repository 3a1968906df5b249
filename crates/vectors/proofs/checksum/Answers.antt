use Rattle.std.proofs.Common.{◌∙◌, arith, sym}
use Rattle.vectors.proofs.BytesLaws.{sum_more, sum_all}
use Rattle.vectors.proofs.checksum.Goals as goal

pub loop-b-preserved : goal.loop-b-preserved
loop-b-preserved c = (
  omega arith,
  sum_more c.args.s.now c.loop-b.b-index c.loop-b.h c.from.result (omega arith) c.from.ensures ∙ c.loop-b.invariant.1,
)

pub returns : goal.returns
returns c =
    record { sum = sym (sum_all _ c.loop-b.b-index _ (omega arith)) ∙ c.loop-b.invariant.1; bound = c.loop-b.invariant.0 }
