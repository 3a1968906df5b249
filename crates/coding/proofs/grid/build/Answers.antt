use Rattle.std.proofs.Common.{[], length, get_or, arith, length-set}
use Rattle.coding.specs.Grid.{Powers}
use Rattle.coding.proofs.BytesLaws.{stored_more}
use Rattle.coding.proofs.grid.build.Goals as goal

pub loop-s-preserved : goal.loop-s-preserved
loop-s-preserved c =
    let l = c.loop-s in
    let a = c.args in (
      simp length-set l.invariant.0,
      stored_more [] (λ i row. Powers (length a.nodes.now) (get_or a.nodes.now i 0) i row) l.s l.m _ (omega arith) l.invariant.1 c.powers.ensures,
    )
