use Rattle.std.proofs.Common.{[], get_or, arith, length-set}
use Rattle.coding.specs.Grid.{Cleared}
use Rattle.coding.proofs.BytesLaws.{stored_more}
use Rattle.coding.proofs.grid.clear_rows.Goals as goal

pub loop-r-preserved : goal.loop-r-preserved
loop-r-preserved c =
    let l = c.loop-r in
    let a = c.args in (
      simp length-set l.invariant.0,
      stored_more [] (λ i row. Cleared a.k a.c i a.pivot (get_or a.m i []) row) l.r l.out _ (omega arith)
          l.invariant.1 c.clear.ensures,
    )
