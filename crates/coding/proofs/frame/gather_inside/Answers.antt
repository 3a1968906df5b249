use Rattle.std.proofs.Common.{◌≡◌, ◌+◌, ◌*◌, get_or, refl, ◌∙◌, arith, length-set}
use Rattle.coding.proofs.BytesLaws.{stored_more}
use Rattle.coding.proofs.frame.gather_inside.Goals as goal

pub loop-l-preserved : goal.loop-l-preserved
loop-l-preserved c =
    let l = c.loop-l in
    (length-set l.v l.l _ ∙ l.invariant.0, stored_more 0 (λ i x. x ≡ get_or c.args.page.now (c.args.from + i * c.args.k) 0) l.l l.v _ (omega arith) l.invariant.1 refl)
