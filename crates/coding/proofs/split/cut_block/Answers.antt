use Rattle.std.proofs.Common.{◌≡◌, ℕ, ◌+◌, ◌-◌, get_or, sym, ap, ◌∙◌, arith}
use Rattle.coding.specs.Field.{◌⊕◌}
use Rattle.coding.proofs.BytesLaws.{zeros_at}
use Rattle.coding.proofs.SplitLaws.{rows_none, row_more, rows_all}
use Rattle.coding.proofs.split.cut_block.Goals as goal

pub loop-r-init : goal.loop-r-init
loop-r-init c = λ l h. zeros_at 16 l ∙ sym (rows_none _ _ _ _)

pub loop-r-preserved : goal.loop-r-preserved
loop-r-preserved c =
    let r = c.loop-r.r in
    let z : r - 1 + 1 ≡ r = omega arith in
    λ l h.
    c.add-next.ensures l
    ∙ ap (λ (s : ℕ). s ⊕ get_or c.gather.result l 0) (c.scale.ensures l)
    ∙ row_more _ _ _ _ _ _ c.gather.result (omega arith) c.gather.ensures l _ h
    (rw z (c.loop-r.invariant l h))

pub returns : goal.returns
returns c =
    let z : c.loop-r.r ≡ 0 = omega arith in
    λ l h.
    rw z at (c.loop-r.invariant l h)
    ∙ rows_all _ c.args.page.now _ _ (λ i. (c.type_inv.page i).fits)
