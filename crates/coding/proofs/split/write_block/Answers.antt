use Rattle.std.proofs.Common.{◌≡◌, ◌+◌, ◌-◌, arith}
use Rattle.coding.proofs.AreasLaws.{columns_stay, columns_again}
use Rattle.coding.proofs.SplitLaws.{block_start, block_more, block_all}
use Rattle.coding.proofs.split.write_block.Goals as goal

pub loop-r-init : goal.loop-r-init
loop-r-init c =
    columns_stay _ _ _ _ _ _ _
    (block_start _ _ _ _ c.args.page.now _ _ c.gather_whole.result _ _ c.requires.5 (λ l h. c.gather_whole.ensures l (omega arith))
    c.start_row.ensures)

pub loop-r-preserved : goal.loop-r-preserved
loop-r-preserved c =
    let z : c.loop-r.r - 1 + 1 ≡ c.loop-r.r = omega arith in
    block_more _ _ _ _ c.args.page.now _ _ _ c.gather_whole-in-loop-r.result _ _ _ (omega arith) (λ l h. c.gather_whole-in-loop-r.ensures l (omega arith))
    (rw z c.loop-r.invariant) c.add_row.ensures

pub returns : goal.returns
returns c =
    let z : c.loop-r.r ≡ 0 = omega arith in
    block_all _ _ _ _ c.args.page.now _ _ _ _ (λ i. (c.type_inv.page i).fits)
    (columns_again _ _ _ _ _ _ _ _ _ c.start_row.ensures (rw z at c.loop-r.invariant))
