use Rattle.std.proofs.Common.{get_or, ◌∙◌, arith, w8, Fits, rules}
use Rattle.coding.proofs.LaneLaws.{added-odd, added_even}
use Rattle.coding.proofs.lanes.added.Goals as goal

pub returns-then-c-eq1 : goal.returns-then-c-eq1
returns-then-c-eq1 c l =
    let b : Fits w8 (get_or c.args.w l 0) = search rules in
    let a = c.args in
    c.add.ensures l ∙ added-odd (get_or a.v l 0) (get_or a.w l 0) a.c b.fits c.if-c-eq1.true

pub returns : goal.returns
returns c l =
    let a = c.args in
    added_even (get_or a.v l 0) (get_or a.w l 0) a.c (omega arith)
