use Rattle.std.proofs.Common.{◌≡◌, ◌+◌, ◌-◌, ◌*◌, ◌<◌, ◌≤◌, get_or, sym, ap, ◌∙◌, mul-le-mul_right, arith, length-set}
use Rattle.coding.proofs.OutputLaws.{scatter_more, placed_put}
use Rattle.coding.proofs.output.scatter_inside.Goals as goal

pub loop-l-preserved : goal.loop-l-preserved
loop-l-preserved c =
    let a = c.args in
    let l = c.loop-l.l in
    let at = a.from - 4 + l * a.k in
    let h : l ≤ 15 = omega arith in
    let e : 4 + at ≡ a.from + l * a.k = omega arith in
    let q : at < a.len = omega (arith, mul-le-mul_right a.k h) in
    scatter_more _ _ _ _ _ _ _ _ _ c.loop-l.invariant c.loop-l-test.true (length-set c.loop-l.out at (get_or a.v l 0))
    (λ g z. rw e at (placed_put g a.len c.loop-l.out at (get_or a.v l 0) q (omega (arith, c.loop-l.invariant.same)) (z ∙ ap g (sym e))))
