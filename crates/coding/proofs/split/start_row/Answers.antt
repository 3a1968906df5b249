use Rattle.std.proofs.Common.{◌≡◌, ◌+◌, ◌*◌, ◌≤◌, length, refl, arith, rules}
use Rattle.coding.proofs.BytesLaws.{stride}
use Rattle.coding.proofs.AreasLaws.{walk_more, walk_all}
use Rattle.coding.proofs.split.start_row.Goals as goal

pub loop-i-preserved : goal.loop-i-preserved
loop-i-preserved c =
    let a = c.args in
    let i = c.loop-i.i in
    let s : length a.row ≡ 16 = search rules in
    let m : a.m ≤ 16 = c.requires.1 in
    let e : (i + 1) * a.f + a.j ≡ i * a.f + a.j + a.f = omega (arith, stride i a.f) in
    rw (e, c.store.ensures)
    (walk_more _ _ _ _ _ _ _ _ _ c.requires.0 c.requires.4 c.loop-i.invariant c.loop-i-test.true
    a.row (omega arith) (λ l h. refl))

pub returns : goal.returns
returns c = walk_all _ _ _ _ _ _ _ _ _ c.requires.0 c.requires.4 c.loop-i.invariant c.loop-i-test.false
