use Rattle.std.proofs.Common.{◌≡◌, ℕ, ◌+◌, ◌*◌, get_or, ap, ◌∙◌, le_refl, arith}
use Rattle.coding.specs.Field.{◌⊕◌, product}
use Rattle.coding.proofs.BytesLaws.{length-tabulate, get_or-tabulate, stride}
use Rattle.coding.proofs.AreasLaws.{walk_kept, walk_more, walk_all}
use Rattle.coding.proofs.split.add_row.Goals as goal

pub loop-i-preserved : goal.loop-i-preserved
loop-i-preserved c =
    let a = c.args in
    let i = c.loop-i.i in
    let e : (i + 1) * a.f + a.j ≡ i * a.f + a.j + a.f = omega (arith, stride i a.f) in
    rw (e, c.turn.ensures)
    (walk_more _ _ _ _ _ _ _ _ _ c.requires.0 c.requires.4 c.loop-i.invariant c.loop-i-test.true
    _ (rw length-tabulate (le_refl _))
    (λ l h.
    get_or-tabulate a.m _ l 0 h
    ∙ ap (λ (x : ℕ). product x (a.first + i + 1) ⊕ get_or a.row l 0)
    (walk_kept _ _ _ _ _ _ _ _ _ c.requires.0 c.requires.4 c.loop-i.invariant l h)))

pub returns : goal.returns
returns c = walk_all _ _ _ _ _ _ _ _ _ c.requires.0 c.requires.4 c.loop-i.invariant c.loop-i-test.false
