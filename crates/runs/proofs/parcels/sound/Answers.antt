use native.Mathlib.Omega.{arith}
use Rattle.runs.proofs.FormLaws.{list_end, list-next, list-before}
use Rattle.runs.proofs.parcels.sound.Goals as goal

pub loop-at-preserved : goal.loop-at-preserved
loop-at-preserved c =
    let i = c.loop-at.invariant in
    let t = c.in_ok-at.ensures in (
      t.within,
      λ l. i.1 (list-before c.args.s.measures c.args.s.pass c.args.used c.args.post.now c.requires.1 c.loop-at.at _ t (λ j. (c.type_inv.post j).fits) l),
      λ l. list-next c.args.s.measures c.args.s.pass c.args.used c.args.post.now c.requires.1 c.loop-at.at _ t (i.2 l),
    )

pub returns : goal.returns
returns c =
    c.loop-at.invariant.1 (list_end c.args.s.measures c.args.used c.args.post.now c.loop-at.at c.requires.1 (omega arith))
