use Rattle.std.proofs.Common.{◌≡◌, ℕ, min, length, get_or, ap, ◌∙◌, not-suc-le-zero, arith}
use Rattle.coding.specs.Join.{JoinedFrame}
use Rattle.coding.proofs.OutputLaws.{placed_none}
use Rattle.coding.proofs.JoinLaws.{block_place, row_next}
use Rattle.coding.proofs.join.Frame.write_row.Goals as goal

pub loop-j-init : goal.loop-j-init
loop-j-init c =
    let z : min 0 c.self.inside.columns ≡ 0 = omega arith in
    rw z (placed_none _ _ _ _ (λ q h s. not-suc-le-zero s.1))

pub loop-j-preserved : goal.loop-j-preserved
loop-j-preserved c =
    let j = c.loop-j.j in
    let k = ap (λ (v : JoinedFrame). v.k) c.self.view_is in
    let here : min j c.self.inside.columns ≡ j = omega arith in
    row_next _ _ _ _ j c.min-m.result _ _ _ _ (omega (arith, c.min-m.ensures)) (rw here at c.loop-j.invariant)
    (c.scatter.ensures _ (λ l h. c.weigh.ensures l h ∙ ap (λ (x : ℕ). get_or c.args.self.now.bytes x 0) (rw (← k) (block_place j l c.args.r (length c.self.inside.nodes.now)))))

pub returns : goal.returns
returns c =
    let k = ap (λ (v : JoinedFrame). v.k) c.self.view_is in
    let n = ap (λ (v : JoinedFrame). v.columns) c.self.view_is in
    let z : min c.loop-j.j c.self.inside.columns ≡ c.self.inside.columns = omega arith in
    rw (← k, ← n) (rw z at c.loop-j.invariant)

pub returns-2 : goal.returns-2
returns-2 c =
    let j = c.loop-j.j in
    let k = ap (λ (v : JoinedFrame). v.k) c.self.view_is in
    let n = ap (λ (v : JoinedFrame). v.columns) c.self.view_is in
    let here : min j c.self.inside.columns ≡ j = omega arith in
    rw (← k, ← n)
    (row_next _ _ _ _ j c.min-m.result _ _ _ _ (omega (arith, c.min-m.ensures)) (rw here at c.loop-j.invariant)
    (c.scatter.ensures _ (λ l h. c.weigh.ensures l h ∙ ap (λ (x : ℕ). get_or c.args.self.now.bytes x 0) (rw (← k) (block_place j l c.args.r (length c.self.inside.nodes.now))))))
