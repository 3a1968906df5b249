use Rattle.std.proofs.Common.{◌≡◌, ◌+◌, ◌*◌, [], length, get_or, ap, ◌∙◌, arith}
use Rattle.coding.specs.Field.{sum}
use Rattle.coding.specs.Lanes.{folded}
use Rattle.coding.specs.Join.{JoinedFrame}
use Rattle.coding.proofs.LaneLaws.{folded-none}
use Rattle.coding.proofs.JoinLaws.{weighed, weighed_more}
use Rattle.coding.proofs.join.Frame.weighed.Goals as goal

pub loop-s-init : goal.loop-s-init
unfolding sum
loop-s-init c = λ l h. folded-none l

pub loop-s-preserved : goal.loop-s-preserved
loop-s-preserved c =
    let a = c.self.inside in
    let o = c.loop-s in
    weighed_more a.f a.room.now a.nodes.now (get_or a.grid c.args.r []) c.args.j c.args.m o.s (folded o.sums) (folded c.spread-next.result) c.load.result
    o.invariant (rw c.from.ensures at c.load.ensures) c.spread-next.ensures

pub returns : goal.returns
returns c l h =
    let a = c.self.inside in
    let e : c.loop-s.s ≡ length a.nodes.now = omega arith in
    let k = ap (λ (v : JoinedFrame). v.k) c.self.view_is in
    let n = ap (λ (v : JoinedFrame). v.columns) c.self.view_is in
    c.fold.ensures l
    ∙ rw e at (c.loop-s.invariant l h)
    ∙ weighed a.f a.room.now a.nodes.now a.grid a.columns (c.args.j + l) c.args.r c.self.invariant.5 (omega arith) (omega arith) c.self.invariant.6
    ∙ ap (λ (v : JoinedFrame). get_or v.bytes ((c.args.j + l) * v.k + c.args.r) 0) c.self.view_is
