use Rattle.std.proofs.Common.{◌≡◌, ◌*◌, length, sym, ap, ◌∙◌, not-suc-le-zero, arith}
use Rattle.coding.specs.Join.{JoinedFrame}
use Rattle.coding.proofs.OutputLaws.{placed_none, placed_then, placed_fewer}
use Rattle.coding.proofs.JoinLaws.{rows_more, rows_all, length-joined}
use Rattle.coding.proofs.join.Frame.write_page.Goals as goal

pub loop-r-init : goal.loop-r-init
loop-r-init c = placed_none _ _ _ _ (λ q h s. not-suc-le-zero s.1)

pub loop-r-preserved : goal.loop-r-preserved
loop-r-preserved c =
    let v = c.args.self.now in
    placed_then _ _ _ _ _ _ _ _ (rows_more v.k v.columns c.loop-r.r) c.loop-r.invariant c.write_row.ensures

pub returns : goal.returns
returns c =
    let v : JoinedFrame = c.args.self.now in
    let a = c.self.inside in
    let k : length a.nodes.now ≡ v.k = ap (λ (v : JoinedFrame). v.k) c.self.view_is in
    let n : a.columns ≡ v.columns = ap (λ (v : JoinedFrame). v.columns) c.self.view_is in
    let m : v.columns * v.k ≡ length v.bytes =
    rw (← k, ← n) (sym (length-joined a.f a.room.now a.nodes.now a.columns) ∙ ap (λ (v : JoinedFrame). length v.bytes) c.self.view_is)
    in
    let e : c.loop-r.r ≡ v.k = omega arith in
    placed_fewer _ _ _ _ _ _ (λ p h. rows_all v.k v.columns p (omega (arith, c.self.invariant.0)) (omega arith)) (rw e at c.loop-r.invariant)
