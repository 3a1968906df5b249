use Rattle.std.proofs.Common.{◌≡◌, ◌+◌, ◌*◌, take, sym, refl, ◌∙◌, arith, take_all, rules}
use Rattle.coding.proofs.Sha256Laws.{schedule_turn}
use Rattle.coding.specs.Sha256.{schedule}
use Rattle.coding.proofs.sha256.schedule.Goals as goal

pub loop-i-init : goal.loop-i-init
unfolding schedule
loop-i-init c = (search rules, refl)

pub loop-i-preserved : goal.loop-i-preserved
loop-i-preserved c =
    let t = 4 * c.loop-i.i in
    let m = take 16 c.args.m in
    let w1 = c.extend.new.w in
    let w2 = c.extend-in-loop-i.new.w in
    let w3 = c.extend-in-loop-i-2.new.w in
    let w4 = c.extend-in-loop-i-3.new.w in
    let e1 = schedule_turn m c.loop-i.w w1 t (t + 1) (omega arith) (omega arith) c.loop-i.invariant.1 c.extend.ensures.0 in
    let e2 = schedule_turn m w1 w2 (t + 1) (t + 2) (omega arith) (omega arith) e1 c.extend-in-loop-i.ensures.0 in
    let e3 = schedule_turn m w2 w3 (t + 2) (t + 3) (omega arith) (omega arith) e2 c.extend-in-loop-i-2.ensures.0 in
    let e4 = schedule_turn m w3 w4 (t + 3) (t + 4) (omega arith) (omega arith) e3 c.extend-in-loop-i-3.ensures.0 in
    let e : 4 * (c.loop-i.i + 1) ≡ t + 4 = omega arith in
    (c.extend-in-loop-i-3.ensures.1, rw e e4)

pub returns : goal.returns
returns c =
    let e : 4 * c.loop-i.i ≡ 64 = omega arith in
    sym (take_all 64 c.loop-i.w (omega arith)) ∙ (rw e at c.loop-i.invariant.1)
