use mathlib.Core.Path.{sym, ◌∙◌}
use native.Mathlib.Omega.{arith}
use Rattle.parties.specs.client.Found.{retained_in}
use Rattle.parties.specs.client.Freeze.{frozen_now, reserved_now}
use Rattle.parties.proofs.client.FreeListLaws.{clear_none, clear_more, none-same, stays-none, stays-found, stays_not}
use Rattle.parties.proofs.client.free.Noticed.keeps.Goals as goal

pub returns-then-is_none : goal.returns-then-is_none
returns-then-is_none c =
    let a = c.args in
    let k = a.self.now in
    stays-none a.v k.s.measures k.map (retained_in k.s.measures k.area.now) k.new (sym (none-same a.v) ∙ sym c.is_none.ensures ∙ c.if-is_none.true)

pub loop-q-init : goal.loop-q-init
loop-q-init c =
    let a = c.args in
    let k = a.self.now in
    let x = retained_in k.s.measures k.area.now in
    clear_none a.v (frozen_now k.map x k.new) (reserved_now k.map x) (sym (none-same a.v) ∙ sym c.is_none.ensures ∙ c.if-is_none.false)

pub returns-then-keeps_for : goal.returns-then-keeps_for
returns-then-keeps_for c =
    let a = c.args in
    let k = a.self.now in
    let l = c.loop-q in
    stays-found a.v k.s.measures k.map (retained_in k.s.measures k.area.now) k.new l.q c.loop-q-test.true l.invariant (sym c.keeps_for.ensures ∙ c.if-keeps_for.true)

pub loop-q-preserved : goal.loop-q-preserved
loop-q-preserved c =
    let a = c.args in
    let k = a.self.now in
    let x = retained_in k.s.measures k.area.now in
    let l = c.loop-q in
    clear_more a.v (frozen_now k.map x k.new) (reserved_now k.map x) l.q l.invariant (sym c.keeps_for.ensures ∙ c.if-keeps_for.false)

pub returns : goal.returns
returns c =
    let a = c.args in
    let k = a.self.now in
    let l = c.loop-q in
    stays_not a.v k.s.measures k.map (retained_in k.s.measures k.area.now) k.new l.q (omega (arith, c.loop-q-test.false)) l.invariant
