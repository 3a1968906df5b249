use mathlib.Core.Path.{sym, ◌∙◌}
use native.Mathlib.Omega.{arith}
use lib.ListN.{drop}
use Rattle.parties.specs.records.Form.{rest, pointer_by}
use Rattle.parties.proofs.records.FormLaws.{formed_sound, formed_broken, formed_none, many_turn, many-broken, many_end}
use Rattle.parties.proofs.records.form.pointers.Goals as goal

pub returns-in_err-p : goal.returns-in_err-p
returns-in_err-p c =
    let a = c.args in
    let l = c.loop-i in
    formed_none _ _ _ _ c.from_residual.ensures
    (l.invariant.3
    ∙ many-broken (pointer_by a.s.measures a.rule) a.n l.i (drop l.p a.t.now) c.loop-i-test.true
    (formed_broken a.t.now l.p (rest (pointer_by a.s.measures a.rule (drop l.p a.t.now))) c.pointer.result c.pointer.ensures c.in_err-p.was))

pub loop-i-preserved : goal.loop-i-preserved
loop-i-preserved c =
    let a = c.args in
    let l = c.loop-i in
    let p = c.pointer in
    let next = c.in_ok-p.p in
    let g = formed_sound a.t.now l.p next (rest (pointer_by a.s.measures a.rule (drop l.p a.t.now))) p.result p.ensures c.in_ok-p.was in (
      omega arith,
      omega arith,
      omega arith,
      l.invariant.3 ∙ many_turn (pointer_by a.s.measures a.rule) a.n l.i (drop l.p a.t.now) c.loop-i-test.true (drop next a.t.now) g.left,
    )

pub returns : goal.returns
returns c =
    let a = c.args in
    let l = c.loop-i in
    record {
      told = sym (l.invariant.3 ∙ many_end (pointer_by a.s.measures a.rule) a.n l.i (drop l.p a.t.now) c.loop-i-test.false);
      within = (l.invariant.1, l.invariant.2);
    }
