use mathlib.Core.Path.{sym, ◌∙◌}
use Prim.Native.Nat.{◌+◌, ◌-◌, ◌*◌}
use native.Mathlib.Omega.{arith}
use Rattle.parties.specs.records.Places.{version_at, proper_at}
use Rattle.parties.proofs.records.PositionLaws.{ordered_end, ordered-broken, ordered_not, ordered_turn}
use Rattle.parties.proofs.message.list_sound.Goals as goal

pub returns-then-not-proper_at : goal.returns-then-not-proper_at
returns-then-not-proper_at c =
    let a = c.args in
    let l = c.loop-i in
    sym (l.invariant
    ∙ ordered-broken (proper_at a.s a.b.now) (version_at a.b.now) 5 l.previous (1 + l.i * 5) (a.count - l.i) (omega arith)
    (sym c.proper_at.ensures ∙ c.if-not-proper_at.true))

pub returns-then-not-below : goal.returns-then-not-below
returns-then-not-below c =
    let a = c.args in
    let l = c.loop-i in
    sym (l.invariant
    ∙ ordered_not (proper_at a.s a.b.now) (version_at a.b.now) 5 l.previous (1 + l.i * 5) (a.count - l.i)
    c.version_at-v.result c.version_at-v.ensures (omega arith)
    (sym c.proper_at.ensures ∙ c.if-not-proper_at.false)
    (sym c.below.ensures ∙ c.if-not-below.true))

pub loop-i-preserved : goal.loop-i-preserved
loop-i-preserved c =
    let a = c.args in
    let l = c.loop-i in
    l.invariant
    ∙ ordered_turn (proper_at a.s a.b.now) (version_at a.b.now) 5 1 a.count l.previous l.i c.loop-i-test.true
    c.version_at-v.result c.version_at-v.ensures
    (sym c.proper_at.ensures ∙ c.if-not-proper_at.false)
    (sym c.below.ensures ∙ c.if-not-below.false)

pub returns : goal.returns
returns c =
    let a = c.args in
    let l = c.loop-i in
    sym (l.invariant ∙ ordered_end (proper_at a.s a.b.now) (version_at a.b.now) 5 l.previous (1 + l.i * 5) (a.count - l.i) (omega arith))
