use mathlib.Core.Path.{sym, ◌∙◌}
use Prim.Native.Nat.{◌+◌, ◌-◌, ◌*◌}
use native.Mathlib.Omega.{arith}
use Rattle.parties.specs.protocol.Measures.{place_size}
use Rattle.parties.specs.records.Places.{sound_at, version_at}
use Rattle.parties.proofs.records.PositionLaws.{ordered_end, ordered-broken, ordered_not, ordered_turn}
use Rattle.parties.proofs.node.places_sound.Goals as goal

pub returns-then-not-place_sound : goal.returns-then-not-place_sound
returns-then-not-place_sound c =
    let a = c.args in
    let l = c.loop-i in
    let z = place_size a.s in
    sym (l.invariant
    ∙ ordered-broken (sound_at a.s a.t.now) (version_at a.t.now) z l.previous (2 + l.i * z) (a.count - l.i) (omega arith)
    (sym c.place_sound.ensures ∙ c.if-not-place_sound.true))

pub returns-then-not-below : goal.returns-then-not-below
returns-then-not-below c =
    let a = c.args in
    let l = c.loop-i in
    let z = place_size a.s in
    sym (l.invariant
    ∙ ordered_not (sound_at a.s a.t.now) (version_at a.t.now) z l.previous (2 + l.i * z) (a.count - l.i)
    c.version_at-v.result c.version_at-v.ensures (omega arith)
    (sym c.place_sound.ensures ∙ c.if-not-place_sound.false)
    (sym c.below.ensures ∙ c.if-not-below.true))

pub loop-i-preserved : goal.loop-i-preserved
loop-i-preserved c =
    let a = c.args in
    let l = c.loop-i in
    l.invariant
    ∙ ordered_turn (sound_at a.s a.t.now) (version_at a.t.now) (place_size a.s) 2 a.count l.previous l.i c.loop-i-test.true
    c.version_at-v.result c.version_at-v.ensures
    (sym c.place_sound.ensures ∙ c.if-not-place_sound.false)
    (sym c.below.ensures ∙ c.if-not-below.false)

pub returns : goal.returns
returns c =
    let a = c.args in
    let l = c.loop-i in
    let z = place_size a.s in
    sym (l.invariant ∙ ordered_end (sound_at a.s a.t.now) (version_at a.t.now) z l.previous (2 + l.i * z) (a.count - l.i) (omega arith))
