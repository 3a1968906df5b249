use mathlib.Core.Path.{◌∙◌}
use Rattle.parties.proofs.node.ToNodeLaws.{store-short, store-wide, store-version}
use Rattle.parties.proofs.message.store_sound.Goals as goal

pub returns-then-b-lt7 : goal.returns-then-b-lt7
returns-then-b-lt7 c =
    let a = c.args in
    store-short a.s a.b.now c.if-b-lt7.true

pub returns-then-s-b : goal.returns-then-s-b
returns-then-s-b c =
    let a = c.args in
    store-wide a.s a.b.now c.if-b-lt7.false c.if-s-b.true

pub returns : goal.returns
returns c =
    let a = c.args in
    c.proper_at.ensures ∙ store-version a.s a.b.now c.if-b-lt7.false c.if-s-b.false
