use mathlib.Core.Path.{sym, ◌∙◌}
use Rattle.parties.proofs.records.PlaceLaws.{sound_improper, sound_empty, sound-long, sound_spare}
use Rattle.parties.proofs.node.place_sound.Goals as goal

pub returns-then-not-proper_at : goal.returns-then-not-proper_at
returns-then-not-proper_at c =
    let a = c.args in
    let p = c.proper_at in
    sound_improper a.s a.t.now a.at (sym p.ensures ∙ c.if-not-proper_at.true)

pub returns-then-len-lt1 : goal.returns-then-len-lt1
returns-then-len-lt1 c =
    let a = c.args in
    let p = c.proper_at in
    sound_empty a.s a.t.now a.at c.length_at-len.result c.length_at-len.ensures.0
    (sym p.ensures ∙ c.if-not-proper_at.false) c.if-len-lt1.true

pub returns-then-s-len : goal.returns-then-s-len
returns-then-s-len c =
    let a = c.args in
    let p = c.proper_at in
    let length_at = c.length_at-len in
    sound-long a.s a.t.now a.at length_at.result length_at.ensures.0
    (sym p.ensures ∙ c.if-not-proper_at.false) c.if-len-lt1.false c.if-s-len.true

pub returns : goal.returns
returns c =
    let a = c.args in
    let p = c.proper_at in
    let length_at = c.length_at-len in
    sound_spare a.s a.t.now a.at length_at.result length_at.ensures.0
    (sym p.ensures ∙ c.if-not-proper_at.false) c.if-len-lt1.false
    c.if-s-len.false c.zero_run.result c.zero_run.ensures
