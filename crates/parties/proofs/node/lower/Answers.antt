use mathlib.Core.Path.{◌∙◌}
use Rattle.parties.proofs.records.SpliceLaws.{splice_self, lowered}
use Rattle.parties.proofs.node.lower.Goals as goal

pub returns-then-from-to : goal.returns-then-from-to
returns-then-from-to c =
    let a = c.args in
    rw c.if-from-to.true (splice_self a.t.now a.to a.z)

pub returns : goal.returns
returns c =
    let a = c.args in
    let p = c.requires in
    c.move_down.ensures ∙ lowered a.t.now a.from a.to a.z p.0 p.1
