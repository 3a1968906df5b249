use mathlib.Core.Path.{◌∙◌}
use Rattle.parties.proofs.records.SpliceLaws.{tagged}
use Rattle.parties.proofs.node.put_head.Goals as goal

pub returns : goal.returns
returns c =
    let a = c.args in
    let p = c.requires in
    c.copy.ensures ∙ tagged a.room.now a.tag a.b.now 1 5 p.0 p.1
