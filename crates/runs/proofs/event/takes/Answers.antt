use mathlib.Core.Path.{refl, ◌∙◌}
use Rattle.runs.specs.Acts.{Takes}
use Rattle.runs.proofs.EventLaws.{refused_by, answered_by}
use Rattle.runs.proofs.event.takes.Goals as goal

pub returns-in_default : goal.returns-in_default
returns-in_default c = (refl, Takes.refuses (refused_by c.args.a _ c.in_default.is) refl)

pub returns : goal.returns
returns c =
    let t = c.send-to in
    let r = c.remove-left in
    let q = answered_by c.args.a _ c.in-Ok.is in
    (t.ensures.long ∙ r.ensures.long, Takes.takes r.result t.result r.new.post q.0 r.ensures (rw (← q.1) at t.ensures))
