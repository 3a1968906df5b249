use mathlib.Core.Path.{refl}
use Rattle.runs.specs.Acts.{Sends}
use Rattle.runs.proofs.EventLaws.{refused_by, answered_by}
use Rattle.runs.proofs.event.starts.Goals as goal

pub returns-in_default : goal.returns-in_default
returns-in_default c = (refl, Sends.refuses (refused_by c.args.a _ c.in_default.is) refl)

pub returns : goal.returns
returns c =
    let t = c.send-to in
    let q = answered_by c.args.a _ c.in-Ok.is in
    (t.ensures.long, Sends.sends t.result q.0 (rw (← q.1) at t.ensures))
