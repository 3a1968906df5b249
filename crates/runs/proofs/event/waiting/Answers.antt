use mathlib.Core.Path.{sym, ◌∙◌}
use Rattle.title.proofs.MemoryLaws.{handed}
use Rattle.runs.specs.Parcels.{kind_of}
use Rattle.runs.specs.Event.{Stopped}
use Rattle.runs.proofs.EventLaws.{looks_wait}
use Rattle.runs.proofs.event.waiting.Goals as goal

pub returns-in_err-ready : goal.returns-in_err-ready
returns-in_err-ready c = rw (handed _ _ c.from_residual.ensures.1) (Stopped.cramped _ c.in_err-ready.ensures)

pub returns-then-not-proper : goal.returns-then-not-proper
returns-then-not-proper c = Stopped.outside c.in_ok-ready.ensures (sym c.proper.ensures ∙ c.if-not-proper.true)

pub returns : goal.returns
returns c =
    let a = c.args in
    looks_wait a.s (kind_of a.key.kind) a.key.client a.key.node a.post.now a.used c.in_ok-ready.ensures (sym c.proper.ensures ∙ c.if-not-proper.false) _ c.find.ensures
