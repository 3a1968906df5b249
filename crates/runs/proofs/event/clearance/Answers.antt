use mathlib.Core.Path.{sym, ◌∙◌}
use mathlib.Core.Logic.{inl, inr}
use Rattle.title.proofs.MemoryLaws.{handed}
use Rattle.runs.specs.Event.{Uncleared}
use Rattle.runs.proofs.FormLaws.{from_list}
use Rattle.runs.proofs.EventLaws.{unsound}
use Rattle.runs.proofs.event.clearance.Goals as goal
use Rattle.runs.proofs.event.clearance.Goals.{else-proper-via-then-proper+else-is_ok, else-proper-via-else-proper}

pub returns-in_err-ready : goal.returns-in_err-ready
returns-in_err-ready c = rw (handed _ _ c.from_residual.ensures.1) (Uncleared.cramped _ c.in_err-ready.ensures)

pub returns : goal.returns
returns c =
    let a = c.args in
    Uncleared.late _ c.in_ok-ready.ensures
    (elim c.else-proper.branch [
      | else-proper-via-then-proper+else-is_ok w ↦ inr (λ q l. unsound a.s a.used a.post.now 0 _ w.sound.ensures (sym w.is_ok.ensures.value ∙ w.if-is_ok.false) (from_list a.s a.used a.post.now q l))
      | else-proper-via-else-proper w ↦ inl (sym c.proper.ensures ∙ w.if-proper.false)
    ])
    c.lowest.ensures
