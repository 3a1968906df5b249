use Rattle.std.proofs.Common.{Some, ap, refl, ◌∙◌}
use native.Mathlib.Omega.{arith}
use Rattle.session.proofs.LineLaws.{asked_is, replied}
use Rattle.session.proofs.SessionLaws.{new_live}
use Rattle.session.proofs.session.first.Goals as goal

pub returns-in-Some-Read-clause-goes : goal.returns-in-Some-Read-clause-goes
returns-in-Some-Read-clause-goes c =
    let a = c.refuse.ensures in (
      λ post page. new_live _ _ _ _ _ post page a.next (λ e. absurd (omega arith)),
      λ page. rw (asked_is _ _ _ c.ended.ensures c.asked.ensures ∙ c.in-Some-Read.is ∙ ap Some c.in-Some-Read.field-0-is) (replied _ _ _ _ _ _ _ _ _ refl a.line refl refl a.next),
    )

pub returns-in-Some-Deposit-clause-goes : goal.returns-in-Some-Deposit-clause-goes
returns-in-Some-Deposit-clause-goes c =
    let a = c.refuse-in-Some-Deposit.ensures in (
      λ post page. new_live _ _ _ _ _ post page a.next (λ e. absurd (omega arith)),
      λ page. rw (asked_is _ _ _ c.ended.ensures c.asked.ensures ∙ c.in-Some-Deposit.is ∙ ap Some c.in-Some-Deposit.field-0-is) (replied _ _ _ _ _ _ _ _ _ refl a.line refl refl a.next),
    )

pub returns-in-None-clause-goes : goal.returns-in-None-clause-goes
returns-in-None-clause-goes c =
    let a = c.refuse-in-None.ensures in (
      λ post page. new_live _ _ _ _ _ post page a.next (λ e. absurd (omega arith)),
      λ page. rw (asked_is _ _ _ c.ended.ensures c.asked.ensures ∙ c.in-None.is) (replied _ _ _ _ _ _ _ _ _ refl a.line refl refl a.next),
    )
