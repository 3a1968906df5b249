use Rattle.std.proofs.Common.{◌≡◌, List, ℕ, Some, ap, refl, ◌∙◌}
use Rattle.session.specs.declared.session.Session.{Session}
use Rattle.session.specs.Session.{Live, new_line}
use Rattle.session.proofs.LineLaws.{asked_is, refused_again}
use Rattle.session.proofs.SessionLaws.{new_live, new_same, runs_same}
use Rattle.session.proofs.session.later.Goals as goal

-- a refusal leaves a session live
live : (x y : Session) (memory post page : List ℕ) → y ≡ new_line 1 x.measures x.used → x.stage ≡ 1
    → Live x memory post page → Live y memory post page
live x y memory post page e o l =
    new_live _ _ _ _ _ _ _ e (λ f. runs_same _ _ _ _ (ap (λ (z : Session). z.measures) e) (ap (λ (z : Session). z.used) e) (l.runs o))

pub returns-in-Some-Config-clause-goes : goal.returns-in-Some-Config-clause-goes
returns-in-Some-Config-clause-goes c =
    let a = c.refuse.ensures in (
      live _ _ _ _ _ a.next,
      rw (asked_is _ _ _ c.ended.ensures c.asked.ensures ∙ c.in-Some-Config.is ∙ ap Some c.in-Some-Config.field-0-is)
          (refused_again _ _ _ _ _ _ _ _ refl (ap (λ (z : Session). z.used) a.next) a.line),
      new_same _ _ _ _ a.next,
    )

pub returns-in-None-clause-goes : goal.returns-in-None-clause-goes
returns-in-None-clause-goes c =
    let a = c.refuse-in-None.ensures in (
      live _ _ _ _ _ a.next,
      rw (asked_is _ _ _ c.ended.ensures c.asked.ensures ∙ c.in-None.is)
          (refused_again _ _ _ _ _ _ _ _ refl (ap (λ (z : Session). z.used) a.next) a.line),
      new_same _ _ _ _ a.next,
    )
