use Rattle.std.proofs.Common.{Fits, w8, get_or}
use mathlib.Core.Path.{refl, ap}
use borrow.Author.Rules.{rules}
use Rattle.session.specs.declared.session.Session.{Session}
use Rattle.session.proofs.LineLaws.{reads}
use Rattle.session.proofs.SessionLaws.{new_live, new_same, operation-runs}
use Rattle.session.proofs.session.read.Goals as goal

pub returns-clause-goes : goal.returns-clause-goes
returns-clause-goes c =
    let a = c.at_stage.ensures in
    let o = c.reading-result.ensures in
    let e = c.settle-e.ensures in (
      λ page x m u h. new_live _ _ _ _ _ _ page a.1 (λ g. operation-runs x _ _ _ _ _ _ _ _ _ _ _ _ _ m u h (ap (λ (y : Session). y.measures) a.1) (ap (λ (y : Session). y.used) a.1) o (λ i. let b : Fits w8 (get_or c.args.room.now i 0) = search rules in b.fits) refl refl e),
      reads _ _ _ _ _ _ _ _ _ _ _ _ e (ap (λ (y : Session). y.used) a.1) a.0 o refl,
      new_same _ _ _ _ a.1,
    )
