use mathlib.Core.Path.{sym, ap, refl}
use Rattle.runs.specs.Oldest.{honest_all}
use Rattle.std.proofs.Common.{◌≡◌, ℕ, ◌∙◌, take}
use Rattle.std.proofs.lemmas.List.{take_min}
use Rattle.session.specs.declared.session.Session.{Session}
use Rattle.session.proofs.LineLaws.{deposits}
use Rattle.session.proofs.SessionLaws.{new_live, new_same, front_bytes, operation-runs}
use Rattle.session.proofs.session.put.Goals as goal

pub returns-clause-goes : goal.returns-clause-goes
returns-clause-goes c =
    let a = c.at_stage.ensures in
    let o = c.deposit-result.ensures in
    let e = c.settle-e.ensures in
    let g = c.args in
    let l : take c.min-n.result g.page.now ≡ take g.bytes g.page.now = ap (λ (n : ℕ). take n g.page.now) c.min-n.ensures ∙ take_min g.bytes g.page.now in (
      λ page x m u h. new_live _ _ _ _ _ _ page a.1 (λ q. operation-runs x _ _ _ _ _ _ _ _ _ _ _ _ _ m u h (ap (λ (y : Session). y.measures) a.1) (ap (λ (y : Session). y.used) a.1) o (front_bytes c.min-n.result g.page.now (λ i. (c.type_inv.page i).fits)) refl refl e),
      rw (sym l) (deposits _ _ _ _ _ _ _ _ _ _ _ _ e (ap (λ (y : Session). y.used) a.1) a.0 _ (o honest_all) refl refl),
      new_same _ _ _ _ a.1,
    )
