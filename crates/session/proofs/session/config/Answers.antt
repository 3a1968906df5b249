use mathlib.Core.Path.{◌≡◌, sym, ap, ◌∙◌, refl}
use mathlib.Core.Bool.{true}
use native.Mathlib.Omega.{arith}
use Rattle.parties.specs.protocol.Measures.{passes}
use Rattle.session.specs.declared.session.Session.{Session}
use Rattle.session.specs.Session.{small, slices_long}
use Rattle.session.proofs.LineLaws.{opens-measures, opens_big, opens_scarce, opens-short, opens-taken, replied}
use Rattle.session.proofs.SessionLaws.{new_live, fresh-runs}
use Rattle.session.proofs.session.config.Goals as goal

pub returns-then-not-pass-clause-goes : goal.returns-then-not-pass-clause-goes
returns-then-not-pass-clause-goes c =
    let a = c.refuse.ensures in
    let no = sym c.pass.ensures ∙ c.if-not-pass.true in (
      λ post page. new_live _ _ _ _ _ post page a.next (λ e. absurd (omega arith)),
      replied _ _ _ _ _ _ _ _ _ (opens-measures _ _ _ no) a.line refl refl a.next,
    )

pub returns-then-not-small-clause-goes : goal.returns-then-not-small-clause-goes
returns-then-not-small-clause-goes c =
    let passing : passes c.args.s ≡ true =
    sym c.pass.ensures ∙ c.if-not-pass.false in
    let a = c.refuse-then-not-small.ensures in
    let no = sym c.small.ensures ∙ c.if-not-small.true in (
      λ post page. new_live _ _ _ _ _ post page a.next (λ e. absurd (omega arith)),
      replied _ _ _ _ _ _ _ _ _ (opens_big _ _ _ passing no) a.line refl refl a.next,
    )

pub slices_long-requires : goal.slices_long-requires
slices_long-requires c =
    let passing : passes c.args.s ≡ true =
    sym c.pass.ensures ∙ c.if-not-pass.false in
    passing

pub returns-then-not-slices_long-clause-goes : goal.returns-then-not-slices_long-clause-goes
returns-then-not-slices_long-clause-goes c =
    let passing : passes c.args.s ≡ true =
    sym c.pass.ensures ∙ c.if-not-pass.false in
    let fitting : small c.args.s ≡ true =
    sym c.small.ensures ∙ c.if-not-small.false in
    let a = c.refuse-then-not-slices_long.ensures in
    let no = sym c.slices_long.ensures ∙ c.if-not-slices_long.true in (
      λ post page. new_live _ _ _ _ _ post page a.next (λ e. absurd (omega arith)),
      replied _ _ _ _ _ _ _ _ _ (opens_scarce _ _ _ passing fitting no) a.line refl refl a.next,
    )

pub returns-in-Err-clause-goes : goal.returns-in-Err-clause-goes
returns-in-Err-clause-goes c =
    let passing : passes c.args.s ≡ true =
    sym c.pass.ensures ∙ c.if-not-pass.false in
    let fitting : small c.args.s ≡ true =
    sym c.small.ensures ∙ c.if-not-small.false in
    let sufficing : let a = c.args in slices_long a.s a.l ≡ true =
    sym c.slices_long.ensures ∙ c.if-not-slices_long.false in
    let a = c.refuse-in-Err.ensures in
    let f = c.fresh in
    let g = c.args in
    let o = opens-short g.s g.l g.memory.now f.result _ _ passing fitting sufficing c.in-Err.is f.ensures.0 c.number.ensures in (
      λ post page. new_live _ _ _ _ _ post page a.next (λ e. absurd (omega arith)),
      replied _ _ _ _ _ _ _ _ _ o.0 a.line (f.ensures.1 ∙ o.1) refl a.next,
    )

pub returns-in-Ok-clause-goes : goal.returns-in-Ok-clause-goes
returns-in-Ok-clause-goes c =
    let passing : passes c.args.s ≡ true =
    sym c.pass.ensures ∙ c.if-not-pass.false in
    let fitting : small c.args.s ≡ true =
    sym c.small.ensures ∙ c.if-not-small.false in
    let sufficing : let a = c.args in slices_long a.s a.l ≡ true =
    sym c.slices_long.ensures ∙ c.if-not-slices_long.false in
    let a = c.at_stage.ensures in
    let f = c.fresh in
    let g = c.args in
    let ok = passing in
    let t = c.in-Ok.is in (
      λ post page. new_live _ _ _ _ _ post page a.1 (λ e. fresh-runs _ g.s g.memory.now _ post f.result _ (ap (λ (y : Session). y.measures) a.1) (ap (λ (y : Session). y.used) a.1) ok t f.ensures.0 f.ensures.1),
      replied _ _ _ _ _ _ _ _ _ (opens-taken g.s g.l g.memory.now f.result _ ok fitting sufficing t f.ensures.0) c.header-n.ensures f.ensures.1 a.0 a.1,
    )
