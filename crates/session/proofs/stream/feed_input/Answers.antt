-- A part more is fed, or a read or a write fails after those before.
use Rattle.std.proofs.Common.{◌≡◌, arith}
use Rattle.std.proofs.lemmas.Result.{err_from_is_err_and}
use Rattle.session.specs.Session.{FeedsParts, FeedsPart}
use Rattle.session.proofs.SettleLaws.{slices_same, slices_more}
use Rattle.session.proofs.SessionLaws.{input_more}
use Rattle.session.proofs.stream.feed_input.Goals as goal

pub loop-left-init : goal.loop-left-init
loop-left-init g c = (slices_same _, FeedsParts.unfed)

pub loop-left-preserved : goal.loop-left-preserved
loop-left-preserved g c =
    let d = c.in_ok-n.ensures.gives in
    (slices_more _ _ _ c.loop-left.invariant.0 c.in_ok-y.ensures.same, input_more _ _ _ _ _ _ _ _ _ c.loop-left.invariant.1 d.2 d.3 (λ e. absurd (omega arith)) c.in_ok-y.ensures.all)

pub returns-in_err-n-clause-part : goal.returns-in_err-n-clause-part
returns-in_err-n-clause-part g c =
    let p = err_from_is_err_and c.from_residual.result c.from_residual.ensures.1 in
    let d = c.in_err-n.ensures.fails in
    rw p.1 (FeedsPart.unread _ _ _ _ c.loop-left.invariant.1 (omega arith) d.0 d.1)

pub returns-in_err-y-clause-same : goal.returns-in_err-y-clause-same
returns-in_err-y-clause-same g c = slices_more _ _ _ c.loop-left.invariant.0 c.in_err-y.ensures.same

pub returns-in_err-y-clause-part : goal.returns-in_err-y-clause-part
returns-in_err-y-clause-part g c =
    let p = err_from_is_err_and c.from_residual-in_err-y.result c.from_residual-in_err-y.ensures.1 in
    let d = c.in_ok-n.ensures.gives in
    let more : c.loop-left.y.stage ≡ 2 → ⊥ = λ e. let z = (d.2 e).0 in absurd (omega (arith, z, c.if-n-eq0.false)) in
    rw p.1 (FeedsPart.unwritten _ _ _ _ _ c.loop-left.invariant.1 more (d.3 more) (omega arith) c.in_err-y.ensures.some)
