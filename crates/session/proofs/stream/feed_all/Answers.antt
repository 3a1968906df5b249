-- A byte more is fed, also where its line cannot be written.
use Rattle.std.proofs.Common.{arith}
use Rattle.std.proofs.lemmas.Result.{err_from_is_err_and}
use Rattle.session.specs.Session.{FeedsAll}
use Rattle.session.proofs.SettleLaws.{slices_same, slices_more}
use Rattle.session.proofs.SessionLaws.{feeds_more}
use Rattle.session.proofs.stream.feed_all.Goals as goal

pub loop-b-init : goal.loop-b-init
loop-b-init g c = (slices_same _, FeedsAll.begun)

pub loop-b-preserved : goal.loop-b-preserved
loop-b-preserved g c = (slices_more _ _ _ c.loop-b.invariant.0 c.feed-a.ensures.same, feeds_more _ _ _ _ _ _ _ _ _ _ (omega arith) c.loop-b.invariant.1 c.in_ok-y.ensures.session c.feed-a.ensures.feeds)

pub returns-in_err-y-clause-same : goal.returns-in_err-y-clause-same
returns-in_err-y-clause-same g c = slices_more _ _ _ c.loop-b.invariant.0 c.feed-a.ensures.same

pub returns-in_err-y-clause-some : goal.returns-in_err-y-clause-some
returns-in_err-y-clause-some g c =
    let p = err_from_is_err_and c.from_residual.result c.from_residual.ensures.1 in
    rw p.1
    (record {
      session = c.feed-a.result.session;
      before = _;
      fed = c.loop-b.b-index;
      len = c.feed-a.result.len;
      within = c.loop-b-test.true;
      feeds = c.loop-b.invariant.1;
      last = c.feed-a.ensures.feeds;
      due = c.in_err-y.ensures.due;
    })
