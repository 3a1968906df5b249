-- The session is closed before its line is written.
use Rattle.std.proofs.lemmas.Result.{IfOk-weaker, IfErr-weaker}
use Rattle.session.proofs.stream.end.Goals as goal

pub returns-clause-closed : goal.returns-clause-closed
returns-clause-closed g c = IfOk-weaker c.put.result _ _ (λ y e. rw e (record { len = c.close-a.result.len; closes = c.close-a.ensures.closes })) c.put.ensures.session

pub returns-clause-closing : goal.returns-clause-closing
returns-clause-closing g c =
    IfErr-weaker c.put.result _ _
    (λ e due. record { session = c.close-a.result.session; len = c.close-a.result.len; closes = c.close-a.ensures.closes; due = due }) c.put.ensures.due
