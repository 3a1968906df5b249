use Rattle.std.proofs.Common.{sym, ◌∙◌}
use Rattle.recordings.proofs.ArrangeLaws.{arrange-short, arrange_width}
use Rattle.recordings.proofs.width.measured.Goals as goal

pub returns-then-out-bytes-clause-err : goal.returns-then-out-bytes-clause-err
returns-then-out-bytes-clause-err c = λ order. arrange-short order c.args.width c.args.bytes.now c.args.out.now c.if-out-bytes.true

pub returns-then-not-proper-clause-err : goal.returns-then-not-proper-clause-err
returns-then-not-proper-clause-err c =
    λ order. arrange_width order c.args.width c.args.bytes.now c.args.out.now c.if-out-bytes.false (sym c.proper.ensures ∙ c.if-not-proper.true)
