-- The first bytes are fed.
use Rattle.std.proofs.Common.{take}
use Rattle.session.specs.Settle.{SameSlices}
use Rattle.session.specs.Session.{held_in, FeedsAll}
use Rattle.session.proofs.stream.feed_all.Given as goal

abbrev pub invariant-loop-b : goal.invariant-loop-b
invariant-loop-b g l =
    SameSlices l.initial.lent l.lent
    × FeedsAll (held_in l.initial.y l.initial.lent l.initial.page) (take l.b-index l.input) (held_in l.y l.lent l.page)
