-- Parts are fed, and so many bytes may still be read.
use Rattle.session.specs.Settle.{SameSlices}
use Rattle.session.specs.Session.{held_in, FeedsParts}
use Rattle.session.proofs.stream.feed_input.Given as goal

abbrev pub invariant-loop-left : goal.invariant-loop-left
invariant-loop-left g l =
    SameSlices l.initial.lent l.lent
    × FeedsParts (held_in l.initial.y l.initial.lent l.initial.page) l.initial.input l.initial.left (held_in l.y l.lent l.page) l.input l.left

abbrev pub decreases-loop-left : goal.decreases-loop-left
decreases-loop-left g l = l.left
