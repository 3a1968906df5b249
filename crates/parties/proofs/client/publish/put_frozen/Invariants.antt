use Rattle.parties.proofs.client.PublishLaws.{Laid}
use Rattle.parties.proofs.client.publish.put_frozen.Given as goal

-- The first q frozen pointers are put.
abbrev pub invariant-loop-q : goal.invariant-loop-q
invariant-loop-q l = Laid l.fn.s.measures l.area l.initial.room l.at l.room l.end l.q
