use Rattle.parties.proofs.client.GatherLaws.{Gathered}
use Rattle.parties.proofs.client.publish.gather.Given as goal

-- The digests of the nodes up to i are moved.
abbrev pub invariant-loop-i : goal.invariant-loop-i
invariant-loop-i l = Gathered l.fn.s.measures.n l.map l.initial.area l.at l.area l.to l.i
