use Prim.Native.Nat.{◌+◌}
use Rattle.parties.proofs.node.FreeingLaws.{Pending}
use Rattle.parties.proofs.node.release.Given as goal

abbrev pub invariant-loop-left : goal.invariant-loop-left
invariant-loop-left l = Pending l.s l.initial.t l.b l.count l.listed l.t l.from l.left l.at l.more l.run l.to l.kept

abbrev pub decreases-loop-left : goal.decreases-loop-left
decreases-loop-left l = l.left + l.more
