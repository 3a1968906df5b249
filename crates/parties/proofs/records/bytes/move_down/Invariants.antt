use Prim.Native.Nat.{◌-◌}
use Rattle.parties.proofs.records.BytesLaws.{MovedDown}
use Rattle.parties.proofs.records.bytes.move_down.Given as goal

-- The bytes before p have gone down.
abbrev pub invariant-loop-p : goal.invariant-loop-p
invariant-loop-p l = MovedDown l.initial.t l.from l.to l.by l.t l.p

abbrev pub decreases-loop-p : goal.decreases-loop-p
decreases-loop-p l = l.to - l.p
