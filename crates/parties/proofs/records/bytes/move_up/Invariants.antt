use Prim.Native.Nat.{◌-◌}
use Rattle.parties.proofs.records.BytesLaws.{MovedUp}
use Rattle.parties.proofs.records.bytes.move_up.Given as goal

-- The bytes from p on have gone up.
abbrev pub invariant-loop-p : goal.invariant-loop-p
invariant-loop-p l = MovedUp l.initial.t l.from l.to l.by l.t l.p

abbrev pub decreases-loop-p : goal.decreases-loop-p
decreases-loop-p l = l.p - l.from
