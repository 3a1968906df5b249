use Prim.Native.Nat.{◌-◌, ◌≤◌}
use Rattle.runs.specs.Parcels.{ListFrom}
use Rattle.runs.proofs.parcels.sound.Given as goal

-- a list from the place reached is one from the first, and the other way round
abbrev pub invariant-loop-at : goal.invariant-loop-at
invariant-loop-at l = (l.at ≤ l.used) × (ListFrom l.s.measures l.used l.post l.at → ListFrom l.s.measures l.used l.post l.from) × (ListFrom l.s.measures l.used l.post l.from → ListFrom l.s.measures l.used l.post l.at)

abbrev pub decreases-loop-at : goal.decreases-loop-at
decreases-loop-at l = l.used - l.at
