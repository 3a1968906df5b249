use Prim.Native.Nat.{◌-◌, ◌≤◌}
use mathlib.Core.List.{List}
use Rattle.runs.specs.Parcels.{Parcel, kind_of, Listed, ListFrom}
use Rattle.runs.proofs.PostLaws.{Passed}
use Rattle.runs.proofs.parcels.find.Given as goal

abbrev pub invariant-loop-at : goal.invariant-loop-at
invariant-loop-at l =
    (l.at ≤ l.used) × (ListFrom l.s.measures l.used l.post l.at → ListFrom l.s.measures l.used l.post 0) × (ListFrom l.s.measures l.used l.post 0 → ListFrom l.s.measures l.used l.post l.at)
    × ((q : List Parcel) → Listed l.s.measures q l.used l.post → Passed l.s.measures (kind_of l.key.kind) l.key.client l.key.node q l.used l.post l.at)

abbrev pub decreases-loop-at : goal.decreases-loop-at
decreases-loop-at l = l.used - l.at
