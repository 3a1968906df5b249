use mathlib.Core.Path.{◌≡◌}
use Prim.Native.Nat.{◌+◌, ◌-◌, ◌*◌}
use Rattle.parties.specs.records.Places.{rank}
use Rattle.parties.proofs.records.places.seek.Given as goal

-- The first j places are below.
abbrev pub invariant-loop-j : goal.invariant-loop-j
invariant-loop-j l = rank l.z l.t l.v l.from l.count ≡ l.j + rank l.z l.t l.v (l.from + l.j * l.z) (l.count - l.j)
