use Prim.Native.Nat.{◌+◌, ◌-◌}
use lib.ListN.{get_or}
use Rattle.coding.specs.Areas.{Columns}
use Rattle.recordings.specs.Planes.{among_planes}
use Rattle.recordings.proofs.strided.write_samples.Given as goal

-- The samples have their first p bytes.
abbrev pub invariant-loop-p : goal.invariant-loop-p
invariant-loop-p l = Columns (l.recording.count - l.s) l.recording.width 0 l.p (λ i q. get_or l.recording.bytes.now (among_planes l.recording.count (l.s + i) q) 0) l.initial.out l.out
