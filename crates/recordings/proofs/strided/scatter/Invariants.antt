use Rattle.std.proofs.Common.{◌+◌, ◌-◌, ◌*◌, get_or}
use Rattle.coding.proofs.AreasLaws.{Walk}
use Rattle.recordings.specs.Planes.{among_planes}
use Rattle.recordings.proofs.strided.scatter.Given as goal

-- The samples below i have their byte of the plane.
abbrev pub invariant-loop-i : goal.invariant-loop-i
invariant-loop-i l = Walk (l.recording.count - l.s) l.recording.width l.p 1 (λ j k. get_or l.recording.bytes.now (among_planes l.recording.count (l.s + j) l.p) 0) l.initial.out l.out (l.i * l.recording.width + l.p) l.i
