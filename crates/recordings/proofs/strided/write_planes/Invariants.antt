use Prim.Native.Nat.{◌+◌, ◌-◌, ◌*◌}
use lib.ListN.{get_or}
use Rattle.coding.proofs.AreasLaws.{Walk}
use Rattle.recordings.specs.Planes.{among_samples}
use Rattle.recordings.proofs.strided.write_planes.Given as goal

-- The planes below p are whole.
abbrev pub invariant-loop-p : goal.invariant-loop-p
invariant-loop-p here = Walk here.recording.width here.recording.count here.s (here.recording.count - here.s) (λ q l. get_or here.recording.bytes.now (among_samples here.recording.width (here.s + l) q) 0) here.initial.out here.out (here.p * here.recording.count + here.s) here.p
