use Rattle.std.proofs.Common.{◌≡◌, ◌+◌, take, get_or}
use Rattle.coding.specs.Bytes.{tabulate}
use Rattle.recordings.specs.Planes.{among_samples}
use Rattle.recordings.proofs.strided.gather.Given as goal

-- The first i bytes are gathered.
abbrev pub invariant-loop-i : goal.invariant-loop-i
invariant-loop-i l = take l.i l.b-items ≡ tabulate l.i (λ k. get_or l.recording.bytes.now (among_samples l.recording.width (l.s + k) l.p) 0)
