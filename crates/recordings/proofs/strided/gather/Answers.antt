use Rattle.std.proofs.Common.{◌+◌, ℕ, get_or, sym, arith}
use Rattle.coding.proofs.BytesLaws.{tabulate-none, filled_more}
use Rattle.recordings.specs.Planes.{among_samples}
use Rattle.recordings.proofs.PlaceLaws.{row_within}
use Rattle.recordings.proofs.strided.gather.Goals as goal

pub bounds-recording-s : goal.bounds-recording-s
bounds-recording-s c =
    let r = c.args.recording.now in
    rw r.whole at (row_within r.width (c.args.s + c.loop-i.i) c.args.p c.requires.plane r.count (omega arith))

pub loop-i-init : goal.loop-i-init
loop-i-init c = sym (tabulate-none _)

pub loop-i-preserved : goal.loop-i-preserved
loop-i-preserved c =
    filled_more c.loop-i.b-items c.loop-i.i (λ (k : ℕ). get_or c.args.recording.now.bytes.now (among_samples c.args.recording.now.width (c.args.s + k) c.args.p) 0) (omega arith) c.loop-i.invariant
