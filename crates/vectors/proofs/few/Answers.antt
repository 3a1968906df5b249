use Rattle.std.proofs.Common.{arith}
use Rattle.std.proofs.KnownBytes.{Appends-trans}
use Rattle.vectors.specs.Bytes.{hex_of}
use Rattle.vectors.proofs.BytesLaws.{hex_more}
use Rattle.vectors.proofs.few.Goals as goal

pub loop-b-init : goal.loop-b-init
unfolding hex_of
loop-b-init g c = c.in_ok-word.ensures

pub loop-b-preserved : goal.loop-b-preserved
loop-b-preserved g c =
    rw (hex_more c.args.s.now c.loop-b.b-index (omega arith)) (Appends-trans _ _ _ _ _ c.loop-b.invariant c.in_ok-byte.ensures)
