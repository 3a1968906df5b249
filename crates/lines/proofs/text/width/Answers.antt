use Rattle.std.proofs.Common.{arith}
use Rattle.lines.proofs.LengthLaws.{spaced_size, spaced_length}
use Rattle.lines.proofs.text.width.Goals as goal

pub returns : goal.returns
returns c =
    let e = spaced_size c.args.x _ c.ranges.x.fits c.format.ensures.text in
    (e, omega (arith, e, spaced_length 19 c.args.x (omega arith)))
