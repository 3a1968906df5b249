use Rattle.std.proofs.Common.{ap, sym}
use Rattle.recordings.specs.Planes.{planes_of}
use Rattle.recordings.specs.Arrange.{ArrangeEnd}
use Rattle.recordings.proofs.ArrangeLaws.{arrange-done, planes-laid}
use Rattle.recordings.proofs.arrange.planes.Goals as goal

pub returns : goal.returns
returns c =
    let w = c.args.width in
    let d = c.args.bytes.now in
    let out = c.args.out.now in
    let is = c.in_ok-recording.ensures.ok in
    (sym (ap (λ (z : ArrangeEnd). z.outcome) (arrange-done planes_of w d out is.4 is.3)), planes-laid w d out _ is.4 is.3 (rw (is.0, is.1, is.2) at c.lay_planes.ensures))
