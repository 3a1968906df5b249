use mathlib.Core.Path.{refl}
use native.Mathlib.Omega.{arith}
use Rattle.runs.specs.Acts.{Acts}
use Rattle.runs.proofs.GoesLaws.{carry-scan-goes}
use Rattle.runs.proofs.SentLaws.{rows-small}
use Rattle.runs.proofs.EventLaws.{scan-length}
use Rattle.runs.proofs.event.carry_scan.Goals as goal

pub serves-requires : goal.serves-requires
serves-requires c = let p = c.requires in (p.0, omega (arith, scan-length c.args.s c.scan-a.result _ _ c.scan-a.ensures.0), omega arith, p.1.first, p.1.last)

pub returns : goal.returns
returns c =
    let a = c.args in
    let p = c.requires in
    let d = c.scan-a in
    let t = c.serves in (
      t.ensures.0,
      λ honest. (Acts.scans a.c a.place.start a.place.end d.result t.result p.1 p.2 d.ensures.0 refl d.ensures.1 refl t.ensures.1, λ es h. carry-scan-goes a.s p.0.measures honest es a.memory.now a.post.now a.used h a.c a.room.now d.new.room a.place.start a.place.end d.result t.new.post t.result (p.1.oldest h.parcels h.listed) (omega (arith, scan-length a.s d.result _ _ d.ensures.0, rows-small a.s p.0.measures)) p.2 d.ensures.0 d.ensures.1 t.ensures.1),
    )
