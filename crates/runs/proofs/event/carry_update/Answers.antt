use mathlib.Core.Path.{refl}
use native.Mathlib.Omega.{arith}
use Rattle.runs.specs.Acts.{Acts}
use Rattle.runs.proofs.GoesLaws.{carry-update-goes}
use Rattle.runs.proofs.EventLaws.{update-length}
use Rattle.runs.proofs.event.carry_update.Goals as goal

pub returns : goal.returns
returns c =
    let a = c.args in
    let p = c.requires in
    let d = c.update-a in
    let t = c.serves in (
      t.ensures.0,
      λ honest. (Acts.updates a.c a.place.start a.place.end d.result t.result p.1 p.2 d.ensures.0 d.ensures.1 refl refl t.ensures.1, λ es h. carry-update-goes a.s p.0.measures honest es a.memory.now a.post.now a.used h a.c a.room.now a.place.start a.place.end d.result d.new.memory t.new.post t.result (p.1.oldest h.parcels h.listed) (omega (arith, update-length a.s d.result a.c _ _ d.ensures.0)) p.2 d.ensures.0 d.ensures.1 t.ensures.1),
    )
