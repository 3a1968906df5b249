use Rattle.std.proofs.Common.{Fits, w8, get_or}
use borrow.Author.Rules.{rules}
use mathlib.Core.Path.{refl}
use Rattle.runs.specs.Acts.{Acts}
use Rattle.runs.proofs.GoesLaws.{hand-rows-goes}
use Rattle.runs.proofs.EventLaws.{scanned-sized}
use Rattle.runs.proofs.event.hand_rows.Goals as goal

pub takes-requires : goal.takes-requires
takes-requires c = let a = c.args in let p = c.requires in (p.0, scanned-sized a.s a.memory.now (λ i. let b : Fits w8 (get_or c.args.memory.now i 0) = search rules in b.fits) a.c c.scanned-a.result _ _ c.scanned-a.ensures.0, p.1.first, p.1.last)

pub returns : goal.returns
returns c =
    let a = c.args in
    let p = c.requires in
    let d = c.scanned-a in
    let t = c.takes in (
      t.ensures.0,
      λ honest. (Acts.shows a.c a.place.start a.place.end d.result t.result p.1 p.2 (record { answer = d.ensures.0; memory = d.ensures.1; room = d.ensures.2 }) refl t.ensures.1, λ es h. hand-rows-goes a.s p.0.measures honest es a.memory.now a.post.now a.used h a.c a.room.now d.new.room a.place.start a.place.end d.result d.new.memory t.new.post t.result (scanned-sized a.s a.memory.now (λ i. let b : Fits w8 (get_or c.args.memory.now i 0) = search rules in b.fits) a.c d.result _ _ d.ensures.0) (p.1.oldest h.parcels h.listed) p.2 d.ensures.0 d.ensures.1 d.ensures.2 t.ensures.1),
    )
