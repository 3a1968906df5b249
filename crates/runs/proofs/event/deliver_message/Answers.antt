use Rattle.std.proofs.Common.{Fits, w8, get_or}
use borrow.Author.Rules.{rules}
use Rattle.runs.specs.Acts.{Acts}
use Rattle.runs.proofs.GoesLaws.{deliver-goes}
use Rattle.runs.proofs.EventLaws.{message_sized}
use Rattle.runs.proofs.event.deliver_message.Goals as goal

pub takes-requires : goal.takes-requires
takes-requires c = let a = c.args in let p = c.requires in (p.0, message_sized a.s a.memory.now (λ i. let b : Fits w8 (get_or c.args.memory.now i 0) = search rules in b.fits) a.c c.to_client-a.result a.i _ _ _ c.to_client-a.ensures.0, p.1.first, p.1.last)

pub returns : goal.returns
returns c =
    let a = c.args in
    let p = c.requires in
    let d = c.to_client-a in
    let t = c.takes in (
      t.ensures.0,
      λ honest. (Acts.delivers a.i a.c a.place.start a.place.end d.result t.result p.1 (record { answer = d.ensures.0; memory = d.ensures.1; room = d.ensures.2 }) d.ensures.3 t.ensures.1, λ es h. deliver-goes a.s p.0.measures honest es a.memory.now a.post.now a.used h a.i a.c a.room.now a.out.now d.new.room d.new.out a.place.start a.place.end d.result d.new.memory t.new.post t.result (message_sized a.s a.memory.now (λ i. let b : Fits w8 (get_or c.args.memory.now i 0) = search rules in b.fits) a.c d.result a.i _ _ _ d.ensures.0) (p.1.oldest h.parcels h.listed) d.ensures.0 d.ensures.1 d.ensures.2 d.ensures.3 t.ensures.1),
    )
