use Rattle.std.proofs.Common.{Fits, w8, get_or}
use borrow.Author.Rules.{rules}
use mathlib.Core.Path.{refl}
use native.Mathlib.Omega.{arith}
use Rattle.runs.specs.Acts.{Acts}
use Rattle.runs.proofs.GoesLaws.{bring-honest-goes}
use Rattle.parties.proofs.protocol.formats.MeasureLaws.{passed}
use Rattle.runs.proofs.EventLaws.{node-length, answer-fits}
use Rattle.runs.proofs.event.bring_honest.Goals as goal

pub serves-requires : goal.serves-requires
serves-requires c = let p = c.requires in (p.0, omega (arith, node-length c.args.s c.args.memory.now (λ i. let b : Fits w8 (get_or c.args.memory.now i 0) = search rules in b.fits) c.to_node-a.result c.args.i _ _ c.to_node-a.ensures.0, answer-fits c.args.s p.0.measures), omega arith, p.1.first, p.1.last)

pub returns : goal.returns
returns c =
    let a = c.args in
    let p = c.requires in
    let d = c.to_node-a in
    let t = c.serves in (
      t.ensures.0,
      λ honest l. (Acts.brings a.c a.i a.place.start a.place.end d.result t.result l p.1 d.ensures.0 d.ensures.1 d.ensures.2 refl t.ensures.1, λ es h. bring-honest-goes a.s p.0.measures honest es a.memory.now a.post.now a.used h a.c a.i a.room.now d.new.room a.place.start a.place.end d.result d.new.memory t.new.post t.result l (omega (arith, node-length a.s a.memory.now (λ i. let b : Fits w8 (get_or c.args.memory.now i 0) = search rules in b.fits) d.result a.i _ _ d.ensures.0, (passed a.s p.0.measures).bytes.1)) (p.1.oldest h.parcels h.listed) d.ensures.0 d.ensures.1 d.ensures.2 t.ensures.1),
    )
