use Rattle.std.proofs.Common.{Fits, w8, get_or}
use borrow.Author.Rules.{rules}
use mathlib.Core.Path.{refl, sym, ◌∙◌}
use mathlib.Core.List.{[]}
use Rattle.runs.specs.Happens.{Happens}
use Rattle.runs.specs.Parcels.{to_client_kind}
use Rattle.runs.specs.Acts.{Acts}
use Rattle.runs.proofs.PostLaws.{key-client}
use Rattle.runs.proofs.GoesLaws.{reading-goes}
use Rattle.runs.proofs.EventLaws.{uncleared_happens, start_bounds, reading-sized, reading-suffices, sized_is}
use Rattle.runs.proofs.event.reading.Goals as goal

pub starts-requires : goal.starts-requires
starts-requires c =
    let y = c.in-Ok.ensures in
    let a = c.args in (y.0, reading-sized a.s a.memory.now (λ i. let b : Fits w8 (get_or c.args.memory.now i 0) = search rules in b.fits) a.c c.read-a.result a.room.now c.read-a.ensures.0)

pub returns-in-Err : goal.returns-in-Err
returns-in-Err c =
    λ honest. let a = c.args in
    uncleared_happens (λ ok. start_bounds a.s ok a.c)
    (λ ok. reading-suffices a.s honest a.c a.room.now (record { memory = a.memory.now; post = a.post.now; room = a.room.now; out = [] }) _ (c.room.ensures ∙ sized_is a.s _ ok))
    c.in-Err.ensures

pub returns-in-Ok : goal.returns-in-Ok
returns-in-Ok c =
    let y = c.in-Ok.ensures in
    λ honest.
    let a = c.args in
    let d = c.read-a in
    let t = c.starts in
    Happens.happens t.result (record { roomy = y.0; bounds = sym (start_bounds a.s y.0.measures a.c) ∙ y.1; list = y.2 }) t.ensures.0
    (Acts.reads a.c d.result t.result (record { answer = d.ensures.0; memory = d.ensures.1; room = d.ensures.2 }) refl t.ensures.1)
    (λ es h. reading-goes a.s y.0.measures honest es a.memory.now a.post.now a.used h a.c a.room.now d.new.room d.result d.new.memory t.new.post t.result (key-client a.s to_client_kind a.c 1 y.1)
    (reading-sized a.s a.memory.now (λ i. let b : Fits w8 (get_or c.args.memory.now i 0) = search rules in b.fits) a.c d.result a.room.now d.ensures.0) d.ensures.0 d.ensures.1 d.ensures.2 t.ensures.1)
