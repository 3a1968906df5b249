use Rattle.std.proofs.Common.{Fits, w8, get_or}
use borrow.Author.Rules.{rules}
use mathlib.Core.Path.{sym, ◌∙◌}
use Rattle.runs.specs.Happens.{Happens}
use Rattle.runs.specs.Parcels.{to_client_kind}
use Rattle.runs.specs.Acts.{Acts}
use Rattle.runs.proofs.PostLaws.{key-client}
use Rattle.runs.proofs.GoesLaws.{lie-goes}
use Rattle.runs.proofs.EventLaws.{uncleared_happens, client-bounds, message_sized, lie-suffices}
use Rattle.runs.proofs.event.lie_dishonest.Goals as goal

pub starts-requires : goal.starts-requires
starts-requires c =
    let y = c.in-Ok.ensures in
    let a = c.args in (y.0, message_sized a.s a.memory.now (λ i. let b : Fits w8 (get_or c.args.memory.now i 0) = search rules in b.fits) a.c c.to_client-a.result a.i a.bytes.now a.room.now a.out.now c.to_client-a.ensures.0)

pub returns-in-Err : goal.returns-in-Err
returns-in-Err c =
    λ honest z. let a = c.args in
    uncleared_happens (λ ok. client-bounds a.s a.c a.i)
    (λ ok. lie-suffices a.s honest a.i a.c a.bytes.now a.room.now a.out.now (record { memory = a.memory.now; post = a.post.now; room = a.room.now; out = a.out.now }) _ z (c.message_slices-enough.ensures ok))
    c.in-Err.ensures

pub returns-in-Ok : goal.returns-in-Ok
returns-in-Ok c =
    let y = c.in-Ok.ensures in
    λ honest z.
    let a = c.args in
    let d = c.to_client-a in
    let t = c.starts in
    Happens.happens t.result (record { roomy = y.0; bounds = sym (client-bounds a.s a.c a.i) ∙ y.1; list = y.2 }) t.ensures.0
    (Acts.lies a.i a.c a.bytes.now d.result t.result z (record { answer = d.ensures.0; memory = d.ensures.1; room = d.ensures.2 }) d.ensures.3 t.ensures.1)
    (λ es h. lie-goes a.s y.0.measures honest es a.memory.now a.post.now a.used h a.i a.c a.bytes.now a.room.now a.out.now d.new.room d.new.out d.result d.new.memory t.new.post t.result
    z (key-client a.s to_client_kind a.c a.i y.1) (message_sized a.s a.memory.now (λ i. let b : Fits w8 (get_or c.args.memory.now i 0) = search rules in b.fits) a.c d.result a.i a.bytes.now a.room.now a.out.now d.ensures.0) d.ensures.0 d.ensures.1 d.ensures.2 d.ensures.3 t.ensures.1)
