use mathlib.Core.Path.{refl}
use Rattle.parties.specs.protocol.Run.{deliver}
use Rattle.runs.specs.Acts.{Acts}
use Rattle.runs.proofs.GoesLaws.{deliver-none}
use Rattle.runs.proofs.EventLaws.{halted_happens, waiting_happens, client-bounds}
use Rattle.runs.proofs.event.deliver.Goals as goal

pub returns-in-Err : goal.returns-in-Err
returns-in-Err c =
    λ honest. let a = c.args in
    halted_happens (client-bounds _ _ _) refl
    (λ v. (Acts.rests _ v.none refl, λ es h. deliver-none a.s v.roomy.measures honest es a.memory.now a.post.now a.used h a.i a.c a.room.now a.out.now (v.none.none h.parcels h.listed)))
    c.in-Err.ensures

pub returns-in-Ok : goal.returns-in-Ok
returns-in-Ok c =
    let w = c.in-Ok.ensures in
    λ honest. let a = c.args in
    let t = c.deliver_message in
    waiting_happens {e = deliver a.i a.c a.room.now a.out.now} (client-bounds _ _ _) w t.ensures.0 (t.ensures.1 honest)
