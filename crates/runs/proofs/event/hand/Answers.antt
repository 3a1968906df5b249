use mathlib.Core.Path.{refl}
use Rattle.runs.specs.Acts.{Acts}
use Rattle.runs.proofs.GoesLaws.{hand-none}
use Rattle.runs.proofs.EventLaws.{halted_happens, waiting_happens, return-bounds}
use Rattle.runs.proofs.event.hand.Goals as goal

pub returns-in-Err : goal.returns-in-Err
returns-in-Err c =
    λ honest. let a = c.args in
    halted_happens (return-bounds _ _) refl
    (λ v. (Acts.rests _ v.none refl, λ es h. hand-none a.s v.roomy.measures honest es a.memory.now a.post.now a.used h a.c a.room.now (v.none.none h.parcels h.listed)))
    c.in-Err.ensures

pub returns-then-tagged : goal.returns-then-tagged
returns-then-tagged c =
    let w = c.in-Ok.ensures in
    λ honest. let t = c.hand_rows in
    waiting_happens (return-bounds _ _) w t.ensures.0 (t.ensures.1 honest)

pub returns-else-tagged : goal.returns-else-tagged
returns-else-tagged c =
    let w = c.in-Ok.ensures in
    λ honest. let t = c.hand_updated in
    waiting_happens (return-bounds _ _) w t.ensures.0 (t.ensures.1 honest)
