use mathlib.Core.Path.{refl}
use Rattle.runs.specs.Acts.{Acts}
use Rattle.runs.proofs.GoesLaws.{carry-none}
use Rattle.runs.proofs.EventLaws.{halted_happens, waiting_happens, call-bounds}
use Rattle.runs.proofs.event.carry.Goals as goal

pub returns-in-Err : goal.returns-in-Err
returns-in-Err c =
    λ honest. let a = c.args in
    halted_happens (call-bounds _ _) refl
    (λ v. (Acts.rests _ v.none refl, λ es h. carry-none a.s v.roomy.measures honest es a.memory.now a.post.now a.used h a.c a.room.now (v.none.none h.parcels h.listed)))
    c.in-Err.ensures

pub returns-then-tagged : goal.returns-then-tagged
returns-then-tagged c =
    let w = c.in-Ok.ensures in
    λ honest. let t = c.carry_update in
    waiting_happens (call-bounds _ _) w t.ensures.0 (t.ensures.1 honest)

pub returns-else-tagged : goal.returns-else-tagged
returns-else-tagged c =
    let w = c.in-Ok.ensures in
    λ honest. let t = c.carry_scan in
    waiting_happens (call-bounds _ _) w t.ensures.0 (t.ensures.1 honest)
