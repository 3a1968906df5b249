use mathlib.Core.Path.{refl}
use Rattle.runs.specs.Acts.{Acts}
use Rattle.runs.specs.Happens.{honest_in}
use Rattle.runs.proofs.GoesLaws.{lie-honest}
use Rattle.runs.proofs.EventLaws.{halted_happens, waiting_happens, client-bounds, lie-asks-none, honest_one}
use Rattle.runs.proofs.event.lie.Goals as goal

pub returns-in-Err : goal.returns-in-Err
returns-in-Err c =
    let a = c.args in
    let z = honest_one a.liars a.i c.has_node.result c.has_node.ensures c.if-has_node.false in
    halted_happens (client-bounds _ _ _) (lie-asks-none a.s (honest_in a.liars) a.i a.c a.bytes.now a.room.now a.out.now (record { memory = a.memory.now; post = a.post.now; room = a.room.now; out = a.out.now }) z)
    (λ v. (Acts.rests _ z refl, λ es h. lie-honest a.s v.roomy.measures (honest_in a.liars) es a.memory.now a.post.now a.used h a.i a.c a.bytes.now a.room.now a.out.now z))
    c.in-Err.ensures

pub returns-in-Ok : goal.returns-in-Ok
returns-in-Ok c =
    let a = c.args in
    let z = honest_one a.liars a.i c.has_node.result c.has_node.ensures c.if-has_node.false in
    let w = c.in-Ok.ensures in
    waiting_happens (client-bounds _ _ _) w refl
    (Acts.rests _ z refl, λ es h. lie-honest a.s w.roomy.measures (honest_in a.liars) es a.memory.now a.post.now a.used h a.i a.c a.bytes.now a.room.now a.out.now z)
