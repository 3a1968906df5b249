use mathlib.Core.Path.{refl}
use Rattle.runs.specs.Acts.{Acts}
use Rattle.runs.specs.Happens.{honest_in}
use Rattle.runs.proofs.GoesLaws.{bring-none, bring-dishonest-goes}
use Rattle.runs.proofs.EventLaws.{halted_happens, waiting_happens, node-bounds, dishonest, honest_one}
use Rattle.runs.proofs.event.bring.Goals as goal

pub returns-in-Err : goal.returns-in-Err
returns-in-Err c =
    let a = c.args in
    halted_happens (node-bounds _ _ _) refl
    (λ v. (Acts.rests _ v.none refl, λ es h. bring-none a.s v.roomy.measures (honest_in a.liars) es a.memory.now a.post.now a.used h a.c a.i a.room.now (v.none.none h.parcels h.listed)))
    c.in-Err.ensures

pub returns-then-not-has_node : goal.returns-then-not-has_node
returns-then-not-has_node c =
    let w = c.in-Ok.ensures in
    let a = c.args in
    let t = c.bring_honest in
    let z = honest_one a.liars a.i c.has_node.result c.has_node.ensures c.if-not-has_node.true in
    waiting_happens (node-bounds _ _ _) w t.ensures.0 (t.ensures.1 (honest_in a.liars) z)

pub returns-else-not-has_node : goal.returns-else-not-has_node
returns-else-not-has_node c =
    let w = c.in-Ok.ensures in
    let a = c.args in
    let p = c.in-Ok.place in
    let d = c.remove-left in
    let z = dishonest a.liars a.i c.has_node.result c.has_node.ensures c.if-not-has_node.false in
    waiting_happens (node-bounds _ _ _) w d.ensures.long
    (Acts.loses a.c a.i p.start p.end d.result z w.stands refl refl refl d.ensures, λ es h. bring-dishonest-goes a.s w.roomy.measures (honest_in a.liars) es a.memory.now a.post.now a.used h a.c a.i a.room.now p.start p.end d.new.post d.result z (w.stands.oldest h.parcels h.listed) d.ensures)
