use mathlib.Core.Path.{refl, ◌∙◌}
use native.Mathlib.Omega.{arith}
use Rattle.parties.specs.client.Found.{retained_in}
use Rattle.parties.proofs.client.FormLaws.{sizes}
use Rattle.parties.proofs.client.FreeListLaws.{listing_few, listing_all, room-enough}
use Rattle.parties.proofs.client.free.put_free_list.Goals as goal

pub loop-q-init : goal.loop-q-init
loop-q-init c = (refl, λ first x. x)

pub free_client-count-requires : goal.free_client-count-requires
free_client-count-requires c =
    let a = c.args in
    let p = c.requires in
    let l = c.loop-q in
    let f = c.start_list-start in
    let x = l.invariant.1 a.room.now f.ensures in (
      c.loop-q-test.true,
      omega (
        arith,
        listing_few a.s.measures a.map (retained_in a.s.measures a.area.now) a.v l.q a.room.now l.count l.room x,
        room-enough
            a.s.measures,
        p.2,
        l.invariant.0,
        f.auto.room,
        c.loop-q-test.true,
      ),
    )

pub loop-q-preserved : goal.loop-q-preserved
loop-q-preserved c =
    let l = c.loop-q in
    let n = c.free_client-count in
    (n.auto.room ∙ l.invariant.0, λ first x. n.ensures first (l.invariant.1 first x))

pub overflow_mul-result : goal.overflow_mul-result
overflow_mul-result c =
    let a = c.args in
    let p = c.requires in
    let l = c.loop-q in
    let f = c.start_list-start in
    let x = l.invariant.1 a.room.now f.ensures in
    omega (arith, listing_few a.s.measures a.map (retained_in a.s.measures a.area.now) a.v l.q a.room.now l.count l.room x, (sizes a.s.measures c.args.s.pass).clients, c.loop-q.auto.q-end)

pub overflow_add-result : goal.overflow_add-result
overflow_add-result c =
    let a = c.args in
    let p = c.requires in
    let l = c.loop-q in
    let f = c.start_list-start in
    let x = l.invariant.1 a.room.now f.ensures in
    omega (arith, listing_few a.s.measures a.map (retained_in a.s.measures a.area.now) a.v l.q a.room.now l.count l.room x, (sizes a.s.measures c.args.s.pass).clients, c.loop-q.auto.q-end)

pub returns : goal.returns
returns c =
    let a = c.args in
    let p = c.requires in
    let l = c.loop-q in
    let f = c.start_list-start in
    let x = l.invariant.1 a.room.now f.ensures in
    listing_all a.s.measures a.map (retained_in a.s.measures a.area.now) a.v l.q a.room.now l.count l.room x (omega (arith, c.loop-q-test.false))
