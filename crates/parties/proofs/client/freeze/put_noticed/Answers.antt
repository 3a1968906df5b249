use native.Mathlib.Omega.{arith}
use Rattle.parties.proofs.client.RetainLaws.{fits, noticed_put}
use Rattle.parties.proofs.client.freeze.put_noticed.Goals as goal

pub overflow_mul-frozen : goal.overflow_mul-frozen
overflow_mul-frozen c =
    let a = c.args in
    let p = c.requires in
    let z = fits a.s.measures c.args.s.pass a.size a.q p.0 p.2 in
    omega (arith, z.within, z.same, z.pointers, z.clients, p.2)

pub overflow_mul-pointers : goal.overflow_mul-pointers
overflow_mul-pointers c =
    let a = c.args in
    let p = c.requires in
    let z = fits a.s.measures c.args.s.pass a.size a.q p.0 p.2 in
    omega (arith, z.within, z.same, z.pointers, z.clients, p.2)

pub overflow_add-index : goal.overflow_add-index
overflow_add-index c =
    let a = c.args in
    let p = c.requires in
    let z = fits a.s.measures c.args.s.pass a.size a.q p.0 p.2 in
    omega (arith, z.within, z.same, z.pointers, z.clients, p.2)

pub overflow_add-index-2 : goal.overflow_add-index-2
overflow_add-index-2 c =
    let a = c.args in
    let p = c.requires in
    let z = fits a.s.measures c.args.s.pass a.size a.q p.0 p.2 in
    omega (arith, z.within, z.same, z.pointers, z.clients, p.2)

pub overflow_sub-at : goal.overflow_sub-at
overflow_sub-at c =
    let a = c.args in
    let p = c.requires in
    let z = fits a.s.measures c.args.s.pass a.size a.q p.0 p.2 in
    omega (arith, z.within, z.same, z.pointers, z.clients, p.1)

pub overflow_add-pointers-2 : goal.overflow_add-pointers-2
overflow_add-pointers-2 c =
    let a = c.args in
    let p = c.requires in
    let z = fits a.s.measures c.args.s.pass a.size a.q p.0 p.2 in
    omega (arith, z.within, z.same, z.pointers, z.clients, p.2)

pub move_up-requires : goal.move_up-requires
move_up-requires c =
    let a = c.args in
    let p = c.requires in
    let z = fits a.s.measures c.args.s.pass a.size a.q p.0 p.2 in
    (omega arith, omega (arith, z.within, z.same, z.pointers, z.clients, p.2, p.3, c.move_down.auto.t))

pub put_u32-requires : goal.put_u32-requires
put_u32-requires c =
    let a = c.args in
    let p = c.requires in
    let z = fits a.s.measures c.args.s.pass a.size a.q p.0 p.2 in
    omega (arith, z.within, z.same, z.pointers, z.clients, p.2, p.3, c.move_down.auto.t, c.move_up.auto.t)

pub returns : goal.returns
returns c =
    let a = c.args in
    let p = c.requires in
    let z = fits a.s.measures c.args.s.pass a.size a.q p.0 p.2 in
    noticed_put a.s.measures a.q a.i a.size a.at p.0 p.1 (omega (arith, z.within, z.same, p.1)) a.area.now _ _ _
    c.move_down.ensures c.move_up.ensures c.put_u32.ensures
