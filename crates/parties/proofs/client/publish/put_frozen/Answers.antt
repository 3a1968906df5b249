use mathlib.Core.Path.{ap}
use Prim.Native.Nat.{ℕ, ◌+◌, ◌*◌}
use native.Mathlib.Omega.{arith}
use Rattle.coding.proofs.BytesLaws.{stride}
use Rattle.parties.specs.protocol.Measures.{pointer_size}
use Rattle.parties.proofs.records.SizeLaws.{below_rows}
use Rattle.parties.proofs.client.FormLaws.{sizes}
use Rattle.parties.proofs.client.PublishLaws.{laid_none, laid-length, laid_from, laid-fits, laid_more, laid-all}
use Rattle.parties.proofs.client.publish.put_frozen.Goals as goal

pub loop-q-init : goal.loop-q-init
loop-q-init c =
    let a = c.args in
    let p = c.requires in
    laid_none a.s.measures a.area.now (λ i. (c.type_inv.area i).fits) p.1 a.room.now a.at (omega (arith, p.3))

pub overflow_mul-q : goal.overflow_mul-q
overflow_mul-q c =
    let a = c.args in
    let p = c.requires in
    let z = sizes a.s.measures c.args.s.pass in
    let l = c.loop-q in
    omega (arith, ap (λ (k : ℕ). (l.q + 1) * k) p.0, z.pointers, z.pointer, stride l.q (pointer_size a.s.measures), below_rows l.q a.s.measures.m (pointer_size a.s.measures) c.loop-q-test.true, stride a.s.measures.m (pointer_size a.s.measures))

pub put_pointer-end-requires : goal.put_pointer-end-requires
put_pointer-end-requires c =
    let l = c.loop-q in
    let a = c.args in
    let p = c.requires in
    rw p.0 (
      laid_from a.s.measures a.area.now (λ i. (c.type_inv.area i).fits) p.1 a.room.now a.at p.3 l.room l.end l.q l.invariant (omega arith) p.2,
      laid-fits a.s.measures a.area.now (λ i. (c.type_inv.area i).fits) p.1 a.room.now a.at p.3 l.room l.end l.q l.invariant (omega arith),
    )

pub loop-q-preserved : goal.loop-q-preserved
loop-q-preserved c =
    let l = c.loop-q in
    let a = c.args in
    let p = c.requires in
    let r = rw p.0 at c.put_pointer-end.ensures in
    laid_more a.s.measures a.area.now (λ i. (c.type_inv.area i).fits) p.1 a.room.now a.at p.3 l.room l.end l.q l.invariant (omega arith) _ _ r.0 r.1

pub shape_of-room : goal.shape_of-room
shape_of-room c =
    let l = c.loop-q in
    let a = c.args in
    let p = c.requires in
    laid-length a.s.measures a.area.now (λ i. (c.type_inv.area i).fits) p.1 a.room.now a.at p.3 l.room l.end l.q l.invariant

pub returns : goal.returns
returns c =
    let l = c.loop-q in
    let a = c.args in
    let p = c.requires in
    laid-all a.s.measures a.area.now (λ i. (c.type_inv.area i).fits) p.1 a.room.now a.at p.3 l.room l.end l.q l.invariant (omega arith)
