use native.Mathlib.Omega.{arith}
use lib.ListN.{length-set}
use Rattle.coding.proofs.BytesLaws.{stride}
use Rattle.parties.specs.protocol.Measures.{pointer_size}
use Rattle.parties.proofs.client.PublishLaws.{front_length, end_fits, frozen-length, update-length, update_put}
use Rattle.parties.proofs.client.publish.put_update.Goals as goal

pub copy-requires : goal.copy-requires
copy-requires c =
    let a = c.args in
    let p = c.requires in
    let x = c.pointer_size-size.ensures in
    let y = c.work_at-at.ensures in
    (omega (arith, x, p.3, length-set a.room.now 0 7, stride a.s.measures.m (pointer_size a.s.measures)), omega (arith, x, y, p.2))

pub put_frozen-end-requires : goal.put_frozen-end-requires
put_frozen-end-requires c =
    let a = c.args in
    let p = c.requires in
    let e = c.pointer_size-size.ensures in
    let l = front_length a.s.measures a.area.now (λ i. (c.type_inv.area i).fits) p.0 p.1 a.room.now p.2 p.3 _ _ e c.work_at-at.ensures _ c.copy.ensures in
    (e, p.0, p.2, omega (arith, e, l, p.3, stride a.s.measures.m (pointer_size a.s.measures)))

pub copy-requires-2 : goal.copy-requires-2
copy-requires-2 c =
    let a = c.args in
    let p = c.requires in
    let l =
    frozen-length a.s.measures a.area.now (λ i. (c.type_inv.area i).fits) p.0 p.1 a.room.now p.2 p.3 _ _ c.pointer_size-size.ensures c.work_at-at.ensures _
    c.copy.ensures _ _ c.put_frozen-end.ensures.0 c.put_frozen-end.ensures.1
    in
    let e =
    end_fits a.s.measures a.area.now (λ i. (c.type_inv.area i).fits) p.0 p.1 a.room.now p.2 p.3 _ _ c.pointer_size-size.ensures c.work_at-at.ensures _
    c.copy.ensures _ _ c.put_frozen-end.ensures.0 c.put_frozen-end.ensures.1
    in
    (omega (arith, l, e), omega (arith, c.work_at-at.ensures, p.2))

pub overflow_add-result : goal.overflow_add-result
overflow_add-result c =
    let a = c.args in
    let p = c.requires in
    let f = c.put_frozen-end.ensures in
    let e =
    end_fits a.s.measures a.area.now (λ i. (c.type_inv.area i).fits) p.0 p.1 a.room.now p.2 p.3 _ _
    c.pointer_size-size.ensures c.work_at-at.ensures _ c.copy.ensures _ _ f.0 f.1
    in
    omega (arith, e)

pub shape_of-room : goal.shape_of-room
shape_of-room c =
    let a = c.args in
    let p = c.requires in
    update-length a.s.measures a.area.now (λ i. (c.type_inv.area i).fits) p.0 p.1 a.room.now p.2 p.3 _ _ c.pointer_size-size.ensures c.work_at-at.ensures _
    c.copy.ensures _ _ c.put_frozen-end.ensures.0 c.put_frozen-end.ensures.1 _ c.copy-2.ensures

pub returns : goal.returns
returns c =
    let a = c.args in
    let p = c.requires in
    update_put a.s.measures a.area.now (λ i. (c.type_inv.area i).fits) p.0 p.1 a.room.now p.2 p.3 _ _ c.pointer_size-size.ensures c.work_at-at.ensures _
    c.copy.ensures _ _ c.put_frozen-end.ensures.0 c.put_frozen-end.ensures.1 _ c.copy-2.ensures
