use Rattle.std.proofs.Common.{Fits, w8, get_or, rules}
use mathlib.Core.Path.{◌≡◌, ◌∙◌}
use native.Mathlib.Omega.{arith}
use Rattle.parties.specs.protocol.Directory.{read_directory}
use Rattle.parties.specs.client.Draw.{rows_of}
use Rattle.parties.proofs.client.FormLaws.{sizes}
use Rattle.parties.proofs.client.FreezeLaws.{retaining_none, retaining_length, retaining_more, retaining_ends}
use Rattle.parties.proofs.client.freeze.retain.Goals as goal

pub loop-q-init : goal.loop-q-init
loop-q-init c =
    let a = c.args in
    let p = c.requires in
    retaining_none a.s.measures a.map (rows_of (read_directory a.s.measures a.rows.now)) a.area.now (λ i. (c.type_inv.area i).fits) p.0 p.1 p.2

pub retain_one-requires : goal.retain_one-requires
retain_one-requires c =
    let a = c.args in
    let p = c.requires in
    let l = c.loop-q in (
      c.pointer_size-size.ensures,
      c.work_at-at.ensures,
      c.loop-q-test.true,
      omega (
        arith,
        p.0,
        retaining_length a.s.measures a.map (rows_of (read_directory a.s.measures a.rows.now)) a.area.now (λ i. let b : Fits w8 (get_or c.args.area.now i 0) = search rules in b.fits) p.0 p.1 p.2 l.area l.q
            l.invariant,
      ),
      p.3,
      p.4,
    )

pub loop-q-preserved : goal.loop-q-preserved
loop-q-preserved c =
    let a = c.args in
    let p = c.requires in
    let l = c.loop-q in
    let t = c.loop-q-test.true in
    retaining_more a.s.measures a.map (rows_of (read_directory a.s.measures a.rows.now)) a.area.now (λ i. let b : Fits w8 (get_or c.args.area.now i 0) = search rules in b.fits) p.0 p.1
    p.2 l.area l.q l.invariant t _ c.retain_one.ensures

pub overflow_add-at : goal.overflow_add-at
overflow_add-at c =
    let a = c.args in
    let p = c.requires in
    let z = sizes a.s.measures c.args.s.pass in
    omega (arith, z.pointers, z.pointer, z.clients, c.work_at-at.ensures, c.pointer_size-size.ensures)

pub move_down-requires : goal.move_down-requires
move_down-requires c =
    let a = c.args in
    let p = c.requires in
    let l = c.loop-q in (
      omega arith,
      omega arith,
      omega (
        arith,
        p.0,
        retaining_length a.s.measures a.map (rows_of (read_directory a.s.measures a.rows.now)) a.area.now (λ i. let b : Fits w8 (get_or c.args.area.now i 0) = search rules in b.fits) p.0
            p.1 p.2 l.area l.q l.invariant,
        c.work_at-at.ensures,
        c.pointer_size-size.ensures,
      ),
    )

pub overflow_add-at-2 : goal.overflow_add-at-2
overflow_add-at-2 c =
    let a = c.args in
    let p = c.requires in
    let z = sizes a.s.measures c.args.s.pass in
    omega (arith, z.pointers, z.pointer, z.clients, z.nodes, z.pieces, c.work_at-at.ensures, c.work_size-work.ensures)

pub clear-requires : goal.clear-requires
clear-requires c =
    let a = c.args in
    let p = c.requires in
    let l = c.loop-q in (
      omega arith,
      omega (
        arith,
        p.0,
        retaining_length a.s.measures a.map (rows_of (read_directory a.s.measures a.rows.now)) a.area.now
            (λ i. let b : Fits w8 (get_or c.args.area.now i 0) = search rules in b.fits) p.0 p.1 p.2 l.area l.q
            l.invariant,
        c.move_down.auto.t,
        c.work_at-at.ensures,
        c.work_size-work.ensures,
      ),
    )

pub shape_of-area : goal.shape_of-area
shape_of-area c =
    let a = c.args in
    let p = c.requires in
    let l = c.loop-q in
    c.clear.auto.t ∙ c.move_down.auto.t ∙ retaining_length a.s.measures a.map (rows_of (read_directory a.s.measures a.rows.now)) a.area.now
    (λ i. let b : Fits w8 (get_or c.args.area.now i 0) = search rules in b.fits) p.0 p.1 p.2 l.area l.q l.invariant

pub returns : goal.returns
returns c =
    let a = c.args in
    let p = c.requires in
    let l = c.loop-q in
    let e : l.q ≡ a.s.measures.m = omega (arith, c.loop-q-test.false) in
    retaining_ends a.s.measures a.map (rows_of (read_directory a.s.measures a.rows.now)) a.area.now (λ i. let b : Fits w8 (get_or c.args.area.now i 0) = search rules in b.fits) p.0 p.1 p.2 l.area l.q
    l.invariant e c.work_at-at.result c.pointer_size-size.result c.work_size-work.result
    c.work_at-at.ensures c.pointer_size-size.ensures c.work_size-work.ensures _ _ c.move_down.ensures
    c.clear.ensures
