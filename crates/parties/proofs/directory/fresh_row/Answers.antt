use mathlib.Core.Path.{◌≡◌}
use Prim.Native.Nat.{◌+◌, ◌<◌}
use native.Mathlib.Omega.{arith}
use Rattle.parties.proofs.protocol.formats.MeasureLaws.{passed}
use Rattle.parties.proofs.directory.RoomLaws.{built_length}
use Rattle.parties.proofs.directory.FreshLaws.{started, fresh_start, fresh_turn, fresh_end}
use Rattle.parties.proofs.directory.fresh_row.Goals as goal

pub overflow_add-pointers : goal.overflow_add-pointers
overflow_add-pointers c = omega (arith, (passed c.args.s.measures c.args.s.pass).clients)

pub loop-i-init : goal.loop-i-init
loop-i-init c =
    let f = fresh_start c.args.room.now c.requires in (omega arith, built_length (started 0) _ f, f)

pub overflow_mul-room : goal.overflow_mul-room
overflow_mul-room c =
    let few : c.loop-i.i < 9 =
    omega (arith, (passed c.args.s.measures c.args.s.pass).clients, c.loop-i-test.true) in
    let h : c.loop-i.i < 9 = few in omega arith

pub overflow_add-room : goal.overflow_add-room
overflow_add-room c =
    let few : c.loop-i.i < 9 =
    omega (arith, (passed c.args.s.measures c.args.s.pass).clients, c.loop-i-test.true) in
    let h : c.loop-i.i < 9 = few in omega arith

pub bounds-room-i : goal.bounds-room-i
bounds-room-i c =
    let few : c.loop-i.i < 9 =
    omega (arith, (passed c.args.s.measures c.args.s.pass).clients, c.loop-i-test.true) in
    let h : c.loop-i.i < 9 = few in omega (arith, c.loop-i.invariant.1)

pub loop-i-preserved : goal.loop-i-preserved
loop-i-preserved c =
    let few : c.loop-i.i < 9 =
    omega (arith, (passed c.args.s.measures c.args.s.pass).clients, c.loop-i-test.true) in
    let l = c.loop-i in
    let f = fresh_turn l.i l.room few l.invariant.2 in (omega (arith, c.loop-i-test.true), built_length (started (l.i + 1)) _ f, f)

pub returns : goal.returns
returns c =
    let l = c.loop-i in
    let e : l.i ≡ c.args.s.measures.m + 1 = omega (arith, c.loop-i-test.false) in
    fresh_end c.args.s.measures l.room c.args.s.pass (rw e at l.invariant.2)
