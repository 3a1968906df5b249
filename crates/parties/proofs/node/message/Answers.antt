use mathlib.Core.Path.{◌≡◌, sym, ◌∙◌}
use mathlib.Core.Bool.{true}
use native.Mathlib.Omega.{arith}
use Rattle.parties.specs.protocol.Measures.{passes}
use Rattle.parties.proofs.node.SizeLaws.{sizes}
use Rattle.parties.proofs.node.EndLaws.{message_measures, message_table, message_room, message_low, message_high, message_ends}
use Rattle.parties.proofs.node.message.Goals as goal

pub returns-then-not-pass : goal.returns-then-not-pass
returns-then-not-pass c =
    let a = c.args in
    message_measures a.s a.i a.table.now a.message.now a.room.now
    (sym c.pass.ensures ∙ c.if-not-pass.true)

pub returns-then-table-size : goal.returns-then-table-size
returns-then-table-size c =
    let a = c.args in
    let pass = c.pass in
    message_table a.s a.i a.table.now a.message.now a.room.now
    (sym pass.ensures ∙ c.if-not-pass.false) (omega (arith, c.if-table-size.true, c.table_size-size.ensures))

pub overflow_add-s : goal.overflow_add-s
overflow_add-s c =
    let a = c.args in
    let pass = c.pass in
    let p : passes a.s ≡ true = sym pass.ensures ∙ c.if-not-pass.false in omega
    (arith, sizes a.s p)

pub returns-then-room-s : goal.returns-then-room-s
returns-then-room-s c =
    let a = c.args in
    let pass = c.pass in
    message_room a.s a.i a.table.now a.message.now a.room.now
    (sym pass.ensures ∙ c.if-not-pass.false) (omega (arith, c.if-table-size.false, c.table_size-size.ensures))
    c.if-room-s.true

pub returns-then-i-lt1 : goal.returns-then-i-lt1
returns-then-i-lt1 c =
    let a = c.args in
    let pass = c.pass in
    message_low a.s a.i a.table.now a.message.now a.room.now
    (sym pass.ensures ∙ c.if-not-pass.false)
    (omega (arith, c.if-table-size.false, c.table_size-size.ensures)) c.if-room-s.false c.if-i-lt1.true

pub returns-then-s-i : goal.returns-then-s-i
returns-then-s-i c =
    let a = c.args in
    let pass = c.pass in
    message_high a.s a.i a.table.now a.message.now a.room.now
    (sym pass.ensures ∙ c.if-not-pass.false)
    (omega (arith, c.if-table-size.false, c.table_size-size.ensures)) c.if-room-s.false c.if-i-lt1.false c.if-s-i.true

pub returns : goal.returns
returns c =
    let a = c.args in
    let pass = c.pass in
    message_ends a.s a.i a.table.now a.message.now a.room.now
    (sym pass.ensures ∙ c.if-not-pass.false)
    (omega (arith, c.if-table-size.false, c.table_size-size.ensures))
    c.if-room-s.false
    c.if-i-lt1.false
    c.if-s-i.false
    _ _ _ c.receive.ensures
