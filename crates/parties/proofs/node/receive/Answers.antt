use Rattle.std.proofs.Common.{arith}
use mathlib.Core.Path.{sym, ◌∙◌}
use Rattle.parties.proofs.node.ToNodeLaws.{tag_other, tag_none}
use Rattle.parties.proofs.node.EndLaws.{broken-table, broken_message, node_ready}
use Rattle.parties.proofs.node.receive.Goals as goal

pub returns-then-not-table_sound : goal.returns-then-not-table_sound
returns-then-not-table_sound c =
    let a = c.args in
    broken-table a.s.measures a.t.now a.b.now a.room.now c.requires.0
    (sym c.table_sound.ensures ∙ c.if-not-table_sound.true)

pub returns-then-b-lt1 : goal.returns-then-b-lt1
returns-then-b-lt1 c =
    let a = c.args in
    broken_message a.s.measures a.t.now a.b.now a.room.now (node_ready (c.args.s.pass, c.requires.0, c.requires.1) (sym c.table_sound.ensures ∙ c.if-not-table_sound.false))
    (tag_none a.s.measures a.b.now c.if-b-lt1.true)

pub returns-in_default : goal.returns-in_default
returns-in_default c =
    let a = c.args in
    broken_message a.s.measures a.t.now a.b.now a.room.now (node_ready (c.args.s.pass, c.requires.0, c.requires.1) (sym c.table_sound.ensures ∙ c.if-not-table_sound.false))
    (tag_other a.s.measures a.b.now c.if-b-lt1.false (λ e. omega arith) (λ e. omega arith) (λ e. omega arith))
