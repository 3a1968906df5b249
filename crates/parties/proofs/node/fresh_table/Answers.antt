use mathlib.Core.Path.{sym, ◌∙◌}
use native.Mathlib.Omega.{arith}
use Rattle.parties.proofs.node.FreshLaws.{fresh-measures, fresh-short, fresh-cleared}
use Rattle.parties.proofs.node.fresh_table.Goals as goal

pub returns-then-not-pass : goal.returns-then-not-pass
returns-then-not-pass c =
    let a = c.args in
    fresh-measures a.s a.table.now (sym c.pass.ensures ∙ c.if-not-pass.true)

pub returns-then-table-size : goal.returns-then-table-size
returns-then-table-size c =
    let a = c.args in
    let pass = c.pass in
    fresh-short a.s a.table.now (sym pass.ensures ∙ c.if-not-pass.false) (omega (arith, c.if-table-size.true, c.table_size-size.ensures))

pub returns : goal.returns
returns c =
    let a = c.args in
    let pass = c.pass in
    let size = c.table_size-size in
    fresh-cleared a.s a.table.now (sym pass.ensures ∙ c.if-not-pass.false) (omega (arith, c.if-table-size.false, size.ensures)) _
    (rw size.ensures at c.clear.ensures)
