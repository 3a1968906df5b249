use mathlib.Core.Path.{◌∙◌, sym}
use native.Mathlib.Omega.{arith}
use Rattle.parties.proofs.protocol.formats.MeasureLaws.{passed}
use Rattle.parties.proofs.records.RecordLaws.{front-none, front_some}
use Rattle.parties.proofs.records.form.proper.Goals as goal
use Rattle.parties.proofs.records.form.proper.Goals.{then-proper, else-proper}

pub returns-then-is_none : goal.returns-then-is_none
returns-then-is_none c =
    let a = c.args in
    front-none a.s.measures a.v a.map (sym c.is_none.ensures ∙ c.if-is_none.true)

pub overflow_add-s : goal.overflow_add-s
overflow_add-s c = omega (arith, (passed c.args.s.measures c.args.s.pass).enough)

pub within-requires : goal.within-requires
within-requires c = (passed c.args.s.measures c.args.s.pass).nodes.1

pub returns-then-nodes-s : goal.returns-then-nodes-s
returns-then-nodes-s c =
    let some = front_some c.args.s.measures c.args.v c.args.map (sym c.is_none.ensures ∙ c.if-is_none.false) in
    elim c.if-proper.branch [
      | then-proper w ↦ grind (arith, some)
      | else-proper w ↦ grind (arith, some)
    ]

pub returns-else-nodes-s : goal.returns-else-nodes-s
returns-else-nodes-s c =
    let some = front_some c.args.s.measures c.args.v c.args.map (sym c.is_none.ensures ∙ c.if-is_none.false) in
    elim c.if-proper.branch [
      | then-proper w ↦ grind (arith, some)
      | else-proper w ↦ grind (arith, some)
    ]
