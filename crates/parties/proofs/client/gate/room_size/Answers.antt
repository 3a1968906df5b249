use native.Mathlib.Omega.{arith}
use Rattle.parties.proofs.records.SizeLaws.{row_bound}
use Rattle.parties.proofs.client.FormLaws.{sizes}
use Rattle.parties.proofs.client.gate.room_size.Goals as goal

pub overflow_mul-result : goal.overflow_mul-result
overflow_mul-result c = omega (arith, (sizes c.args.s.measures c.args.s.pass).pieces)

pub overflow_add-result : goal.overflow_add-result
overflow_add-result c = omega (arith, (sizes c.args.s.measures c.args.s.pass).pieces)

pub overflow_add-result-2 : goal.overflow_add-result-2
overflow_add-result-2 c =
    omega (arith, (sizes c.args.s.measures c.args.s.pass).pieces, row_bound c.args.s.measures c.args.s.pass, c.row_size-row.ensures)
