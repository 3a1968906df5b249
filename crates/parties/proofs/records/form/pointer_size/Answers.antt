use native.Mathlib.Omega.{arith}
use Rattle.parties.proofs.records.SizeLaws.{pointer_bound}
use Rattle.parties.proofs.records.form.pointer_size.Goals as goal

pub overflow_add-result : goal.overflow_add-result
overflow_add-result c = omega (arith, pointer_bound c.args.s.measures c.args.s.pass)

pub overflow_mul-result : goal.overflow_mul-result
overflow_mul-result c = omega (arith, pointer_bound c.args.s.measures c.args.s.pass)

pub overflow_add-result-2 : goal.overflow_add-result-2
overflow_add-result-2 c = omega (arith, pointer_bound c.args.s.measures c.args.s.pass)
