use native.Mathlib.Omega.{arith}
use Rattle.parties.proofs.client.FormLaws.{sizes}
use Rattle.parties.proofs.client.form.work_size.Goals as goal

pub overflow_add-result : goal.overflow_add-result
overflow_add-result c = let z = sizes c.args.s.measures c.args.s.pass in omega (arith, z.pointer, c.pointer_size-size.ensures)

pub overflow_add-result-2 : goal.overflow_add-result-2
overflow_add-result-2 c = let z = sizes c.args.s.measures c.args.s.pass in omega (arith, z.bytes)

pub overflow_mul-result : goal.overflow_mul-result
overflow_mul-result c = let z = sizes c.args.s.measures c.args.s.pass in omega (arith, z.nodes, z.pieces)

pub overflow_add-result-3 : goal.overflow_add-result-3
overflow_add-result-3 c = let z = sizes c.args.s.measures c.args.s.pass in omega (arith, z.nodes, z.pieces, z.pointer, c.pointer_size-size.ensures)
