use native.Mathlib.Omega.{arith}
use Rattle.parties.proofs.node.SizeLaws.{sizes}
use Rattle.parties.proofs.node.table_size.Goals as goal

pub overflow_mul-result : goal.overflow_mul-result
overflow_mul-result c = let z = sizes c.args.s.measures c.args.s.pass in omega (arith, z.squares)

pub overflow_mul-result-2 : goal.overflow_mul-result-2
overflow_mul-result-2 c = let z = sizes c.args.s.measures c.args.s.pass in omega (arith, z.squares)

pub overflow_add-result : goal.overflow_add-result
overflow_add-result c = let z = sizes c.args.s.measures c.args.s.pass in omega (arith, z.place)

pub overflow_mul-result-3 : goal.overflow_mul-result-3
overflow_mul-result-3 c = let z = sizes c.args.s.measures c.args.s.pass in omega (arith, z.table)

pub overflow_add-result-2 : goal.overflow_add-result-2
overflow_add-result-2 c = let z = sizes c.args.s.measures c.args.s.pass in omega (arith, z.table)
