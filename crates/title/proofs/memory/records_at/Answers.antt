use mathlib.Core.Path.{ap}
use Prim.Native.Nat.{ℕ, ◌*◌}
use native.Mathlib.Omega.{arith}
use Rattle.title.proofs.MemoryLaws.{memory_bound}
use Rattle.title.proofs.memory.records_at.Goals as goal

pub overflow_mul-result : goal.overflow_mul-result
overflow_mul-result c = omega (arith, memory_bound c.args.s.measures c.args.s.pass, ap (λ (x : ℕ). c.args.s.measures.n * x) c.table_size-table.ensures)

pub overflow_add-result : goal.overflow_add-result
overflow_add-result c = omega (arith, memory_bound c.args.s.measures c.args.s.pass, c.directory_size-directory.ensures, ap (λ (x : ℕ). c.args.s.measures.n * x) c.table_size-table.ensures)
