use mathlib.Core.Path.{ap}
use Prim.Native.Nat.{ℕ, ◌*◌}
use native.Mathlib.Omega.{arith}
use Rattle.title.proofs.MemoryLaws.{memory_bound}
use Rattle.title.proofs.memory.memory_size.Goals as goal

pub overflow_mul-result : goal.overflow_mul-result
overflow_mul-result c = omega (arith, memory_bound c.args.s.measures c.args.s.pass, ap (λ (x : ℕ). c.args.s.measures.m * x) c.record_size-record.ensures)

pub overflow_add-result : goal.overflow_add-result
overflow_add-result c = omega (arith, memory_bound c.args.s.measures c.args.s.pass, c.records_at-tables.ensures, ap (λ (x : ℕ). c.args.s.measures.m * x) c.record_size-record.ensures)
