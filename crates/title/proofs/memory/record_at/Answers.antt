use mathlib.Core.Path.{sym, ap, ◌∙◌}
use Prim.Native.Nat.{ℕ, ◌*◌}
use native.Mathlib.Omega.{arith}
use Rattle.title.proofs.MemoryLaws.{memory_bound, record_own, record_none, record_within}
use Rattle.title.proofs.memory.record_at.Goals as goal

pub returns-then-s-c : goal.returns-then-s-c
returns-then-s-c c = c.records_at-tables.ensures ∙ sym (record_none c.args.s.measures c.args.c c.if-s-c.true)

pub overflow_mul-result : goal.overflow_mul-result
overflow_mul-result c = omega (arith, memory_bound c.args.s.measures c.args.s.pass, record_within c.args.s.measures c.args.s.pass c.args.c, record_own c.args.s.measures c.args.c c.if-s-c.false, ap (λ (x : ℕ). c.args.c * x) c.record_size-record.ensures)

pub overflow_add-result : goal.overflow_add-result
overflow_add-result c = omega (arith, memory_bound c.args.s.measures c.args.s.pass, record_within c.args.s.measures c.args.s.pass c.args.c, record_own c.args.s.measures c.args.c c.if-s-c.false, c.records_at-tables.ensures, ap (λ (x : ℕ). c.args.c * x) c.record_size-record.ensures)

pub returns : goal.returns
returns c = omega (arith, record_own c.args.s.measures c.args.c c.if-s-c.false, c.records_at-tables.ensures, ap (λ (x : ℕ). c.args.c * x) c.record_size-record.ensures)
