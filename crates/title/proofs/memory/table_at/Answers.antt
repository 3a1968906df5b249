use mathlib.Core.Path.{sym, ap, ◌∙◌}
use Prim.Native.Nat.{ℕ, ◌-◌, ◌*◌}
use native.Mathlib.Omega.{arith}
use Rattle.title.proofs.MemoryLaws.{memory_bound, table_own, table_none, table_above, table-within}
use Rattle.title.proofs.memory.table_at.Goals as goal

pub returns-then-i-lt1 : goal.returns-then-i-lt1
returns-then-i-lt1 c = c.directory_size-directory.ensures ∙ sym (table_none c.args.s.measures c.args.i c.if-i-lt1.true)

pub returns-then-s-i : goal.returns-then-s-i
returns-then-s-i c = c.directory_size-directory.ensures ∙ sym (table_above c.args.s.measures c.args.i c.if-i-lt1.false c.if-s-i.true)

pub overflow_mul-result : goal.overflow_mul-result
overflow_mul-result c = omega (arith, memory_bound c.args.s.measures c.args.s.pass, table-within c.args.s.measures c.args.s.pass c.args.i, table_own c.args.s.measures c.args.i c.if-i-lt1.false c.if-s-i.false, ap (λ (x : ℕ). (c.args.i - 1) * x) c.table_size-table.ensures)

pub overflow_add-result : goal.overflow_add-result
overflow_add-result c = omega (arith, memory_bound c.args.s.measures c.args.s.pass, table-within c.args.s.measures c.args.s.pass c.args.i, table_own c.args.s.measures c.args.i c.if-i-lt1.false c.if-s-i.false, c.directory_size-directory.ensures, ap (λ (x : ℕ). (c.args.i - 1) * x) c.table_size-table.ensures)

pub returns : goal.returns
returns c = omega (arith, table_own c.args.s.measures c.args.i c.if-i-lt1.false c.if-s-i.false, c.directory_size-directory.ensures, ap (λ (x : ℕ). (c.args.i - 1) * x) c.table_size-table.ensures)
