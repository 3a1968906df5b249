use Prim.Native.Nat.{◌+◌}
use native.Mathlib.Omega.{arith}
use Rattle.parties.specs.protocol.NodeEvents.{table_size}
use Rattle.title.specs.Memory.{table_at}
use Rattle.title.proofs.MemoryLaws.{memory_bound, table-within, stands}
use Rattle.title.proofs.memory.table_part.Goals as goal

pub overflow_add-end : goal.overflow_add-end
overflow_add-end c =
    let a = c.args in
    let h = c.in_ok-fits.ensures.0 in
    omega (arith, memory_bound a.s h, table-within a.s h a.i, c.table_at-start.ensures, c.table_size.ensures)

pub returns : goal.returns
returns c =
    let a = c.args in
    let h = c.in_ok-fits.ensures in
    let at = c.table_at-start.ensures in
    stands a.s a.len (table_at a.s a.i) (table_size a.s) h.0 h.1 (table-within a.s h.0 a.i) _ _ at (λ j. at j + c.table_size.ensures j)
