use Prim.Native.Nat.{◌+◌}
use native.Mathlib.Omega.{arith}
use Rattle.parties.specs.protocol.Client.{client_size}
use Rattle.title.specs.Memory.{record_at}
use Rattle.title.proofs.MemoryLaws.{memory_bound, record_within, stands}
use Rattle.title.proofs.memory.record_part.Goals as goal

pub overflow_add-end : goal.overflow_add-end
overflow_add-end c =
    let a = c.args in
    let h = c.in_ok-fits.ensures.0 in
    omega (arith, memory_bound a.s h, record_within a.s h a.c, c.record_at-start.ensures, c.record_size.ensures)

pub returns : goal.returns
returns c =
    let a = c.args in
    let h = c.in_ok-fits.ensures in
    let at = c.record_at-start.ensures in
    stands a.s a.len (record_at a.s a.c) (client_size a.s) h.0 h.1 (record_within a.s h.0 a.c) _ _ at (λ j. at j + c.record_size.ensures j)
