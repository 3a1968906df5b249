use mathlib.Core.Path.{sym, ap, ◌∙◌}
use mathlib.Core.List.{[]}
use Rattle.parties.specs.protocol.NodeTable.{write_table}
use Rattle.parties.proofs.protocol.events.FreshTableLaws.{table-long}
use Prim.Native.Nat.{ℕ, ◌*◌}
use native.Mathlib.Omega.{arith}
use Rattle.title.proofs.FreshMemoryLaws.{filled_none, filled_more}
use Rattle.title.proofs.fresh.put_tables.Goals as goal

pub loop-i-init : goal.loop-i-init
loop-i-init c = let a = c.args in filled_none a.memory.now a.from (write_table a.s.measures [])

pub loop-i-preserved : goal.loop-i-preserved
loop-i-preserved c =
    let a = c.args in
    let l = c.loop-i in
    let size = c.table_size-size.result in
    filled_more a.memory.now a.from size a.s.measures.n (write_table a.s.measures []) (table-long a.s.measures ∙ sym c.table_size-size.ensures)
    (omega (arith, ap (λ (k : ℕ). a.s.measures.n * k) c.table_size-size.ensures, c.requires)) l.i c.loop-i-test.true l.memory l.invariant _ c.put_table.ensures
