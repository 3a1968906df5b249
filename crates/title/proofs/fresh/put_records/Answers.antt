use mathlib.Core.Path.{sym, ap, ◌∙◌}
use Rattle.parties.specs.protocol.Client.{write_client, fresh_client}
use Rattle.parties.proofs.protocol.events.FreshTableLaws.{client-long}
use Prim.Native.Nat.{ℕ, ◌*◌}
use native.Mathlib.Omega.{arith}
use Rattle.title.proofs.FreshMemoryLaws.{filled_none, filled_more}
use Rattle.title.proofs.fresh.put_records.Goals as goal

pub loop-c-init : goal.loop-c-init
loop-c-init c = let a = c.args in filled_none a.memory.now a.from (write_client a.s.measures (fresh_client a.s.measures))

pub loop-c-preserved : goal.loop-c-preserved
loop-c-preserved c =
    let a = c.args in
    let l = c.loop-c in
    let size = c.record_size-size.result in
    filled_more a.memory.now a.from size a.s.measures.m (write_client a.s.measures (fresh_client a.s.measures)) (client-long a.s.measures a.s.pass ∙ sym c.record_size-size.ensures)
    (omega (arith, ap (λ (k : ℕ). a.s.measures.m * k) c.record_size-size.ensures, c.requires)) l.c c.loop-c-test.true l.memory l.invariant _ c.put_record.ensures
