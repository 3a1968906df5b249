use mathlib.Core.Path.{ap, ◌∙◌}
use Prim.Native.Nat.{ℕ}
use native.Mathlib.Omega.{arith}
use Rattle.parties.specs.protocol.Directory.{write_directory, fresh_directory}
use Rattle.parties.specs.records.Places.{splice}
use Rattle.parties.specs.records.Answer.{number}
use Rattle.title.proofs.MemoryLaws.{handed}
use Rattle.title.proofs.FreshMemoryLaws.{fresh-refused, fresh-written}
use Rattle.title.proofs.fresh.fresh.Goals as goal

pub returns-in_err-directory : goal.returns-in_err-directory
returns-in_err-directory c =
    let a = c.args in
    let r = c.in_err-directory.field-0.0 in
    rw (handed r _ c.from_residual.ensures.1) (fresh-refused a.s a.memory.now (number r) c.in_err-directory.ensures)

pub returns : goal.returns
returns c =
    let a = c.args in
    let z = c.in_ok-directory.ensures in
    fresh-written a.s a.memory.now z.measures z.long _ _ (omega (arith, z.last)) c.records_at.ensures _ _ _
    (c.put_directory.ensures ∙ ap (λ (i : ℕ). splice a.memory.now i (write_directory a.s (fresh_directory a.s))) z.first)
    c.put_tables.ensures c.put_records.ensures
