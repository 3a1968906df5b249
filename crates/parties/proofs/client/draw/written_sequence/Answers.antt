use mathlib.Core.Path.{sym, ap, ◌∙◌}
use Prim.Native.Nat.{ℕ, ◌+◌, ◌*◌}
use native.Mathlib.Omega.{arith}
use lib.ListN.{drop}
use Rattle.parties.specs.protocol.Measures.{row_size}
use Rattle.parties.specs.protocol.Format.{read_number}
use Rattle.parties.proofs.records.SizeLaws.{below_rows, table_bound}
use Rattle.parties.proofs.client.DrawLaws.{rows_fit, row_sequence}
use Rattle.parties.proofs.client.draw.written_sequence.Goals as goal

pub overflow_mul-i : goal.overflow_mul-i
overflow_mul-i c =
    let a = c.args in
    let p = c.requires in
    omega (arith, below_rows a.i a.s.measures.m (row_size a.s.measures) p.2, table_bound a.s.measures c.args.s.pass, ap (λ (x : ℕ). a.i * x) p.0)

pub overflow_add-i : goal.overflow_add-i
overflow_add-i c =
    let a = c.args in
    let p = c.requires in
    omega (arith, below_rows a.i a.s.measures.m (row_size a.s.measures) p.2, table_bound a.s.measures c.args.s.pass, ap (λ (x : ℕ). a.i * x) p.0)

pub u32_at-requires : goal.u32_at-requires
u32_at-requires c =
    let a = c.args in
    let p = c.requires in
    omega (arith, below_rows a.i a.s.measures.m (row_size a.s.measures) p.2, ap (λ (x : ℕ). a.i * x) p.0, rows_fit a.s.measures a.rows.now (λ i. (c.type_inv.rows i).fits) p.1)

pub returns : goal.returns
returns c =
    let a = c.args in
    let p = c.requires in
    let e =
    row_sequence a.s.measures a.rows.now (λ i. (c.type_inv.rows i).fits) p.1 a.i p.2 c.u32_at.result _
    (ap (λ (x : ℕ). read_number 4 (drop (a.i * x + 1) a.rows.now)) (sym p.0) ∙ c.u32_at.ensures)
    in
    λ j. record { 0 = e j }
