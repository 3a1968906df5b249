use mathlib.Core.Path.{ap}
use Prim.Native.Nat.{ℕ, ◌*◌}
use native.Mathlib.Omega.{arith}
use Rattle.parties.specs.protocol.Measures.{row_size}
use Rattle.parties.proofs.records.SizeLaws.{below_rows, table_bound}
use Rattle.parties.proofs.client.NoticeLaws.{shown-reads, shown-fits, shown-told}
use Rattle.parties.proofs.client.notice.shown_index.Goals as goal

pub overflow_mul-q : goal.overflow_mul-q
overflow_mul-q c =
    let a = c.args in
    let p = c.requires in
    omega (arith, below_rows a.q a.s.measures.m (row_size a.s.measures) p.3, table_bound a.s.measures c.args.s.pass, ap (λ (x : ℕ). a.q * x) p.0)

pub overflow_add-q : goal.overflow_add-q
overflow_add-q c =
    let a = c.args in
    let p = c.requires in
    omega (arith, below_rows a.q a.s.measures.m (row_size a.s.measures) p.3, table_bound a.s.measures c.args.s.pass, ap (λ (x : ℕ). a.q * x) p.0)

pub past-indices-requires : goal.past-indices-requires
past-indices-requires c =
    let a = c.args in
    let p = c.requires in (
      omega (arith, below_rows a.q a.s.measures.m (row_size a.s.measures) p.3, p.1, ap (λ (x : ℕ). a.q * x) p.0),
      shown-reads a.s.measures a.size p.0 a.rows.now (λ i. (c.type_inv.rows i).fits) p.2 a.q p.3,
    )

pub u32_at-i-requires : goal.u32_at-i-requires
u32_at-i-requires c =
    let a = c.args in
    let p = c.requires in
    shown-fits a.s.measures a.size p.0 a.rows.now (λ i. (c.type_inv.rows i).fits) p.2 a.q p.3 c.past-indices.result c.past-indices.ensures.0

pub returns : goal.returns
returns c =
    let a = c.args in
    let p = c.requires in
    let f = c.past-indices in
    let e = shown-told a.s.measures a.size p.0 a.rows.now (λ i. (c.type_inv.rows i).fits) p.2 a.q p.3 f.result f.ensures.0
    c.u32_at-i.result _ c.u32_at-i.ensures
    in
    λ i. record { 0 = e i }
