use mathlib.Core.Path.{ap}
use Prim.Native.Nat.{ℕ, ◌+◌, ◌*◌}
use native.Mathlib.Omega.{arith}
use Rattle.parties.proofs.client.FormLaws.{sizes}
use Rattle.parties.proofs.client.NoticeLaws.{kept-told}
use Rattle.parties.proofs.client.notice.kept_index.Goals as goal

pub overflow_mul-s : goal.overflow_mul-s
overflow_mul-s c =
    let a = c.args in
    let z = sizes a.s.measures c.args.s.pass in
    omega (arith, z.clients, z.pointers, c.requires.2, ap (λ (x : ℕ). (a.s.measures.m + 1) * x) c.pointer_size-size.ensures)

pub overflow_add-s-2 : goal.overflow_add-s-2
overflow_add-s-2 c =
    let a = c.args in
    let z = sizes a.s.measures c.args.s.pass in
    omega (arith, z.clients, z.pointers, c.requires.2, ap (λ (x : ℕ). (a.s.measures.m + 1) * x) c.pointer_size-size.ensures)

pub overflow_add-s-3 : goal.overflow_add-s-3
overflow_add-s-3 c =
    let a = c.args in
    let z = sizes a.s.measures c.args.s.pass in
    omega (arith, z.clients, z.pointers, c.requires.2, ap (λ (x : ℕ). (a.s.measures.m + 1) * x) c.pointer_size-size.ensures)

pub u32_at-i-requires : goal.u32_at-i-requires
u32_at-i-requires c =
    let a = c.args in
    let p = c.requires in
    omega (arith, p.1, p.2, ap (λ (x : ℕ). (a.s.measures.m + 1) * x) c.pointer_size-size.ensures)

pub returns : goal.returns
returns c =
    let a = c.args in
    let p = c.requires in
    let e = kept-told a.s.measures a.area.now (λ i. (c.type_inv.area i).fits) p.0 a.q p.2 _
    (ap (λ (x : ℕ). (a.s.measures.m + 1) * x + 5 * a.s.measures.m + 4 * a.q) c.pointer_size-size.ensures) c.u32_at-i.result _ c.u32_at-i.ensures
    in
    λ i. record { 0 = e i }
