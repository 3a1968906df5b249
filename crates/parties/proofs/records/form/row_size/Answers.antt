use mathlib.Core.Path.{◌≡◌, ap}
use Prim.Native.Nat.{ℕ, ◌+◌, ◌*◌}
use native.Mathlib.Omega.{arith}
use Rattle.parties.specs.protocol.Measures.{pointer_size}
use Rattle.parties.proofs.protocol.formats.MeasureLaws.{passed}
use Rattle.parties.proofs.records.SizeLaws.{row_bound}
use Rattle.parties.proofs.records.form.row_size.Goals as goal

pub overflow_add-result : goal.overflow_add-result
overflow_add-result c = omega (arith, (passed c.args.s.measures c.args.s.pass).clients)

pub overflow_mul-result : goal.overflow_mul-result
overflow_mul-result c =
    let pointers : let s = c.args.s.measures in (s.m + 1) * c.pointer_size-size.result ≡ (s.m + 1) * pointer_size s =
    ap (λ (x : ℕ). (c.args.s.measures.m + 1) * x) c.pointer_size-size.ensures in
    omega (arith, row_bound c.args.s.measures c.args.s.pass, pointers)

pub overflow_add-result-2 : goal.overflow_add-result-2
overflow_add-result-2 c =
    let pointers : let s = c.args.s.measures in (s.m + 1) * c.pointer_size-size.result ≡ (s.m + 1) * pointer_size s =
    ap (λ (x : ℕ). (c.args.s.measures.m + 1) * x) c.pointer_size-size.ensures in
    omega (arith, row_bound c.args.s.measures c.args.s.pass, pointers)

pub overflow_mul-result-2 : goal.overflow_mul-result-2
overflow_mul-result-2 c = omega (arith, (passed c.args.s.measures c.args.s.pass).clients)

pub overflow_add-result-3 : goal.overflow_add-result-3
overflow_add-result-3 c =
    let pointers : let s = c.args.s.measures in (s.m + 1) * c.pointer_size-size.result ≡ (s.m + 1) * pointer_size s =
    ap (λ (x : ℕ). (c.args.s.measures.m + 1) * x) c.pointer_size-size.ensures in
    omega (arith, row_bound c.args.s.measures c.args.s.pass, pointers)

pub overflow_add-result-4 : goal.overflow_add-result-4
overflow_add-result-4 c =
    let pointers : let s = c.args.s.measures in (s.m + 1) * c.pointer_size-size.result ≡ (s.m + 1) * pointer_size s =
    ap (λ (x : ℕ). (c.args.s.measures.m + 1) * x) c.pointer_size-size.ensures in
    omega (arith, row_bound c.args.s.measures c.args.s.pass, pointers)
