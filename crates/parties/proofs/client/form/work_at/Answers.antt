use native.Mathlib.Omega.{arith}
use Prim.Native.Nat.{ℕ, ◌+◌, ◌*◌}
use mathlib.Core.Path.{ap}
use Rattle.parties.proofs.client.FormLaws.{sizes}
use Rattle.parties.proofs.client.form.work_at.Goals as goal

pub overflow_add-result : goal.overflow_add-result
overflow_add-result c = let z = sizes c.args.s.measures c.args.s.pass in omega (arith, z.clients)

pub overflow_mul-result : goal.overflow_mul-result
overflow_mul-result c =
    let z = sizes c.args.s.measures c.args.s.pass in
    omega (arith, z.clients, z.pointers, ap (λ (x : ℕ). (c.args.s.measures.m + 1) * x) c.pointer_size-size.ensures)

pub overflow_mul-result-2 : goal.overflow_mul-result-2
overflow_mul-result-2 c = let z = sizes c.args.s.measures c.args.s.pass in omega (arith, z.clients)

pub overflow_add-result-2 : goal.overflow_add-result-2
overflow_add-result-2 c =
    let z = sizes c.args.s.measures c.args.s.pass in
    omega (arith, z.clients, z.pointers, ap (λ (x : ℕ). (c.args.s.measures.m + 1) * x) c.pointer_size-size.ensures)

pub returns : goal.returns
returns c = omega (arith, ap (λ (x : ℕ). (c.args.s.measures.m + 1) * x) c.pointer_size-size.ensures)
