use mathlib.Core.Path.{ap, ◌∙◌}
use Prim.Native.Nat.{ℕ, ◌+◌, ◌*◌}
use native.Mathlib.Omega.{arith}
use Rattle.parties.proofs.client.FormLaws.{sizes}
use Rattle.parties.proofs.client.FreeListLaws.{reserved-there}
use Rattle.parties.proofs.client.free.Noticed.reserved.Goals as goal

pub overflow_mul-self : goal.overflow_mul-self
overflow_mul-self c =
    let a = c.args in
    let k = a.self.now in
    let p = c.requires in
    let z = sizes k.s.measures k.holds.0 in
    omega (arith, z.clients, z.pointers, p, ap (λ (x : ℕ). (k.s.measures.m + 1) * x) c.pointer_size-size.ensures)

pub overflow_add-self-2 : goal.overflow_add-self-2
overflow_add-self-2 c =
    let a = c.args in
    let k = a.self.now in
    let p = c.requires in
    let z = sizes k.s.measures k.holds.0 in
    omega (arith, z.clients, z.pointers, p, ap (λ (x : ℕ). (k.s.measures.m + 1) * x) c.pointer_size-size.ensures)

pub version_at-requires : goal.version_at-requires
version_at-requires c =
    let a = c.args in
    let k = a.self.now in
    let p = c.requires in
    (reserved-there k.s.measures k.area.now k.bytes k.holds a.q p _
    (ap (λ (x : ℕ). (k.s.measures.m + 1) * x + 5 * a.q) c.pointer_size-size.ensures)).0

pub returns : goal.returns
returns c =
    let a = c.args in
    let k = a.self.now in
    let p = c.requires in
    c.version_at.ensures ∙ (reserved-there k.s.measures k.area.now k.bytes k.holds a.q p _
    (ap (λ (x : ℕ). (k.s.measures.m + 1) * x + 5 * a.q) c.pointer_size-size.ensures)).1
