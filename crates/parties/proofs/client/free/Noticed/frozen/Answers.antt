use mathlib.Core.Path.{ap, ◌∙◌}
use Prim.Native.Nat.{ℕ, ◌+◌, ◌*◌}
use native.Mathlib.Omega.{arith}
use Rattle.parties.proofs.client.FreeListLaws.{frozen-there, frozen_bound}
use Rattle.parties.proofs.client.free.Noticed.frozen.Goals as goal

pub overflow_mul-q : goal.overflow_mul-q
overflow_mul-q c =
    let a = c.args in
    let k = a.self.now in
    let p = c.requires in
    omega (arith, frozen_bound k.s.measures k.holds.0 a.q p, ap (λ (x : ℕ). (a.q + 1) * x) c.pointer_size-size.ensures)

pub version_at-requires : goal.version_at-requires
version_at-requires c =
    let a = c.args in
    let k = a.self.now in
    let p = c.requires in
    (frozen-there k.s.measures k.area.now k.bytes k.holds a.q p _ (ap (λ (x : ℕ). (a.q + 1) * x) c.pointer_size-size.ensures)).0

pub returns : goal.returns
returns c =
    let a = c.args in
    let k = a.self.now in
    let p = c.requires in
    c.version_at.ensures ∙ (frozen-there k.s.measures k.area.now k.bytes k.holds a.q p _
    (ap (λ (x : ℕ). (a.q + 1) * x) c.pointer_size-size.ensures)).1
