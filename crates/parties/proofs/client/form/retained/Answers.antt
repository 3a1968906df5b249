use mathlib.Core.Path.{◌≡◌, ap, subst, ◌∙◌}
use mathlib.Core.Bool.{Bool, cond}
use mathlib.Core.Option.{some, none}
use Prim.Native.Nat.{ℕ, ◌+◌, ◌*◌}
use native.Mathlib.Omega.{arith}
use lib.ListN.{drop}
use Rattle.parties.specs.protocol.Measures.{pointer_size}
use Rattle.parties.specs.protocol.Format.{read_many}
use Rattle.parties.specs.protocol.Client.{read_reserved}
use Rattle.parties.specs.records.Form.{rest}
use Rattle.parties.proofs.client.FormLaws.{sizes, retained-broken, retained_left}
use Rattle.parties.proofs.client.form.retained.Goals as goal

pub returns-then-not-pointer_areas : goal.returns-then-not-pointer_areas
returns-then-not-pointer_areas c =
    let a = c.args in
    let p = c.pointer_areas in
    retained-broken a.s.measures a.t.now c.requires
    (p.ensures
    ∙ ap (λ (b : Bool). cond b (some (drop ((a.s.measures.m + 1) * pointer_size a.s.measures) a.t.now)) none) (c.if-not-pointer_areas.true))

pub overflow_mul-s : goal.overflow_mul-s
overflow_mul-s c =
    let z = sizes c.args.s.measures c.args.s.pass in
    omega (arith, z.pointers, ap (λ (x : ℕ). (c.args.s.measures.m + 1) * x) c.pointer_size-size.ensures)

pub returns : goal.returns
returns c =
    let a = c.args in
    let p = c.pointer_areas in
    let t = a.t.now in
    let v = c.reserved_versions in
    let size = c.pointer_size-size in
    let k : (a.s.measures.m + 1) * size.result ≡ (a.s.measures.m + 1) * pointer_size a.s.measures = ap (λ (x : ℕ). (a.s.measures.m + 1) * x) size.ensures in
    retained_left a.s.measures t c.requires
    (p.ensures ∙ ap (λ (b : Bool). cond b (some (drop ((a.s.measures.m + 1) * pointer_size a.s.measures) t)) none) (c.if-not-pointer_areas.false))
    v.result
    (subst (λ (x : ℕ). rest (read_many (read_reserved a.s.measures) a.s.measures.m (drop x t)) ≡ cond v.result (some (drop (x + a.s.measures.m * 5) t)) none) k
    v.ensures)
