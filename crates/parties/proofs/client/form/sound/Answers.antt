use mathlib.Core.Path.{◌≡◌, sym, ap, subst, ◌∙◌}
use mathlib.Core.Bool.{Bool, cond}
use mathlib.Core.List.{List}
use mathlib.Core.Option.{Option, some, none}
use Prim.Native.Nat.{ℕ, ◌+◌, ◌-◌, ◌^◌, ◌<◌}
use native.Mathlib.Omega.{arith}
use lib.Dec.{eqb}
use lib.ListN.{take, drop}
use Rattle.coding.specs.Nodes.{all}
use Rattle.parties.specs.declared.Measures.{Measures}
use Rattle.parties.specs.protocol.Client.{read_retained, read_work, work_size}
use Rattle.parties.specs.declared.Phase.{Phase}
use Rattle.parties.specs.records.Form.{rest, Formed}
use Rattle.parties.specs.client.Record.{work_at}
use Rattle.parties.proofs.records.FormLaws.{Goes, formed_sound, formed_broken}
use Rattle.parties.proofs.client.FormLaws.{client_unkept, client-broken, client-ends, client-sound}
use Rattle.parties.proofs.client.form.sound.Goals as goal

-- what is left after the work
abbrev left : Measures → Phase → List ℕ → Option (List ℕ)
left s p t = rest (read_work s p.step (drop (work_at s) t))

pub returns-then-not-retained : goal.returns-then-not-retained
returns-then-not-retained c =
    let a = c.args in
    let r = c.retained in
    let f : a.p.reading.0 < 256 ^ 4 = omega arith in
    sym (client_unkept a.s.measures c.args.s.pass a.p f a.area.now
    (r.ensures ∙ ap (λ (b : Bool). cond b (some (drop (work_at a.s.measures) a.area.now)) none) (c.if-not-retained.true)))

pub returns-in_default : goal.returns-in_default
returns-in_default c =
    let kept : let a = c.args in rest (read_retained a.s.measures a.area.now) ≡ some (drop (work_at a.s.measures) a.area.now) =
    let a = c.args in
    let r = c.retained in
    r.ensures ∙ ap (λ (b : Bool). cond b (some (drop (work_at a.s.measures) a.area.now)) none) (c.if-not-retained.false) in
    let formed : let a = c.args in Formed a.area.now (work_at a.s.measures) (left a.s.measures a.p a.area.now) c.work_form.result =
    let a = c.args in
    subst (λ (k : ℕ). Formed a.area.now k (rest (read_work a.s.measures a.p.step (drop k a.area.now))) c.work_form.result) c.work_at-at.ensures
    c.work_form.ensures in
    let a = c.args in
    let b = c.type_inv.area in
    let f : a.p.reading.0 < 256 ^ 4 = omega arith in
    sym (client-broken a.s.measures c.args.s.pass a.p f a.area.now (λ i. (b i).fits) kept
    (formed_broken a.area.now (work_at a.s.measures) (left a.s.measures a.p a.area.now) c.work_form.result
    formed c.in_default.is))

pub zero_run-requires : goal.zero_run-requires
zero_run-requires c =
    let kept : let a = c.args in rest (read_retained a.s.measures a.area.now) ≡ some (drop (work_at a.s.measures) a.area.now) =
    let a = c.args in
    let r = c.retained in
    r.ensures ∙ ap (λ (b : Bool). cond b (some (drop (work_at a.s.measures) a.area.now)) none) (c.if-not-retained.false) in
    let formed : let a = c.args in Formed a.area.now (work_at a.s.measures) (left a.s.measures a.p a.area.now) c.work_form.result =
    let a = c.args in
    subst (λ (k : ℕ). Formed a.area.now k (rest (read_work a.s.measures a.p.step (drop k a.area.now))) c.work_form.result) c.work_at-at.ensures
    c.work_form.ensures in
    let goes : let a = c.args in Goes a.area.now (work_at a.s.measures) c.in-Some.next (left a.s.measures a.p a.area.now) =
    let a = c.args in
    formed_sound a.area.now (work_at a.s.measures) c.in-Some.next (left a.s.measures a.p a.area.now) c.work_form.result
    formed c.in-Some.is in
    let a = c.args in
    let b = c.type_inv.area in
    let f : a.p.reading.0 < 256 ^ 4 = omega arith in
    let e = client-ends a.s.measures c.args.s.pass a.p f a.area.now (λ i. (b i).fits) kept
    c.in-Some.next goes
    in
    let w = c.work_at-at.ensures in
    let z = c.work_size-size.ensures in
    (omega (arith, e, w, z), omega (arith, w, z, c.requires))

pub returns : goal.returns
returns c =
    let kept : let a = c.args in rest (read_retained a.s.measures a.area.now) ≡ some (drop (work_at a.s.measures) a.area.now) =
    let a = c.args in
    let r = c.retained in
    r.ensures ∙ ap (λ (b : Bool). cond b (some (drop (work_at a.s.measures) a.area.now)) none) (c.if-not-retained.false) in
    let formed : let a = c.args in Formed a.area.now (work_at a.s.measures) (left a.s.measures a.p a.area.now) c.work_form.result =
    let a = c.args in
    subst (λ (k : ℕ). Formed a.area.now k (rest (read_work a.s.measures a.p.step (drop k a.area.now))) c.work_form.result) c.work_at-at.ensures
    c.work_form.ensures in
    let goes : let a = c.args in Goes a.area.now (work_at a.s.measures) c.in-Some.next (left a.s.measures a.p a.area.now) =
    let a = c.args in
    formed_sound a.area.now (work_at a.s.measures) c.in-Some.next (left a.s.measures a.p a.area.now) c.work_form.result
    formed c.in-Some.is in
    let a = c.args in
    let b = c.type_inv.area in
    let f : a.p.reading.0 < 256 ^ 4 = omega arith in
    let next = c.in-Some.next in
    let w = c.work_at-at in
    let z = c.work_size-size in
    let k : w.result + z.result ≡ work_at a.s.measures + work_size a.s.measures = omega (arith, w.ensures, z.ensures) in
    c.zero_run.ensures
    ∙ ap (λ (n : ℕ). all (λ b. eqb b 0) (take (n - next) (drop next a.area.now))) k
    ∙ client-sound a.s.measures c.args.s.pass a.p f a.area.now (λ i. (b i).fits)
    kept next goes
    (omega (arith, c.requires))
