use mathlib.Core.Path.{◌≡◌, sym, ap, ◌∙◌}
use mathlib.Core.Bool.{Bool, cond}
use mathlib.Core.Option.{some, none}
use Prim.Native.Nat.{ℕ, ◌+◌, ◌-◌, ◌*◌}
use native.Mathlib.Omega.{arith}
use lib.ListN.{drop}
use Rattle.coding.proofs.BytesLaws.{stride}
use Rattle.parties.specs.protocol.Format.{read_many}
use Rattle.parties.specs.protocol.Measures.{pointer_size}
use Rattle.parties.specs.protocol.Client.{pointer_area}
use Rattle.parties.specs.records.Form.{rest}
use Rattle.parties.proofs.records.SizeLaws.{below_rows}
use Rattle.parties.proofs.records.FormLaws.{many_turn, many-broken, many_end}
use Rattle.parties.proofs.client.form.pointer_areas.Goals as goal

pub pointer_area-requires : goal.pointer_area-requires
pointer_area-requires c =
    let a = c.args in
    let l = c.loop-i in
    let e = ap (λ (k : ℕ). l.i * k) c.requires.0 in
    (c.requires.0, omega (arith, e, below_rows l.i (a.s.measures.m + 1) (pointer_size a.s.measures) c.loop-i-test.true, c.requires.1))

pub returns-then-not-pointer_area : goal.returns-then-not-pointer_area
returns-then-not-pointer_area c =
    let a = c.args in
    let l = c.loop-i in
    let at = l.i * pointer_size a.s.measures in
    let r = rw c.requires.0 at c.pointer_area.ensures in
    l.invariant
    ∙ many-broken (pointer_area a.s.measures) (a.s.measures.m + 1) l.i (drop at a.t.now) c.loop-i-test.true
    (r ∙ ap (λ (x : Bool). cond x (some (drop (at + pointer_size a.s.measures) a.t.now)) none) c.if-not-pointer_area.true)

pub loop-i-preserved : goal.loop-i-preserved
loop-i-preserved c =
    let a = c.args in
    let l = c.loop-i in
    let at = l.i * pointer_size a.s.measures in
    let r = rw c.requires.0 at c.pointer_area.ensures in
    l.invariant
    ∙ many_turn (pointer_area a.s.measures) (a.s.measures.m + 1) l.i (drop at a.t.now) c.loop-i-test.true (drop (at + pointer_size a.s.measures) a.t.now)
    (r ∙ ap (λ (x : Bool). cond x (some (drop (at + pointer_size a.s.measures) a.t.now)) none) c.if-not-pointer_area.false)
    ∙ ap (λ (k : ℕ). rest (read_many (pointer_area a.s.measures) (a.s.measures.m + 1 - (l.i + 1)) (drop k a.t.now))) (sym (stride l.i (pointer_size a.s.measures)))

pub returns : goal.returns
returns c =
    let a = c.args in
    let l = c.loop-i in
    let at = l.i * pointer_size a.s.measures in
    let n : l.i ≡ a.s.measures.m + 1 = omega arith in
    l.invariant ∙ many_end (pointer_area a.s.measures) (a.s.measures.m + 1) l.i (drop at a.t.now) c.loop-i-test.false
    ∙ ap (λ (k : ℕ). some (drop (k * pointer_size a.s.measures) a.t.now)) n
