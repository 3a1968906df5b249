use mathlib.Core.Path.{◌≡◌, ap, ◌∙◌}
use mathlib.Core.Bool.{Bool, cond}
use mathlib.Core.Option.{some, none}
use Prim.Native.Nat.{ℕ, ◌+◌, ◌-◌, ◌*◌}
use native.Mathlib.Omega.{arith}
use lib.ListN.{drop}
use Rattle.parties.specs.protocol.Format.{read_many}
use Rattle.parties.specs.protocol.Client.{read_reserved}
use Rattle.parties.specs.records.Form.{rest}
use Rattle.parties.proofs.records.FormLaws.{many_turn, many-broken, many_end}
use Rattle.parties.proofs.client.form.reserved_versions.Goals as goal

pub returns-then-not-reserved_version : goal.returns-then-not-reserved_version
returns-then-not-reserved_version c =
    let a = c.args in
    let l = c.loop-i in
    let at = a.from + l.i * 5 in
    l.invariant
    ∙ many-broken (read_reserved a.s) a.s.m l.i (drop at a.t.now) c.loop-i-test.true
    (c.reserved_version.ensures ∙ ap (λ (x : Bool). cond x (some (drop (at + 5) a.t.now)) none) c.if-not-reserved_version.true)

pub loop-i-preserved : goal.loop-i-preserved
loop-i-preserved c =
    let a = c.args in
    let l = c.loop-i in
    let at = a.from + l.i * 5 in
    let e : at + 5 ≡ a.from + (l.i + 1) * 5 = omega arith in
    l.invariant
    ∙ many_turn (read_reserved a.s) a.s.m l.i (drop at a.t.now) c.loop-i-test.true (drop (at + 5) a.t.now)
    (c.reserved_version.ensures ∙ ap (λ (x : Bool). cond x (some (drop (at + 5) a.t.now)) none) c.if-not-reserved_version.false)
    ∙ ap (λ (k : ℕ). rest (read_many (read_reserved a.s) (a.s.m - (l.i + 1)) (drop k a.t.now))) e

pub returns : goal.returns
returns c =
    let a = c.args in
    let l = c.loop-i in
    let at = a.from + l.i * 5 in
    let n : l.i ≡ a.s.m = omega arith in
    l.invariant ∙ many_end (read_reserved a.s) a.s.m l.i (drop at a.t.now) c.loop-i-test.false
    ∙ ap (λ (k : ℕ). some (drop (a.from + k * 5) a.t.now)) n
