use mathlib.Core.Path.{◌≡◌, sym, ◌∙◌}
use mathlib.Core.Bool.{true, false}
use Prim.Native.Nat.{◌^◌}
use native.Mathlib.Omega.{arith}
use lib.Dec.{ltb}
use Rattle.parties.specs.protocol.Message.{proper_version}
use Rattle.parties.proofs.client.FormLaws.{sizes}
use Rattle.parties.proofs.client.form.proper_stores.Goals as goal

pub returns-then-not-proper : goal.returns-then-not-proper
returns-then-not-proper c =
    let a = c.args in
    let p = c.proper in
    let q : proper_version a.s.measures a.v ≡ false = sym p.ensures ∙ c.if-not-proper.true in
    simp q

pub within-requires : goal.within-requires
within-requires c = (sizes c.args.s.measures c.args.s.pass).nodes

pub returns-then-not-within : goal.returns-then-not-within
returns-then-not-within c =
    let proper : proper_version c.args.s.measures c.args.v ≡ true =
    let p = c.proper in sym p.ensures ∙ c.if-not-proper.false in
    let a = c.args in
    let v = c.within in
    let w : ltb a.map (2 ^ a.s.measures.n) ≡ false = sym v.ensures ∙ c.if-not-within.true in
    simp (proper, w)

pub overflow_add-result : goal.overflow_add-result
overflow_add-result c = omega (arith, (sizes c.args.s.measures c.args.s.pass).named)

pub returns : goal.returns
returns c =
    let proper : proper_version c.args.s.measures c.args.v ≡ true =
    let p = c.proper in sym p.ensures ∙ c.if-not-proper.false in
    let a = c.args in
    let v = c.within in
    let w : ltb a.map (2 ^ a.s.measures.n) ≡ true = sym v.ensures ∙ c.if-not-within.false in
    simp (proper, w, c.count.ensures)
