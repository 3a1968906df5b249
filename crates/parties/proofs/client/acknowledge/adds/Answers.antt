use mathlib.Core.Path.{sym, ap, ◌∙◌}
use mathlib.Core.Bool.{true, not}
use Prim.Native.Nat.{ℕ, ◌+◌}
use native.Mathlib.Omega.{arith}
use Rattle.parties.specs.protocol.Nodes.{stands}
use Rattle.parties.specs.records.Places.{number_at}
use Rattle.parties.proofs.records.PlaceLaws.{number-told}
use Rattle.parties.proofs.client.AcknowledgeLaws.{adds_by}
use Rattle.parties.proofs.client.acknowledge.adds.Goals as goal

pub returns : goal.returns
returns c =
    let a = c.args in
    let p = c.requires in
    let w = c.version_at-w in
    let e = c.same_version in
    let n = number-told a.area.now (a.at + 5) c.u16_at.result _ (omega (arith, p.2)) c.u16_at.ensures in
    ap not (c.stands.ensures ∙ ap (λ (m : ℕ). stands m a.i) n)
    ∙ adds_by a.v w.result _ (not (stands (number_at a.area.now (a.at + 5)) a.i)) true w.ensures
    (sym e.ensures ∙ c.if-not-same_version.false)
