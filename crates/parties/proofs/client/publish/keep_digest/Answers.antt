use mathlib.Core.Path.{◌≡◌, sym, ap, ◌∙◌}
use mathlib.Core.Bool.{Bool, true, cond}
use Prim.Native.Nat.{◌+◌}
use lib.ListN.{take, drop}
use Rattle.parties.specs.protocol.Nodes.{stands}
use Rattle.parties.specs.records.Places.{splice}
use Rattle.parties.proofs.records.SpliceLaws.{lowered}
use Rattle.parties.proofs.client.publish.keep_digest.Goals as goal

pub returns : goal.returns
returns c =
    let a = c.args in
    let q = c.requires in
    let e : stands a.map (a.i + 1) ≡ true = sym c.stands.ensures ∙ c.if-not-stands.false in (
      simp e,
      c.move_down.ensures ∙ lowered a.area.now a.from a.to 32 q.1 q.2
          ∙ ap (λ (b : Bool). cond b (splice a.area.now a.to (take 32 (drop a.from a.area.now))) a.area.now) (sym e),
    )
