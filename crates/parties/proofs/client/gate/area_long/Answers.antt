use mathlib.Core.Path.{sym, ap, ◌∙◌}
use mathlib.Core.Bool.{Bool, ◌&&◌}
use Prim.Native.Nat.{ℕ}
use lib.Dec.{leb}
use Rattle.parties.specs.client.Record.{area_size}
use Rattle.parties.proofs.client.gate.area_long.Goals as goal

pub returns-then-not-pass : goal.returns-then-not-pass
returns-then-not-pass c =
    let a = c.args in
    sym (ap (λ (b : Bool). b && leb (area_size a.s) a.area) (sym c.pass.ensures ∙ c.if-not-pass.true))

pub returns : goal.returns
returns c =
    let a = c.args in
    ap (λ (n : ℕ). leb n a.area) c.area_size-size.ensures
    ∙ sym (ap (λ (b : Bool). b && leb (area_size a.s) a.area) (sym c.pass.ensures ∙ c.if-not-pass.false))
