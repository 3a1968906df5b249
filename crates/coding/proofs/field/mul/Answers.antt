use Rattle.std.proofs.Common.{ℕ, ◌+◌, sym, ap, ◌∙◌, ap₂, rules}
use Rattle.coding.specs.Field.{product, power}
use Rattle.coding.proofs.FieldLaws.{zero_product, product_zero, product_logs}
use Rattle.coding.proofs.field.mul.Goals as goal
use Rattle.coding.proofs.field.mul.Goals.{then-a-eq0-via-then-a-eq0, then-a-eq0-via-else-a-eq0+then-b-eq0}

pub returns-then-a-eq0 : goal.returns-then-a-eq0
returns-then-a-eq0 c =
    let a = c.args.a in
    let b = c.args.b in
    elim c.then-a-eq0.branch [
      | then-a-eq0-via-then-a-eq0 w ↦ sym (ap (λ (x : ℕ). product x b) w.if-a-eq0.true ∙ zero_product b)
      | then-a-eq0-via-else-a-eq0+then-b-eq0 w ↦ sym (ap (product a) w.if-b-eq0.true ∙ product_zero a)
    ]

pub returns : goal.returns
returns c =
    c.power_of_two.ensures
    ∙ ap₂ (λ (i j : ℕ). power 2 (i + j)) c.log_of.ensures.0 c.log_of-2.ensures.0
    ∙ product_logs c.args.a c.args.b
    (search rules)
    (search rules)
    c.if-a-eq0.false
    c.if-b-eq0.false
