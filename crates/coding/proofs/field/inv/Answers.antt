use Rattle.std.proofs.Common.{ℕ, ◌-◌, ap, ◌∙◌, rules}
use Rattle.coding.specs.Field.{power}
use Rattle.coding.proofs.FieldLaws.{inverse_log}
use Rattle.coding.proofs.field.inv.Goals as goal

pub returns : goal.returns
returns c =
    c.power_of_two.ensures
    ∙ ap (λ (i : ℕ). power 2 (255 - i)) c.log_of.ensures.0
    ∙ inverse_log c.args.a (search rules) c.requires
