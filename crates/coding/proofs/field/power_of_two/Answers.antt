use Rattle.std.proofs.Common.{◌%◌, ◌∙◌, rules}
use Rattle.coding.specs.Tables.{exp_table}
use Rattle.coding.proofs.FieldLaws.{power_mod}
use Rattle.coding.proofs.TableLaws.{exp_rule}
use Rattle.coding.proofs.field.power_of_two.Goals as goal

pub returns : goal.returns
unfolding exp_table
returns c = exp_rule (c.args.i % 255) (search rules) ∙ power_mod c.args.i
