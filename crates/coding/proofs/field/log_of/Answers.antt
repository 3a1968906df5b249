use Rattle.std.proofs.Common.{refl, arith, rules}
use Rattle.coding.specs.Tables.{log_table}
use Rattle.coding.proofs.TableLaws.{log_lt}
use Rattle.coding.proofs.field.log_of.Goals as goal

pub overflow_cast-result-2 : goal.overflow_cast-result-2
unfolding log_table
overflow_cast-result-2 c = omega (arith, log_lt c.args.a (search rules))

pub returns : goal.returns
unfolding log_table
returns c = (refl, log_lt c.args.a (search rules))
