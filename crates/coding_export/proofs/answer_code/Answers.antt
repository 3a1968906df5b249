use Rattle.std.proofs.Common.{ℕ, Result, sym, ap, ◌∙◌}
use Rattle.coding.specs.declared.answer.Refusal.{Refusal}
use Rattle.coding.specs.Answer.{outcome}
use Rattle.coding_export.specs.Code.{code}
use Rattle.coding_export.proofs.answer_code.Goals as goal

abbrev answered : Result ℕ Refusal → ℕ
answered a = code (outcome a)

pub returns-in-Err : goal.returns-in-Err
returns-in-Err c = c.refused.ensures ∙ sym (ap answered c.in-Err.is)
