use mathlib.Core.Path.{ap, ◌∙◌}
use Rattle.numbers.specs.Code.{told}
use Rattle.parties_export.proofs.client_deposit.Goals as goal

pub returns : goal.returns
returns c =
    let done = c.deposit.ensures in
    (c.numbers_of.ensures ∙ ap told done.0, done.1)
