use mathlib.Core.Path.{ap, ◌∙◌}
use Rattle.numbers.specs.Code.{told}
use Rattle.parties_export.proofs.client_receive.Goals as goal

pub returns : goal.returns
returns c =
    let done = c.receive.ensures in
    (c.numbers_of.ensures ∙ ap told done.0, done.1, done.2, done.3)
