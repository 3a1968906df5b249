use mathlib.Core.Path.{ap, ◌∙◌}
use Rattle.numbers.specs.Code.{told}
use Rattle.title_export.proofs.title_scanned.Goals as goal

pub returns : goal.returns
returns c =
    let done = c.scanned.ensures in
    (c.numbers_of.ensures ∙ ap told done.0, done.1, done.2)
