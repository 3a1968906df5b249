use mathlib.Core.Path.{ap, ◌∙◌}
use Rattle.numbers.specs.Code.{code}
use Rattle.parties_export.proofs.directory_update.Goals as goal

pub returns : goal.returns
returns c =
    let done = c.update.ensures in
    (c.service_code.ensures ∙ ap code done.0, done.1)
