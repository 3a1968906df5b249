use mathlib.Core.Path.{ap, ◌∙◌}
use Rattle.numbers.specs.Code.{code}
use Rattle.parties_export.proofs.node_fresh.Goals as goal

pub returns : goal.returns
returns c =
    let done = c.fresh_table.ensures in
    (c.service_code.ensures ∙ ap code done.0, done.1)
