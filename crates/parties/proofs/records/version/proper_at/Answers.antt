use mathlib.Core.Path.{◌∙◌}
use Rattle.parties.proofs.records.PlaceLaws.{proper-told}
use Rattle.parties.proofs.records.version.proper_at.Goals as goal

pub returns : goal.returns
returns c =
    let a = c.args in
    c.proper.ensures ∙ proper-told a.s a.b.now a.at c.version_at.result c.version_at.ensures
