use Rattle.parties.proofs.records.PlaceLaws.{version-told}
use Rattle.parties.proofs.records.version.version_at.Goals as goal

pub returns : goal.returns
returns c =
    let a = c.args in
    version-told a.t.now a.at c.u32_at.result _ c.requires c.u32_at.ensures
