use Rattle.runs.proofs.PostLaws.{removed_all}
use Rattle.runs.proofs.parcels.remove.Goals as goal

pub returns : goal.returns
returns c =
    let p = c.requires in removed_all _ _ _ _ p.0 p.1 p.2 _ c.copy_within.ensures.after
