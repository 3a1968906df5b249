use Rattle.runs.proofs.PostLaws.{parcel_put}
use Rattle.runs.proofs.parcels.append.Goals as goal

pub returns : goal.returns
returns c =
    let h = c.put_heading.ensures in
    parcel_put _ _ _ _ _ c.args.front.now c.args.rest.now c.requires.0 _ h.0 h.1 _ c.put.ensures _ c.put-2.ensures
