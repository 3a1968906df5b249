use Rattle.parties.proofs.client.FreeListLaws.{put_in_laid}
use Rattle.parties.proofs.client.free.put_in.Goals as goal

pub returns : goal.returns
returns c =
    let a = c.args in
    let p = c.requires in
    put_in_laid a.room.now a.j a.count a.v p.0 p.1 _ _ c.move_up.ensures c.put_version.ensures
