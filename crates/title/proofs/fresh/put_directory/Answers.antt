use Rattle.title.proofs.FreshMemoryLaws.{directory_put}
use Rattle.title.proofs.fresh.put_directory.Goals as goal

pub returns : goal.returns
returns c =
    let a = c.args in
    let p = c.requires in directory_put a.s.measures a.s.pass a.memory.now a.at a.to p.1 p.0 _ c.fresh_directory.ensures.1
