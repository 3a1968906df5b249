use Rattle.parties.proofs.client.FreeListLaws.{started}
use Rattle.parties.proofs.client.free.Noticed.start_list.Goals as goal

pub returns : goal.returns
returns c =
    let a = c.args in
    let k = a.self.now in
    let p = c.requires in
    let w = c.written-written in
    let f = c.free_version in
    started k.s.measures k.area.now k.bytes k.holds k.map k.new a.room.now p f.result f.new.room w.result w.ensures
    f.ensures.0
