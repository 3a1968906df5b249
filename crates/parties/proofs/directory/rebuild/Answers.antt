use lib.ListN.{get_or}
use Rattle.parties.proofs.directory.RebuildLaws.{room_for_written, room_for_frozen, room_for_indices, room_for_index, rebuilt}
use Rattle.parties.proofs.directory.rebuild.Goals as goal

pub put-p-requires : goal.put-p-requires
put-p-requires c =
    let a = c.args in room_for_written (get_or a.fields.now 0 0) a.fields.now a.e a.table.now a.at a.f a.room.now c.requires.1 c.requires.4

pub put-q-requires : goal.put-q-requires
put-q-requires c =
    let a = c.args in
    room_for_frozen (get_or a.fields.now 0 0) a.fields.now a.e a.table.now a.at a.f a.room.now c.requires.1 c.requires.4 _ _ c.put-p.ensures

pub put-r-requires : goal.put-r-requires
put-r-requires c =
    let a = c.args in
    room_for_indices (get_or a.fields.now 0 0) a.fields.now a.e a.table.now a.at a.f a.room.now c.requires.1 c.requires.4 _ _ c.put-p.ensures
    _ _ c.put-q.ensures

pub put-requires : goal.put-requires
put-requires c =
    let a = c.args in
    room_for_index (get_or a.fields.now 0 0) a.fields.now a.e a.table.now a.at a.f a.room.now c.requires.1 c.requires.4 _ _ c.put-p.ensures
    _ _ c.put-q.ensures _ _ c.put-r.ensures

pub returns : goal.returns
returns c =
    let a = c.args in
    rebuilt (get_or a.fields.now 0 0) a.fields.now a.e a.table.now a.at a.f a.room.now c.requires.1 c.requires.4 _ _ c.put-p.ensures
    _ _ c.put-q.ensures _ _ c.put-r.ensures _ _ c.put.ensures
