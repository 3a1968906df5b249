use mathlib.Core.Path.{refl, ◌∙◌}
use lib.ListN.{length, take}
use native.Mathlib.Omega.{arith}
use lib.Seq.{length-take-le}
use Rattle.runs.specs.Parcels.{kind_of}
use Rattle.runs.proofs.SendLaws.{smaller}
use Rattle.runs.proofs.EventLaws.{appendable, serves-refused, serves-served}
use Rattle.runs.proofs.event.serves.Goals as goal

pub append-to-requires : goal.append-to-requires
append-to-requires c =
    let a = c.args in
    let room = a.room.now in
    let n = c.min-part.result in
    let e = smaller c.in-Ok.len (length room) n c.min-part.ensures in
    let l = length-take-le n room (omega arith) in
    appendable a.s a.a _ a.front.now (take n room) room n a.post.now a.used a.place.start a.place.end _ _ c.requires c.in-Ok.is l e c.remove-left.ensures

pub returns-in_default : goal.returns-in_default
returns-in_default c =
    let a = c.args in
    (refl, serves-refused (kind_of a.key.kind) a.key.client a.key.node a.front.now a.room.now a.post.now a.used a.place.start a.place.end a.a _ c.in_default.is)

pub returns : goal.returns
returns c =
    let a = c.args in
    let r = c.remove-left in
    let p = c.append-to in
    let e = smaller c.in-Ok.len (length a.room.now) c.min-part.result c.min-part.ensures in (
      p.ensures.long ∙ r.ensures.long,
      serves-served (kind_of a.key.kind) a.key.client a.key.node a.front.now a.room.now a.post.now a.used a.place.start a.place.end p.new.post a.a c.in-Ok.len c.in-Ok.is c.min-part.result r.result p.result r.new.post e r.ensures p.ensures,
    )
