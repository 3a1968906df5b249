use mathlib.Core.Path.{◌∙◌}
use lib.ListN.{length-set}
use Rattle.parties.proofs.records.SpliceLaws.{tagged}
use Rattle.parties.proofs.client.ChooseLaws.{request-laid}
use Rattle.parties.proofs.client.choose.put_request.Goals as goal

pub shape_of-room : goal.shape_of-room
shape_of-room c =
    let a = c.args in
    c.copy.auto.dst ∙ length-set a.room.now 0 2

pub returns : goal.returns
returns c =
    let a = c.args in
    let q = c.requires in
    c.copy.ensures ∙ tagged a.room.now 2 a.p.now 0 5 q.0 q.1
    ∙ request-laid a.room.now a.p.now (λ i. (c.type_inv.p i).fits) q.1
