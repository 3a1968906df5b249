use mathlib.Core.Path.{◌∙◌}
use Rattle.parties.proofs.client.DrawLaws.{split-gives, split-room}
use Rattle.parties.proofs.client.draw.put_pieces.Goals as goal

pub returns : goal.returns
returns c =
    let a = c.args in
    let q = c.requires in
    let y = c.split-len.ensures in (
      c.unwrap_or.ensures ∙ split-gives a.s.measures c.args.s.pass a.v a.page.now a.room.now q.0 q.1 _ y.0,
      c.put_front.ensures ∙ split-room a.s.measures c.args.s.pass a.v a.page.now a.room.now q.0 q.1 _ y.1,
    )
