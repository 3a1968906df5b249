use mathlib.Core.Path.{◌∙◌}
use Rattle.parties.proofs.client.DrawLaws.{front_put}
use Rattle.parties.proofs.client.draw.put_front.Goals as goal

pub returns : goal.returns
returns c = c.put_version.ensures ∙ front_put c.args.v c.args.room.now c.requires
