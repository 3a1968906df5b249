use Rattle.std.proofs.Common.{arith}
use Rattle.lines.proofs.TextLaws.{hex_put}
use Rattle.lines.proofs.text.hex.Goals as goal

pub returns : goal.returns
returns c = hex_put _ _ _ _ (omega arith) c.spell.ensures
