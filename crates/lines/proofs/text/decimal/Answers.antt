use Rattle.std.proofs.Common.{◌∙◌}
use Rattle.lines.proofs.TextLaws.{decimal_put}
use Rattle.lines.proofs.text.decimal.Goals as goal

pub returns : goal.returns
returns c = decimal_put _ _ _ _ _ _ c.ranges.x.fits (c.as_bytes.ensures.value ∙ c.format.ensures.text) c.bytes.ensures
