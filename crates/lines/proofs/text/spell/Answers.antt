use Rattle.std.proofs.Common.{sym, arith}
use Rattle.lines.proofs.TextLaws.{hex-none, hex-more, hex-all}
use Rattle.lines.proofs.text.spell.Goals as goal

pub loop-i-init : goal.loop-i-init
loop-i-init c = sym (hex-none _ _)

pub loop-i-preserved : goal.loop-i-preserved
loop-i-preserved c = hex-more _ _ _ _ _ _ _ c.requires (omega arith) c.loop-i.invariant c.digit.ensures c.digit-in-loop-i.ensures

pub returns : goal.returns
returns c = hex-all _ _ _ c.loop-i.i _ (omega arith) c.loop-i.invariant
