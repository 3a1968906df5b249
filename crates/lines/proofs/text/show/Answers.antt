use Rattle.std.proofs.Common.{sym}
use borrow.Author.Tests.{eqb-true, eqb-false}
use Rattle.lines.proofs.SentencesLaws.{show_none, show_some}
use Rattle.lines.proofs.text.show.Goals as goal

pub returns-then-is_empty : goal.returns-then-is_empty
returns-then-is_empty c = show_none _ _ _ _ _ (eqb-true _ _ (sym c.if-is_empty.ensures)) c.bytes.ensures

pub returns : goal.returns
returns c = show_some _ _ _ _ _ (eqb-false _ _ (sym c.if-is_empty.ensures)) c.hex.ensures
