use Rattle.std.proofs.Common.{sym, ap, ℕ, leb}
use borrow.Author.Tests.{eqb-true, eqb-false}
use Rattle.lines.proofs.SentencesLaws.{shown-short, half-fits}
use Rattle.lines.proofs.text.show_fits.Goals as goal

pub returns-then-is_empty : goal.returns-then-is_empty
returns-then-is_empty c =
    let a = c.args in
    sym (ap (λ (n : ℕ). leb n a.room) (shown-short a.b.now (eqb-true _ _ (sym c.if-is_empty.ensures))))

pub returns : goal.returns
returns c =
    let a = c.args in half-fits a.b.now a.room (eqb-false _ _ (sym c.if-is_empty.ensures))
