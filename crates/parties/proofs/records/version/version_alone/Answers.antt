use mathlib.Core.Path.{◌∙◌}
use borrow.Author.Tests.{ne_eqb}
use lib.ListN.{length}
use Rattle.parties.proofs.records.PlaceLaws.{alone-length, alone-version}
use Rattle.parties.proofs.records.version.version_alone.Goals as goal

pub returns-then-b-eq6 : goal.returns-then-b-eq6
returns-then-b-eq6 c = let a = c.args in c.proper_at.ensures ∙ alone-version a.s a.b.now c.if-b-eq6.true

pub returns-else-b-eq6 : goal.returns-else-b-eq6
returns-else-b-eq6 c = let a = c.args in ne_eqb (length a.b.now) 6 c.if-b-eq6.false ∙ alone-length a.s a.b.now c.if-b-eq6.false
