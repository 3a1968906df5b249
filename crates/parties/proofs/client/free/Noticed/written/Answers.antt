use mathlib.Core.Path.{◌∙◌}
use Rattle.parties.proofs.client.FreeListLaws.{written-there}
use Rattle.parties.proofs.client.free.Noticed.written.Goals as goal

pub returns : goal.returns
returns c = let k = c.args.self.now in c.version_at.ensures ∙ (written-there k.s.measures k.area.now k.bytes k.holds).1
