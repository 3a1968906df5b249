use Rattle.coding.specs.Sha256.{compress, added}
use Rattle.coding.proofs.sha256.compress.Goals as goal

pub returns : goal.returns
unfolding compress added
returns c = simp (c.rounds-v.ensures, c.schedule-w.ensures)
