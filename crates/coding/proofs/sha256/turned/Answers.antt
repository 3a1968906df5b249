use Rattle.coding.specs.Sha256.{turned}
use Rattle.coding.proofs.sha256.turned.Goals as goal

pub returns : goal.returns
unfolding turned
returns c = simp (c.t2.ensures, c.t1-x.ensures)
