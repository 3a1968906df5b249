use native.Mathlib.Omega.{arith}
use Rattle.parties.proofs.client.FormLaws.{sizes}
use Rattle.parties.proofs.client.freeze.retain_one.Goals as goal

pub stands-requires : goal.stands-requires
stands-requires c = (omega arith, omega (arith, (sizes c.args.s.measures c.args.s.pass).clients, c.requires.2))
