use native.Mathlib.Omega.{arith}
use Rattle.parties.proofs.client.FormLaws.{sizes}
use Rattle.parties.proofs.client.free.Noticed.reserved_now.Goals as goal

pub stands-requires : goal.stands-requires
stands-requires c = (omega arith, omega (arith, (sizes c.args.self.now.s.measures c.args.self.now.holds.0).clients, c.requires))
