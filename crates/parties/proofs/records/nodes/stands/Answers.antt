use mathlib.Core.Path.{ap}
use Prim.Native.Nat.{ℕ}
use lib.Dec.{eqb}
use Rattle.parties.specs.protocol.Nodes.{stands}
use Rattle.parties.proofs.records.nodes.stands.Goals as goal

pub returns : goal.returns
unfolding stands
returns c = ap (λ (x : ℕ). eqb x 1) c.bit.ensures
