use Prim.Native.Nat.{◌-◌}
use native.Mathlib.Omega.{arith}
use Rattle.parties.proofs.records.NodesLaws.{or_power, one_shifted}
use Rattle.parties.proofs.records.nodes.with_node.Goals as goal

pub returns : goal.returns
returns c = rw (one_shifted (c.args.i - 1) (omega arith)) (or_power c.args.map c.args.i)
