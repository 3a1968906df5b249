use Prim.Native.Nat.{◌-◌}
use native.Mathlib.Omega.{arith}
use Rattle.parties.proofs.records.NodesLaws.{ones_front}
use Rattle.parties.proofs.records.nodes.rank.Goals as goal

pub returns : goal.returns
returns c = ones_front c.args.map (c.args.i - 1) (omega arith)
