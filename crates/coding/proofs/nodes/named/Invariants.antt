use Rattle.std.proofs.Common.{◌≡◌}
use Rattle.coding.specs.Nodes.{nodes_of}
use Rattle.coding.proofs.nodes.named.Given as goal

-- The nodes from 1 to i are listed.
abbrev pub invariant-loop-i : goal.invariant-loop-i
invariant-loop-i l = l.nodes ≡ nodes_of l.map l.i
