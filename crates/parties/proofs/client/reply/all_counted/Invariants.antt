use mathlib.Core.Path.{◌≡◌}
use mathlib.Core.Bool.{true}
use Rattle.coding.specs.Nodes.{all, nodes_of}
use Rattle.parties.specs.protocol.Nodes.{stands}
use Rattle.parties.proofs.client.reply.all_counted.Given as goal

-- The named nodes up to i are counted.
abbrev pub invariant-loop-i : goal.invariant-loop-i
invariant-loop-i l = all (stands l.counted) (nodes_of l.named l.i) ≡ true
