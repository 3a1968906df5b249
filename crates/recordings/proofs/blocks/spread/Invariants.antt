use Prim.Native.Nat.{◌+◌, ◌*◌, ◌/◌, ◌%◌}
use lib.ListN.{get_or}
use Rattle.coding.specs.Areas.{Columns}
use Rattle.recordings.specs.Shuffle.{shuffled}
use Rattle.recordings.proofs.blocks.spread.Given as goal

-- The blocks below k stand in their planes.
abbrev pub invariant-loop-k : goal.invariant-loop-k
invariant-loop-k here = Columns 3 here.n here.s (16 * here.k) (λ p l. get_or here.from (l / 16 * 48 + shuffled (p * 16 + l % 16)) 0) here.initial.out here.out
