use Prim.Native.Nat.{◌+◌, ◌*◌}
use lib.ListN.{get_or}
use Rattle.coding.proofs.BytesLaws.{Front}
use Rattle.recordings.specs.Shuffle.{shuffled, in_blocks}
use Rattle.recordings.proofs.blocks.shuffle.Given as goal

-- The blocks below k are shuffled.
abbrev pub invariant-loop-k : goal.invariant-loop-k
invariant-loop-k l = Front l.initial.to (λ m. get_or l.from (l.at + in_blocks shuffled m) 0) l.to (48 * l.k)
