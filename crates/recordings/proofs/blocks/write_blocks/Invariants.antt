use Rattle.std.proofs.Common.{◌*◌, get_or}
use Rattle.coding.specs.Areas.{Columns}
use Rattle.recordings.specs.Planes.{among_samples}
use Rattle.recordings.proofs.blocks.write_blocks.Given as goal

-- The samples of the first b times 32 blocks stand in their planes.
abbrev pub invariant-loop-b : goal.invariant-loop-b
invariant-loop-b l = Columns 3 l.n 0 (l.b * 512) (λ p s. get_or l.bytes (among_samples 3 s p) 0) l.initial.out l.out
