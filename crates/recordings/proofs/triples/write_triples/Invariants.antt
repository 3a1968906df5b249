use Rattle.std.proofs.Common.{◌*◌, ◌/◌, ◌%◌, get_or}
use Rattle.coding.proofs.BytesLaws.{Front}
use Rattle.recordings.specs.Planes.{among_planes}
use Rattle.recordings.proofs.triples.write_triples.Given as goal

-- The first k times sixteen samples are written.
abbrev pub invariant-loop-k : goal.invariant-loop-k
invariant-loop-k here = Front here.initial.out (λ l. get_or here.bytes (among_planes here.n (l / 3) (l % 3)) 0) here.out (48 * here.k)
