-- What is left to sum, from the sum so far, is the whole sum; it stays below 2 to the power 32, so that no sum wraps.
use Rattle.std.proofs.Common.{◌≡◌, ◌<◌, drop}
use Rattle.vectors.specs.Bytes.{checksum_from}
use Rattle.vectors.proofs.checksum.Given as goal

abbrev pub invariant-loop-b : goal.invariant-loop-b
invariant-loop-b l = (l.h < 4294967296) × (checksum_from l.h (drop l.b-index l.s) ≡ checksum_from 0 l.s)
