-- The million bytes are not counted one by one.
use Rattle.std.proofs.Common.{ℕ, sym}
use lib.ListN.{length-replicate}
use Rattle.sha256_vectors.proofs.million.Goals as goal

pub slice_bounds-line-end-2 : goal.slice_bounds-line-end-2
slice_bounds-line-end-2 g c = sym (length-replicate {0} {A = ℕ} 1000000 97)
