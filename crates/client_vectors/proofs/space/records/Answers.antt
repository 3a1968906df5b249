-- The bytes are not counted one by one.
use Rattle.std.proofs.Common.{ℕ, sym}
use lib.ListN.{length-replicate}
use Rattle.client_vectors.proofs.space.records.Goals as goal

pub returns : goal.returns
returns c = sym (length-replicate {0} {A = ℕ} 573440 0)
