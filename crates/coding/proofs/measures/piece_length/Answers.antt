use Rattle.std.proofs.Common.{refl}
use Rattle.coding.specs.Pieces.{columns}
use Rattle.coding.proofs.measures.piece_length.Goals as goal

pub returns : goal.returns
unfolding columns
returns c = refl
