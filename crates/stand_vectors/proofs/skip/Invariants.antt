-- What a part has is taken from what is left.
use Rattle.stand_vectors.proofs.skip.Given as goal

abbrev pub decreases-loop-left : goal.decreases-loop-left
decreases-loop-left g l = l.left
