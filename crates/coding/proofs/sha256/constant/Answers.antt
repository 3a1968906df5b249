use Rattle.std.proofs.Common.{refl}
use Rattle.coding.specs.Sha256.{K}
use Rattle.coding.proofs.sha256.constant.Goals as goal

pub returns : goal.returns
unfolding K
returns c = refl
