use Rattle.coding.proofs.Sha256Laws.{rest_law}
use Rattle.coding.proofs.sha256.rest.Goals as goal

pub returns : goal.returns
returns c = rest_law c.args.s.now _ c.copy_from_slice.ensures.after
