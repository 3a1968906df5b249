use Rattle.std.proofs.Common.{arith, rules}
use Rattle.coding.proofs.Sha256Laws.{extend_law}
use Rattle.coding.proofs.sha256.extend.Goals as goal

pub returns : goal.returns
returns c =
    let w = c.args.w.now in
    (extend_law w c.args.t _ (search rules) (omega arith) c.scheduled.ensures, search rules)
