use Rattle.std.proofs.Common.{[], ◌∷◌, refl, arith}
use Rattle.lines.proofs.TextLaws.{byte_put, put_fits}
use Rattle.lines.proofs.text.byte.Goals as goal

pub returns : goal.returns
returns c =
    let a = c.args in put_fits a.text.now a.at (a.b ∷ []) _ _ (omega arith) refl (byte_put a.text.now a.at a.b (omega arith))
