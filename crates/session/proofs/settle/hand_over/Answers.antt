use Rattle.std.proofs.Common.{Fits, w8, get_or}
use mathlib.Core.Path.{refl}
use borrow.Author.Rules.{rules}
use Rattle.session.specs.Settle.{Hands}
use Rattle.session.proofs.settle.hand_over.Goals as goal

pub returns : goal.returns
returns c =
    λ start n h.
    Hands.goes n _ _ _ h (λ i. let b : Fits w8 (get_or c.args.room.now i 0) = search rules in b.fits, λ i. let b : Fits w8 (get_or c.args.out.now i 0) = search rules in b.fits) c.oldest-result.ensures refl
    (record { n = c.say-n.result; says = c.say-n.ensures; line_length = c.latest-len.ensures })
