use Rattle.std.proofs.Common.{◌≡◌, length, sym, refl, ap, ◌∙◌, arith, take_all, rules}
use Rattle.std.proofs.lemmas.Slice.{overwrites}
use Rattle.coding.specs.Sha256.{joined}
use Rattle.coding.proofs.Sha256Laws.{joined_turn}
use Rattle.coding.proofs.sha256.joined.Goals as goal

pub loop-i-init : goal.loop-i-init
unfolding joined
loop-i-init c = (refl, refl)

pub loop-i-preserved : goal.loop-i-preserved
loop-i-preserved c =
    let l = c.loop-i in
    let w : length c.args.h ≡ 8 = search rules in (
      search (rules, overwrites),
      joined_turn c.args.h l.b _ l.i (omega arith) l.invariant.0 (omega arith) l.invariant.1 (c.copy_from_slice.ensures.after ∙ c.to_be_bytes.ensures),
    )

pub returns : goal.returns
returns c =
    let l = c.loop-i in
    let e : l.i ≡ 8 = omega arith in
    let w : length c.args.h ≡ 8 = search rules in
    sym (take_all 32 l.b (omega arith)) ∙ rw e at l.invariant.1 ∙ ap joined (take_all 8 c.args.h (omega arith))
