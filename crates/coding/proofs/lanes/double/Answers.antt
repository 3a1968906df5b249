use Rattle.std.proofs.Common.{◌≡◌, ℕ, length, get_or, ap, ◌∙◌, arith, rules}
use lib.ListN.{get_or-eq_default}
use Rattle.coding.specs.Field.{product}
use Rattle.coding.proofs.FieldLaws.{zero_product}
use Rattle.coding.proofs.LaneLaws.{lanes_filled}
use Rattle.coding.proofs.lanes.double.Goals as goal

pub returns : goal.returns
returns c =
    let v = c.args.v in
    let h : length v ≡ 16 = search rules in
    lanes_filled (λ k. product (get_or v k 0) 2) c.loop-l.r 16 c.loop-l.invariant.1
    (λ k p. ap (λ (x : ℕ). product x 2) (get_or-eq_default v 0 (omega arith)) ∙ zero_product 2)
    (λ k p. c.loop-l.invariant.2 k (omega arith))
