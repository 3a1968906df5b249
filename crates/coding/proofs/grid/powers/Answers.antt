use Rattle.std.proofs.Common.{◌≡◌, ℕ, ◌+◌, refl, ap, ◌∙◌, not-suc-le-zero, add-one, arith, length-set, get_or-set_other, rules}
use Rattle.coding.specs.Field.{product, power as pow}
use Rattle.coding.proofs.BytesLaws.{zeros_at, stored_more}
use Rattle.coding.proofs.grid.powers.Goals as goal

pub loop-t-init : goal.loop-t-init
unfolding pow
loop-t-init c = (search rules, refl, λ i h. absurd (not-suc-le-zero h), λ i. zeros_at 32 (16 + i))

pub loop-t-preserved : goal.loop-t-preserved
unfolding pow
loop-t-preserved c =
    let l = c.loop-t in
    let x = c.args.x in (
      simp length-set l.invariant.0,
      rw (add-one l.t) (c.mul-power.ensures ∙ ap (λ (v : ℕ). product v x) l.invariant.1),
      stored_more 0 (λ i v. v ≡ pow x i) l.t l.row l.power (omega arith) l.invariant.2 l.invariant.1,
      λ i. get_or-set_other l.row l.t (16 + i) l.power 0 (λ e. omega arith) ∙ l.invariant.3 i,
    )
