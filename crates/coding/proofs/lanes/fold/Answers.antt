use Rattle.std.proofs.Common.{ℕ, ◌-◌, [], get_or, sym, ap, ◌∙◌, rules}
use Rattle.coding.specs.Field.{◌⊕◌, product}
use Rattle.coding.proofs.BytesLaws.{zeros_at}
use Rattle.coding.proofs.LaneLaws.{horner-none, horner-more}
use Rattle.coding.proofs.lanes.fold.Goals as goal

pub loop-b-init : goal.loop-b-init
loop-b-init c = (
  search rules,
  λ l. zeros_at 16 l ∙ sym (horner-none (λ i. get_or (get_or c.args.sums (7 - i) []) l 0)),
)

pub loop-b-preserved : goal.loop-b-preserved
loop-b-preserved c =
    let o = c.loop-b in
    let sums = c.args.sums in (
      search rules,
      λ l. c.add-next.ensures l
          ∙ ap (λ (x : ℕ). x ⊕ get_or (get_or sums (7 - o.b) []) l 0)
          (c.double.ensures l ∙ ap (λ (x : ℕ). product x 2) (o.invariant.1 l))
          ∙ horner-more o.b (λ i. get_or (get_or sums (7 - i) []) l 0),
    )
