use Rattle.std.proofs.Common.{◌≡◌, ℕ, ◌/◌, ◌%◌, ◌^◌, [], get_or, ap, ◌∙◌, arith, length-set, rules}
use Rattle.coding.specs.Field.{◌⊕◌, product}
use Rattle.coding.proofs.BytesLaws.{stored_more}
use Rattle.coding.proofs.LaneLaws.{spread_sum, next_bit}
use Rattle.coding.proofs.lanes.spread.Goals as goal

pub loop-b-preserved : goal.loop-b-preserved
loop-b-preserved c =
    let o = c.loop-b in
    let a = c.args in (
      search rules,
      simp length-set o.invariant.1,
      ap (λ (x : ℕ). x / 2) o.invariant.2 ∙ next_bit a.c o.b,
      stored_more [] (λ i row. (l : ℕ) → get_or row l 0 ≡ get_or (get_or a.sums i []) l 0 ⊕ product (get_or a.v l 0) (a.c / 2 ^ i % 2)) o.b o.r
          c.added-next.result (omega arith) o.invariant.3
          (λ l. c.added-next.ensures l ∙ ap (λ (x : ℕ). get_or (get_or a.sums o.b []) l 0 ⊕ product (get_or a.v l 0) (x % 2)) o.invariant.2),
    )

pub returns : goal.returns
returns c l =
    let o = c.loop-b in
    let a = c.args in
    spread_sum (λ b. get_or (get_or a.sums b []) l 0) (λ b. get_or (get_or o.r b []) l 0) (get_or a.v l 0) a.c (omega arith)
    (λ b h. o.invariant.3 b (omega arith) l)
