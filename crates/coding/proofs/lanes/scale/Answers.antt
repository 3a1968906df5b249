use Rattle.std.proofs.Common.{◌≡◌, ℕ, ◌-◌, ◌/◌, ◌^◌, ◌<◌, List, get_or, ap, ◌∙◌, subst, arith, rules}
use Rattle.coding.specs.Field.{◌⊕◌, product}
use Rattle.coding.proofs.FieldLaws.{product_byte}
use Rattle.coding.proofs.LaneLaws.{turn_odd, turn_even, ended, half-below}
use Rattle.coding.proofs.lanes.scale.Goals as goal
use Rattle.coding.proofs.lanes.scale.Goals.{then-rest-eq1, else-rest-eq1}

pub returns-then-rest-eq0 : goal.returns-then-rest-eq0
returns-then-rest-eq0 c k = ended _ _ _ _ c.if-rest-eq0.true (elim c.if-rest-eq1.branch [
  | then-rest-eq1 w ↦
      ap (λ (x : ℕ). x ⊕ product (product (get_or c.loop.term k 0) 2) (c.loop.rest / 2)) (ap (λ (l : List ℕ). get_or l k 0) w.sum-is ∙ w.add-next.ensures k)
      ∙ turn_odd (get_or c.loop.sum k 0) (get_or c.loop.term k 0) c.loop.rest _ (c.loop.invariant.3 k) c.loop.invariant.1 w.if-rest-eq1.true (c.loop.invariant.4 k)
  | else-rest-eq1 w ↦
      let even = w.if-rest-eq1.false in
      ap (λ (x : ℕ). x ⊕ product (product (get_or c.loop.term k 0) 2) (c.loop.rest / 2)) (ap (λ (l : List ℕ). get_or l k 0) w.sum-is)
      ∙ turn_even (get_or c.loop.sum k 0) (get_or c.loop.term k 0) c.loop.rest _ c.loop.invariant.1 (omega arith) (c.loop.invariant.4 k)
])

pub loop-preserved : goal.loop-preserved
loop-preserved c =
    let loop = c.loop in (
      search rules,
      omega arith,
      half-below loop.rest 8 loop.counter (search rules) loop.invariant.2,
      λ k. rw (c.double-next.ensures k) (product_byte (get_or loop.term k 0) 2),
      λ k. ap (λ (x : ℕ). get_or c.if-rest-eq1.sum k 0 ⊕ product x (loop.rest / 2)) (c.double-next.ensures k)
          ∙ (elim c.if-rest-eq1.branch [
            | then-rest-eq1 w ↦
                ap (λ (x : ℕ). x ⊕ product (product (get_or c.loop.term k 0) 2) (c.loop.rest / 2)) (ap (λ (l : List ℕ). get_or l k 0) w.sum-is ∙ w.add-next.ensures k)
                ∙ turn_odd (get_or c.loop.sum k 0) (get_or c.loop.term k 0) c.loop.rest _ (c.loop.invariant.3 k) c.loop.invariant.1 w.if-rest-eq1.true (c.loop.invariant.4 k)
            | else-rest-eq1 w ↦
                let even = w.if-rest-eq1.false in
                ap (λ (x : ℕ). x ⊕ product (product (get_or c.loop.term k 0) 2) (c.loop.rest / 2)) (ap (λ (l : List ℕ). get_or l k 0) w.sum-is)
                ∙ turn_even (get_or c.loop.sum k 0) (get_or c.loop.term k 0) c.loop.rest _ c.loop.invariant.1 (omega arith) (c.loop.invariant.4 k)
          ]),
    )

pub returns : goal.returns
returns c k =
    let loop = c.loop in
    let e : 8 - loop.counter ≡ 0 = omega arith in
    let h : loop.rest < 1 = subst (λ (n : ℕ). loop.rest < 2 ^ n) e loop.invariant.2 in
    ended _ _ _ _ (omega arith) (loop.invariant.4 k)
