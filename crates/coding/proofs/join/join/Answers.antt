use Rattle.std.proofs.Common.{◌^◌, sym, ◌∙◌, arith, ltb-false, ltb-true}
use Rattle.std.proofs.lemmas.Result.{err_from_is_err_and}
use Rattle.coding.specs.Answer.{Outcome}
use Rattle.coding.proofs.MeasureLaws.{proper-measures, measures-small}
use Rattle.coding.proofs.JoinEndLaws.{join-measures, join-short-room, join_short_lens, join-short-out, join_above, answered, answered_refusal}
use Rattle.coding.proofs.join.join.Goals as goal
use Rattle.coding.proofs.join.join.Goals.{then-room-n-via-then-room-n, then-room-n-via-else-room-n+then-lens-n, then-room-n-via-else-room-n+else-lens-n+then-out-k}

pub returns-in_err-measured : goal.returns-in_err-measured
returns-in_err-measured c =
    let a = c.args in
    let e = c.in_err-measured.ensures.err in
    let p = err_from_is_err_and c.from_residual.result c.from_residual.ensures.1 in
    rw (p.1, p.2, e.0)
    (answered_refusal a.n a.k a.f a.present a.room.now a.lens.now a.out.now (λ i. (c.type_inv.room i).fits) (Outcome.refuses 1)
    (join-measures a.n a.k a.f a.present a.room.now a.lens.now a.out.now e.1))

pub overflow_mul-n : goal.overflow_mul-n
overflow_mul-n c = omega (arith, measures-small _ _ _ (proper-measures _ _ _ c.in_ok-measured.ensures.ok))

pub overflow_mul-k : goal.overflow_mul-k
overflow_mul-k c = omega (arith, measures-small _ _ _ (proper-measures _ _ _ c.in_ok-measured.ensures.ok))

pub overflow_sub-k : goal.overflow_sub-k
overflow_sub-k c = (proper-measures _ _ _ c.in_ok-measured.ensures.ok).frame

pub returns-then-room-n : goal.returns-then-room-n
returns-then-room-n c =
    let a = c.args in
    let m = c.in_ok-measured.ensures.ok in
    answered_refusal a.n a.k a.f a.present a.room.now a.lens.now a.out.now (λ i. (c.type_inv.room i).fits) (Outcome.refuses 2)
    (elim c.then-room-n.branch [
      | then-room-n-via-then-room-n w ↦ join-short-room a.n a.k a.f a.present a.room.now a.lens.now a.out.now m w.if-room-n.true
      | then-room-n-via-else-room-n+then-lens-n w ↦
          join_short_lens a.n a.k a.f a.present a.room.now a.lens.now a.out.now m w.if-room-n.false w.if-lens-n.true
      | then-room-n-via-else-room-n+else-lens-n+then-out-k w ↦
          join-short-out a.n a.k a.f a.present a.room.now a.lens.now a.out.now m w.if-room-n.false w.if-lens-n.false w.if-out-k.true
    ])

pub within-requires : goal.within-requires
within-requires c = (proper-measures _ _ _ c.in_ok-measured.ensures.ok).nodes.1

pub returns-then-not-within : goal.returns-then-not-within
returns-then-not-within c =
    let a = c.args in
    let m = c.in_ok-measured.ensures.ok in
    answered_refusal a.n a.k a.f a.present a.room.now a.lens.now a.out.now (λ i. (c.type_inv.room i).fits) (Outcome.refuses 4)
    (join_above a.n a.k a.f a.present a.room.now a.lens.now a.out.now m c.if-room-n.false c.if-lens-n.false c.if-out-k.false
    (ltb-false a.present (2 ^ a.n) (sym c.within.ensures ∙ c.if-not-within.true)))

pub join_present-requires : goal.join_present-requires
join_present-requires c = (
  c.in_ok-measured.ensures.ok,
  c.if-room-n.false,
  c.if-lens-n.false,
  c.if-out-k.false,
  ltb-true c.args.present (2 ^ c.args.n) (sym c.within.ensures ∙ c.if-not-within.false),
)

pub returns : goal.returns
returns c =
    let a = c.args in
    answered a.n a.k a.f a.present a.room.now a.lens.now a.out.now (λ i. (c.type_inv.room i).fits) _ _ c.join_present.ensures.0 c.join_present.ensures.1
