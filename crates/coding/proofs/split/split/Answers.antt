use Rattle.std.proofs.Common.{refl, ap, arith}
use Rattle.std.proofs.lemmas.Result.{err_from_is_err_and}
use Rattle.coding.specs.declared.answer.Refusal.{Refusal}
use Rattle.coding.specs.Answer.{Outcome, number}
use Rattle.coding.proofs.MeasureLaws.{proper-measures, measures-small}
use Rattle.coding.proofs.FrameLaws.{columns-within}
use Rattle.coding.proofs.SplitLaws.{split-measures, split-short, split-long, split_done, written_unique}
use Rattle.coding.proofs.split.split.Goals as goal

pub returns-in_err-measured : goal.returns-in_err-measured
returns-in_err-measured c =
    let e = c.in_err-measured.ensures.err in
    let p = err_from_is_err_and c.from_residual.result c.from_residual.ensures.1 in
    rw (p.1, p.2, split-measures _ _ _ c.args.page.now c.args.room.now e.1) (ap (λ (r : Refusal). Outcome.refuses (number r)) e.0, refl)

pub overflow_mul-n : goal.overflow_mul-n
overflow_mul-n c = omega (arith, measures-small _ _ _ (proper-measures _ _ _ c.in_ok-measured.ensures.ok))

pub returns-then-room-n : goal.returns-then-room-n
returns-then-room-n c =
    rw (split-short _ _ _ c.args.page.now c.args.room.now c.in_ok-measured.ensures.ok c.if-room-n.true) (refl, refl)

pub overflow_mul-k : goal.overflow_mul-k
overflow_mul-k c = omega (arith, measures-small _ _ _ (proper-measures _ _ _ c.in_ok-measured.ensures.ok))

pub overflow_sub-k : goal.overflow_sub-k
overflow_sub-k c = (proper-measures _ _ _ c.in_ok-measured.ensures.ok).frame

pub returns-then-k-f : goal.returns-then-k-f
returns-then-k-f c =
    rw (split-long _ _ _ c.args.page.now c.args.room.now c.in_ok-measured.ensures.ok c.if-room-n.false c.if-k-f.true) (refl, refl)

pub piece_length-len-requires : goal.piece_length-len-requires
piece_length-len-requires c =
    let p = proper-measures _ _ _ c.in_ok-measured.ensures.ok in
    omega (arith, measures-small _ _ _ p, p)

pub write_areas-requires : goal.write_areas-requires
write_areas-requires c =
    let p = proper-measures _ _ _ c.in_ok-measured.ensures.ok in
    let l = columns-within _ _ _ p.parts.0 p.frame c.if-k-f.false in
    (rw c.piece_length-len.ensures l, p.nodes.1, p.longest.1, c.if-room-n.false, p.parts.0, omega (arith, p.parts.1, p.nodes.1))

pub returns : goal.returns
returns c =
    let p = proper-measures _ _ _ c.in_ok-measured.ensures.ok in
    let l = columns-within _ _ _ p.parts.0 p.frame c.if-k-f.false in
    let len = c.piece_length-len.ensures in
    rw (split_done _ _ _ c.args.page.now c.args.room.now c.in_ok-measured.ensures.ok c.if-room-n.false c.if-k-f.false, len)
    (refl, written_unique _ _ c.args.page.now _ _ _ p.longest.0 l c.if-room-n.false (rw len at c.write_areas.ensures))
