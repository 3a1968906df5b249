use Rattle.std.proofs.Common.{refl, ap, ◌∙◌, arith}
use Rattle.std.proofs.lemmas.Result.{err_from_is_err_and}
use Rattle.coding.specs.declared.answer.Refusal.{Refusal}
use Rattle.coding.specs.Answer.{Outcome, number}
use Rattle.coding.proofs.MeasureLaws.{proper-measures, measures-small}
use Rattle.coding.proofs.FrameLaws.{columns-within}
use Rattle.coding.proofs.SplitLaws.{cut-measures, cut_short, cut_low, cut_high, cut-long, cut-done, piece_cut}
use Rattle.coding.proofs.split.cut.Goals as goal
use Rattle.coding.proofs.split.cut.Goals.{then-i-lt1-via-then-i-lt1, then-i-lt1-via-else-i-lt1+then-n-i}

pub returns-in_err-measured : goal.returns-in_err-measured
returns-in_err-measured c =
    let e = c.in_err-measured.ensures.err in
    let p = err_from_is_err_and c.from_residual.result c.from_residual.ensures.1 in
    rw (p.1, p.2, cut-measures _ _ _ _ c.args.page.now c.args.room.now e.1) (ap (λ (r : Refusal). Outcome.refuses (number r)) e.0, refl)

pub returns-then-room-f : goal.returns-then-room-f
returns-then-room-f c =
    rw (cut_short _ _ _ _ c.args.page.now c.args.room.now c.in_ok-measured.ensures.ok c.if-room-f.true) (refl, refl)

pub returns-then-i-lt1 : goal.returns-then-i-lt1
returns-then-i-lt1 c =
    let a = c.args in
    let m = c.in_ok-measured.ensures.ok in
    elim c.then-i-lt1.branch [
      | then-i-lt1-via-then-i-lt1 w ↦ rw (cut_low _ _ _ _ a.page.now a.room.now m c.if-room-f.false w.if-i-lt1.true) (refl, refl)
      | then-i-lt1-via-else-i-lt1+then-n-i w ↦
          rw (cut_high _ _ _ _ a.page.now a.room.now m c.if-room-f.false w.if-i-lt1.false w.if-n-i.true) (refl, refl)
    ]

pub overflow_mul-k : goal.overflow_mul-k
overflow_mul-k c = omega (arith, measures-small _ _ _ (proper-measures _ _ _ c.in_ok-measured.ensures.ok))

pub overflow_sub-k : goal.overflow_sub-k
overflow_sub-k c = (proper-measures _ _ _ c.in_ok-measured.ensures.ok).frame

pub returns-then-k-f : goal.returns-then-k-f
returns-then-k-f c =
    let m = c.in_ok-measured.ensures.ok in
    rw (cut-long _ _ _ _ c.args.page.now c.args.room.now m c.if-room-f.false c.if-i-lt1.false c.if-n-i.false c.if-k-f.true) (refl, refl)

pub piece_length-len-requires : goal.piece_length-len-requires
piece_length-len-requires c =
    let p = proper-measures _ _ _ c.in_ok-measured.ensures.ok in
    omega (arith, measures-small _ _ _ p, p)

pub overflow_cast-i : goal.overflow_cast-i
overflow_cast-i c =
    let p = proper-measures _ _ _ c.in_ok-measured.ensures.ok in
    omega (arith, p.nodes.1)

pub cut_piece-requires : goal.cut_piece-requires
cut_piece-requires c =
    let p = proper-measures _ _ _ c.in_ok-measured.ensures.ok in
    let l = columns-within _ _ _ p.parts.0 p.frame c.if-k-f.false in
    let e = c.piece_length-len.ensures in
    omega (arith, l, e, p.longest.1, p.parts.1, p.nodes.1)

pub returns : goal.returns
returns c =
    let a = c.args in
    let m = c.in_ok-measured.ensures.ok in
    let len = c.piece_length-len.ensures in
    rw (cut-done _ _ _ _ a.page.now a.room.now m c.if-room-f.false c.if-i-lt1.false c.if-n-i.false c.if-k-f.false)
    (ap Outcome.gives len, c.cut_piece.ensures ∙ piece_cut _ a.page.now _ _ _ len)
