use mathlib.Core.Path.{◌≡◌, sym, ap, ◌∙◌}
use mathlib.Core.Bool.{true}
use mathlib.Core.List.{◌++◌}
use Rattle.std.proofs.Common.{Err}
use Rattle.std.proofs.lemmas.Result.{err_from_is_err_and}
use Prim.Native.Nat.{ℕ, ◌+◌, ◌*◌}
use native.Mathlib.Omega.{arith}
use lib.ListN.{take, drop}
use Rattle.parties.specs.protocol.Measures.{passes, row_size}
use Rattle.parties.specs.protocol.Answer.{serves}
use Rattle.parties.specs.protocol.DirectoryEvents.{directory_size}
use Rattle.parties.specs.records.Answer.{number}
use Rattle.parties.proofs.records.RecordLaws.{judged_sound, judged_broken}
use Rattle.parties.proofs.records.SizeLaws.{table_bound}
use Rattle.parties.proofs.directory.EndLaws.{ends-room, directory_bytes, scan-measures, scan-short-table, scan-short-room, scan-broken, scan-rows}
use Rattle.parties.proofs.directory.scan.Goals as goal

pub returns-then-not-pass : goal.returns-then-not-pass
returns-then-not-pass c =
    let a = c.args in
    let p = c.pass in
    ends-room _ _ (scan-measures a.s a.table.now a.room.now (sym p.ensures ∙ c.if-not-pass.true))

pub overflow_mul-all : goal.overflow_mul-all
overflow_mul-all c =
    let good : passes c.args.s ≡ true = sym c.pass.ensures ∙ c.if-not-pass.false in
    let sized : c.args.s.m * c.row_size-size.result ≡ directory_size c.args.s = directory_bytes c.args.s _ c.row_size-size.ensures in
    omega (arith, sized, table_bound c.args.s good)

pub returns-then-table-all : goal.returns-then-table-all
returns-then-table-all c =
    let good : passes c.args.s ≡ true = sym c.pass.ensures ∙ c.if-not-pass.false in
    let sized : c.args.s.m * c.row_size-size.result ≡ directory_size c.args.s = directory_bytes c.args.s _ c.row_size-size.ensures in
    let a = c.args in
    ends-room _ _ (scan-short-table a.s a.table.now a.room.now good (omega (arith, sized)))

pub returns-then-room-all : goal.returns-then-room-all
returns-then-room-all c =
    let good : passes c.args.s ≡ true = sym c.pass.ensures ∙ c.if-not-pass.false in
    let sized : c.args.s.m * c.row_size-size.result ≡ directory_size c.args.s = directory_bytes c.args.s _ c.row_size-size.ensures in
    let a = c.args in
    ends-room _ _ (scan-short-room a.s a.table.now a.room.now good (omega (arith, sized)) (omega (arith, sized)))

pub returns-in_err-directory : goal.returns-in_err-directory
returns-in_err-directory c =
    let good : passes c.args.s ≡ true = sym c.pass.ensures ∙ c.if-not-pass.false in
    let sized : c.args.s.m * c.row_size-size.result ≡ directory_size c.args.s = directory_bytes c.args.s _ c.row_size-size.ensures in
    let a = c.args in
    let p = err_from_is_err_and c.from_residual.result c.from_residual.ensures.1 in
    rw p.1
    (ends-room _ _ (scan-broken a.s a.table.now a.room.now good (omega (arith, sized)) (omega (arith, sized)) (number p.0)
    (judged_broken a.s a.table.now c.directory.result c.directory.ensures p.0 (c.in_err-directory.was ∙ ap Err (sym p.2)))))

pub returns : goal.returns
returns c =
    let good : passes c.args.s ≡ true = sym c.pass.ensures ∙ c.if-not-pass.false in
    let sized : c.args.s.m * c.row_size-size.result ≡ directory_size c.args.s = directory_bytes c.args.s _ c.row_size-size.ensures in
    let a = c.args in
    let z : 0 + directory_size a.s ≡ directory_size a.s = omega arith in
    let j = judged_sound a.s a.table.now c.directory.result c.directory.ensures _ c.in_ok-directory.was in
    let x = ends-room _ _ (scan-rows a.s a.table.now a.room.now good (omega arith) (omega arith) (drop (a.s.m * row_size a.s) a.table.now) j.0 j.1) in (
      ap serves sized ∙ x.0,
      c.copy.ensures ∙ ap (λ (k : ℕ). take k a.table.now ++ drop (0 + k) a.room.now) sized
          ∙ ap (λ (k : ℕ). take (directory_size a.s) a.table.now ++ drop k a.room.now) z ∙ x.1,
    )
