use Rattle.std.proofs.Common.{Fits, w8, get_or, rules, Err}
use Rattle.std.proofs.lemmas.Result.{err_from_is_err_and}
use mathlib.Core.Path.{◌≡◌, sym, ap, subst, ◌∙◌}
use mathlib.Core.Bool.{true, false, ◌&&◌}
use mathlib.Core.Option.{some}
use Prim.Native.Nat.{ℕ, ◌+◌, ◌*◌, ◌≤◌}
use native.Mathlib.Omega.{arith}
use lib.ListN.{length, drop}
use Rattle.parties.specs.protocol.Measures.{passes, row_size}
use Rattle.parties.specs.protocol.Directory.{read_row}
use Rattle.parties.specs.protocol.DirectoryEvents.{directory_size}
use Rattle.parties.specs.records.Answer.{number}
use Rattle.parties.specs.records.Form.{rest}
use Rattle.parties.specs.directory.Room.{Renewed}
use Rattle.parties.proofs.records.RecordLaws.{tabled_sound, tabled_broken}
use Rattle.parties.proofs.records.SizeLaws.{table_bound, below_rows}
use Rattle.parties.proofs.directory.EndLaws.{ends-table, directory_bytes}
use Rattle.parties.proofs.directory.UpdateEndLaws.{recorded_sound, recorded_broken, own_row_left, update-measures, update-short, update-number, update-broken-table, update_broken_record, update_foreign, update-done}
use Rattle.parties.proofs.directory.update.Goals as goal
use Rattle.parties.proofs.directory.update.Goals.{then-not-all-via-then-not-all, then-not-all-via-else-not-all+then-not-record}

pub returns-then-not-pass : goal.returns-then-not-pass
returns-then-not-pass c =
    let a = c.args in
    ends-table _ _ (update-measures a.s a.own a.table.now a.fields.now (sym c.pass.ensures ∙ c.if-not-pass.true))

pub overflow_mul-s : goal.overflow_mul-s
overflow_mul-s c =
    let good : passes c.args.s ≡ true = sym c.pass.ensures ∙ c.if-not-pass.false in
    omega (arith, directory_bytes c.args.s _ c.row_size-size.ensures, table_bound c.args.s good)

pub returns-then-table-s : goal.returns-then-table-s
returns-then-table-s c =
    let a = c.args in
    ends-table _ _
    (update-short a.s a.own a.table.now a.fields.now (sym c.pass.ensures ∙ c.if-not-pass.false) (omega (arith, directory_bytes c.args.s _ c.row_size-size.ensures)))

pub returns-then-s-own : goal.returns-then-s-own
returns-then-s-own c =
    let a = c.args in
    let enough : directory_size a.s ≤ length a.table.now = omega (arith, directory_bytes c.args.s _ c.row_size-size.ensures) in
    ends-table _ _ (update-number a.s a.own a.table.now a.fields.now (sym c.pass.ensures ∙ c.if-not-pass.false) enough c.if-s-own.true)

pub returns-in_default : goal.returns-in_default
returns-in_default c =
    let a = c.args in
    let enough : directory_size a.s ≤ length a.table.now = omega (arith, directory_bytes c.args.s _ c.row_size-size.ensures) in
    ends-table _ _ (update-broken-table a.s a.own a.table.now a.fields.now (sym c.pass.ensures ∙ c.if-not-pass.false) enough c.if-s-own.false
    (tabled_broken a.s a.table.now c.rows.result c.rows.ensures c.in_default.is))

pub returns-in_err-record : goal.returns-in_err-record
returns-in_err-record c =
    let a = c.args in
    let enough : directory_size a.s ≤ length a.table.now = omega (arith, directory_bytes c.args.s _ c.row_size-size.ensures) in
    let read = tabled_sound a.s a.table.now c.rows.result c.rows.ensures c.in-Some.all c.in-Some.is in
    let p = err_from_is_err_and c.from_residual.result c.from_residual.ensures.1 in
    rw p.1
    (ends-table _ _ (update_broken_record a.s a.own a.table.now a.fields.now (sym c.pass.ensures ∙ c.if-not-pass.false) enough c.if-s-own.false
    (drop (a.s.m * row_size a.s) a.table.now) read.0 (number p.0)
    (recorded_broken a.s a.own a.fields.now c.whole_record.result c.whole_record.ensures p.0 (c.in_err-record.was ∙ ap Err (sym p.2)))))

pub returns-then-not-all : goal.returns-then-not-all
returns-then-not-all c =
    let a = c.args in
    let enough : directory_size a.s ≤ length a.table.now = omega (arith, directory_bytes c.args.s _ c.row_size-size.ensures) in
    let read = tabled_sound a.s a.table.now c.rows.result c.rows.ensures c.in-Some.all c.in-Some.is in
    let x = c.in_ok-record.record in
    let recorded = recorded_sound a.s a.own a.fields.now c.whole_record.result c.whole_record.ensures x c.in_ok-record.was in
    let foreign : (c.in-Some.all && x.owned) ≡ false = elim c.then-not-all.branch [
      | then-not-all-via-then-not-all w ↦ grind (arith, w.if-not-all.true)
      | then-not-all-via-else-not-all+then-not-record w ↦ grind (arith, w.if-not-record.true)
    ] in
    ends-table _ _ (update_foreign a.s a.own a.table.now a.fields.now (sym c.pass.ensures ∙ c.if-not-pass.false) enough c.if-s-own.false
    c.in-Some.all (drop (a.s.m * row_size a.s) a.table.now) read.0 read.1 (λ i. (c.type_inv.fields i).fits) x recorded foreign)

pub renew-requires : goal.renew-requires
renew-requires c =
    let a = c.args in
    let t = a.table.now in
    let read = tabled_sound a.s t c.rows.result c.rows.ensures c.in-Some.all c.in-Some.is in
    let recorded = recorded_sound a.s a.own a.fields.now c.whole_record.result c.whole_record.ensures c.in_ok-record.record c.in_ok-record.was in
    let enough : directory_size a.s ≤ length t = omega (arith, directory_bytes c.args.s _ c.row_size-size.ensures) in
    let placed : a.own * row_size a.s ≡ a.own * c.row_size-size.result = ap (λ (k : ℕ). a.own * k) (sym c.row_size-size.ensures) in (
      c.row_size-size.ensures,
      omega (arith, enough, placed, below_rows a.own a.s.m (row_size a.s) c.if-s-own.false),
      recorded.0,
      subst (λ (k : ℕ). rest (read_row a.s (drop k t)) ≡ some (drop (k + row_size a.s) t)) placed
          (own_row_left a.s t (λ i. let b : Fits w8 (get_or c.args.table.now i 0) = search rules in b.fits) a.own c.if-s-own.false (drop (a.s.m * row_size a.s) t) read.0),
    )

pub returns : goal.returns
returns c =
    let a = c.args in
    let enough : directory_size a.s ≤ length a.table.now = omega (arith, directory_bytes c.args.s _ c.row_size-size.ensures) in
    let read = tabled_sound a.s a.table.now c.rows.result c.rows.ensures c.in-Some.all c.in-Some.is in
    let x = c.in_ok-record.record in
    let recorded = recorded_sound a.s a.own a.fields.now c.whole_record.result c.whole_record.ensures x c.in_ok-record.was in
    let both : (c.in-Some.all && x.owned) ≡ true = grind (arith, c.if-not-all.false, c.if-not-record.false) in
    let r = c.renew in
    ends-table _ _ (update-done a.s a.own a.table.now a.fields.now (sym c.pass.ensures ∙ c.if-not-pass.false) enough c.if-s-own.false
    c.in-Some.all (drop (a.s.m * row_size a.s) a.table.now) read.0 read.1
    (λ i. let b : Fits w8 (get_or c.args.table.now i 0) = search rules in b.fits) (λ i. (c.type_inv.fields i).fits) x recorded both r.new.table
    (subst (λ (k : ℕ). Renewed a.s k a.fields.now a.table.now r.new.table) (ap (λ (k : ℕ). a.own * k) c.row_size-size.ensures) r.ensures))
