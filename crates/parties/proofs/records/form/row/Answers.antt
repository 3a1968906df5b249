use mathlib.Core.Path.{◌≡◌, sym, subst, ◌∙◌}
use mathlib.Core.Bool.{true, false}
use Prim.Native.Nat.{◌+◌}
use native.Mathlib.Omega.{arith}
use lib.ListN.{drop}
use Rattle.parties.specs.protocol.Measures.{row_size}
use Rattle.parties.specs.protocol.Directory.{read_row}
use Rattle.parties.specs.records.Form.{Rowed}
use Rattle.parties.proofs.records.FormLaws.{none_read}
use Rattle.parties.proofs.records.RecordLaws.{row_other, row_broken, row_ends, row_zeros, row_holds, own_parted_sound, own_parted_broken}
use Rattle.parties.proofs.records.form.row.Goals as goal

pub returns-then-t-at-ne-ROW_MAP : goal.returns-then-t-at-ne-ROW_MAP
returns-then-t-at-ne-ROW_MAP c =
    let a = c.args in
    none_read (read_row a.s.measures (drop a.at a.t.now)) (row_other a.s.measures a.t.now (λ i. (c.type_inv.t i).fits) a.at c.requires.1 c.if-t-at-ne-ROW_MAP.true)

pub returns-in_err-fields : goal.returns-in_err-fields
returns-in_err-fields c =
    let a = c.args in
    subst (Rowed a.s.measures a.own a.t.now a.at) (sym c.from_residual.ensures)
    (none_read (read_row a.s.measures (drop a.at a.t.now))
    (row_broken a.s.measures a.t.now (λ i. (c.type_inv.t i).fits) a.at c.requires.1 c.if-t-at-ne-ROW_MAP.false
    (own_parted_broken a.s.measures a.own a.t.now (a.at + 1) 15 c.own_fields.result c.own_fields.ensures c.in_err-fields.was)))

pub zero_run-requires : goal.zero_run-requires
zero_run-requires c =
    let a = c.args in
    let f = c.in_ok-fields.fields in
    let owned = own_parted_sound a.s.measures a.own a.t.now (a.at + 1) 15 c.own_fields.result c.own_fields.ensures f c.in_ok-fields.was in
    let z : a.size ≡ row_size a.s.measures = c.requires.0 in
    let w = row_ends a.s.measures a.t.now (λ i. (c.type_inv.t i).fits) a.at c.requires.1 f.ends c.if-t-at-ne-ROW_MAP.false owned.0 in
    (omega (arith, w), omega arith)

pub returns-then-not-zero_run : goal.returns-then-not-zero_run
returns-then-not-zero_run c =
    let a = c.args in
    let f = c.in_ok-fields.fields in
    let owned = own_parted_sound a.s.measures a.own a.t.now (a.at + 1) 15 c.own_fields.result c.own_fields.ensures f c.in_ok-fields.was in
    none_read (read_row a.s.measures (drop a.at a.t.now))
    (row_zeros a.s.measures a.t.now (λ i. (c.type_inv.t i).fits) a.at c.requires.1 f.ends c.if-t-at-ne-ROW_MAP.false owned.0
    a.size false c.requires.0 (sym c.if-not-zero_run.true ∙ c.zero_run.ensures))

pub returns : goal.returns
returns c =
    let a = c.args in
    let f = c.in_ok-fields.fields in
    let owned = own_parted_sound a.s.measures a.own a.t.now (a.at + 1) 15 c.own_fields.result c.own_fields.ensures f c.in_ok-fields.was in
    let r = row_zeros a.s.measures a.t.now (λ i. (c.type_inv.t i).fits) a.at c.requires.1 f.ends c.if-t-at-ne-ROW_MAP.false owned.0
    a.size true c.requires.0 (sym c.if-not-zero_run.false ∙ c.zero_run.ensures)
    in
    (r, owned.1 ∙ row_holds a.s.measures a.own a.t.now a.at _ (λ i. (c.type_inv.t i).fits) r)
