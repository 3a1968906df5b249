use mathlib.Core.Path.{◌≡◌, sym, ap₂, ◌∙◌}
use mathlib.Core.Bool.{true}
use mathlib.Core.List.{List, ◌++◌}
use Prim.Native.Nat.{ℕ, ◌*◌}
use native.Mathlib.Omega.{arith}
use lib.ListN.{drop}
use Rattle.parties.specs.protocol.Measures.{passes}
use Rattle.parties.specs.protocol.Directory.{write_row, fresh_row}
use Rattle.parties.specs.protocol.DirectoryEvents.{directory_size}
use Rattle.parties.proofs.records.SizeLaws.{row_bound, table_bound}
use Rattle.parties.proofs.directory.RoomLaws.{built_length}
use Rattle.parties.proofs.directory.FreshLaws.{fresh-rows, fresh-measures, fresh-short, fresh-written}
use Rattle.parties.proofs.directory.EndLaws.{ends-table, directory_bytes}
use Rattle.parties.proofs.directory.fresh_directory.Goals as goal

pub returns-then-not-pass : goal.returns-then-not-pass
returns-then-not-pass c =
    let a = c.args in
    let p = c.pass in ends-table _ _ (fresh-measures a.s a.table.now (sym p.ensures ∙ c.if-not-pass.true))

pub overflow_mul-s : goal.overflow_mul-s
overflow_mul-s c =
    let good : passes c.args.s ≡ true = sym c.pass.ensures ∙ c.if-not-pass.false in
    let sized : c.args.s.m * c.row_size-size.result ≡ directory_size c.args.s = directory_bytes c.args.s _ c.row_size-size.ensures in
    omega (arith, sized, table_bound c.args.s good)

pub returns-then-table-s : goal.returns-then-table-s
returns-then-table-s c =
    let good : passes c.args.s ≡ true = sym c.pass.ensures ∙ c.if-not-pass.false in
    let sized : c.args.s.m * c.row_size-size.result ≡ directory_size c.args.s = directory_bytes c.args.s _ c.row_size-size.ensures in
    let a = c.args in ends-table _ _ (fresh-short a.s a.table.now good (omega (arith, sized)))

pub repeat-requires : goal.repeat-requires
repeat-requires c =
    let good : passes c.args.s ≡ true = sym c.pass.ensures ∙ c.if-not-pass.false in
    let a = c.args in
    let r = c.row_size-size in
    let f = c.fresh_row in
    (omega (arith, r.ensures, row_bound a.s good, built_length (write_row (fresh_row a.s)) f.new.room f.ensures), c.if-table-s.false)

pub returns : goal.returns
returns c =
    let good : passes c.args.s ≡ true = sym c.pass.ensures ∙ c.if-not-pass.false in
    let sized : c.args.s.m * c.row_size-size.result ≡ directory_size c.args.s = directory_bytes c.args.s _ c.row_size-size.ensures in
    let a = c.args in
    let r = c.row_size-size in
    let f = c.fresh_row in
    let e = sized in
    let x = ends-table _ _ (fresh-written a.s a.table.now good (omega (arith, e, c.if-table-s.false))) in (
      x.0,
      c.repeat.ensures
          ∙ ap₂ (λ (y : List ℕ) (k : ℕ). y ++ drop k a.table.now) (fresh-rows a.s good f.new.room r.result f.ensures r.ensures) e
          ∙ x.1,
    )
