use mathlib.Core.Path.{◌≡◌, sym, ap, ◌∙◌}
use mathlib.Core.Bool.{true}
use Prim.Native.Nat.{ℕ, ◌*◌}
use native.Mathlib.Omega.{arith}
use lib.Dec.{leb}
use Rattle.coding.proofs.Cases.{and-true}
use Rattle.parties.specs.protocol.Measures.{passes, row_size}
use Rattle.parties.specs.protocol.ClientEvents.{room_size}
use Rattle.parties.specs.client.Record.{area_size}
use Rattle.parties.proofs.records.SizeLaws.{table_bound}
use Rattle.parties.proofs.client.GateLaws.{rows_fail, rows_hold}
use Rattle.parties.proofs.client.gate.area_rows_and_room_long.Goals as goal

pub returns-then-not-area_and_room_long : goal.returns-then-not-area_and_room_long
returns-then-not-area_and_room_long c =
    let a = c.args in
    let l = c.area_and_room_long in
    rows_fail (passes a.s) (leb (area_size a.s) a.area) (leb (a.s.m * row_size a.s) a.rows) (leb (room_size a.s) a.room) l.result l.ensures
    (c.if-not-area_and_room_long.true)

pub overflow_mul-result : goal.overflow_mul-result
overflow_mul-result c =
    let measured : passes c.args.s ≡ true =
    let l = c.area_and_room_long in
    (and-true (passes c.args.s) _ (sym l.ensures ∙ c.if-not-area_and_room_long.false)).0 in
    let s = c.args.s in omega (arith, ap (λ (k : ℕ). s.m * k) c.row_size-size.ensures, table_bound s measured)

pub returns : goal.returns
returns c =
    let a = c.args in
    let l = c.area_and_room_long in
    ap (λ (k : ℕ). leb (a.s.m * k) a.rows) c.row_size-size.ensures
    ∙ rows_hold (passes a.s) (leb (area_size a.s) a.area) (leb (a.s.m * row_size a.s) a.rows) (leb (room_size a.s) a.room) l.result l.ensures
    (c.if-not-area_and_room_long.false)
