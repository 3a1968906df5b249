use mathlib.Core.Path.{◌≡◌, sym, ◌∙◌}
use mathlib.Core.Bool.{true}
use Prim.Native.Nat.{◌-◌, ◌*◌}
use native.Mathlib.Omega.{arith}
use lib.Dec.{leb}
use Rattle.coding.proofs.Cases.{and-true}
use Rattle.parties.specs.protocol.Measures.{passes}
use Rattle.parties.specs.protocol.ClientEvents.{room_size}
use Rattle.parties.specs.client.Record.{area_size}
use Rattle.parties.proofs.client.FormLaws.{sizes}
use Rattle.parties.proofs.client.GateLaws.{three_fail, three_hold}
use Rattle.parties.proofs.client.gate.area_room_and_output_long.Goals as goal

pub returns-then-not-area_and_room_long : goal.returns-then-not-area_and_room_long
returns-then-not-area_and_room_long c =
    let a = c.args in
    let l = c.area_and_room_long in
    three_fail (passes a.s) (leb (area_size a.s) a.area) (leb (room_size a.s) a.room) (leb (a.s.k * a.s.f - 4) a.out) l.result l.ensures
    (c.if-not-area_and_room_long.true)

pub overflow_mul-result : goal.overflow_mul-result
overflow_mul-result c =
    let measured : passes c.args.s ≡ true =
    let l = c.area_and_room_long in
    (and-true (passes c.args.s) _ (sym l.ensures ∙ c.if-not-area_and_room_long.false)).0 in
    omega (arith, (sizes c.args.s measured).frame)

pub overflow_sub-result : goal.overflow_sub-result
overflow_sub-result c =
    let measured : passes c.args.s ≡ true =
    let l = c.area_and_room_long in
    (and-true (passes c.args.s) _ (sym l.ensures ∙ c.if-not-area_and_room_long.false)).0 in
    omega (arith, (sizes c.args.s measured).frame)

pub returns : goal.returns
returns c =
    let a = c.args in
    let l = c.area_and_room_long in
    three_hold (passes a.s) (leb (area_size a.s) a.area) (leb (room_size a.s) a.room) (leb (a.s.k * a.s.f - 4) a.out) l.result l.ensures
    (c.if-not-area_and_room_long.false)
