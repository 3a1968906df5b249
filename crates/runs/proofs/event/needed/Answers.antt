use mathlib.Core.Path.{◌≡◌, ap, sym, ◌∙◌}
use mathlib.Core.Bool.{true}
use Prim.Native.Nat.{ℕ, ◌+◌, ◌*◌}
use native.Mathlib.Omega.{arith}
use Rattle.parties.specs.protocol.Measures.{passes}
use Rattle.runs.proofs.SentLaws.{room_small, rows-small}
use Rattle.runs.proofs.EventLaws.{sized_is, needed-small}
use Rattle.runs.proofs.event.needed.Goals as goal

pub overflow_add-result : goal.overflow_add-result
overflow_add-result c =
    let passing : passes c.args.s ≡ true =
    sym c.pass.ensures ∙ c.if-not-pass.false in
    let s = c.args.s in let ok = passing in omega (arith, c.directory-rows.ensures ∙ sized_is s _ ok, rows-small s ok)

pub overflow_add-result-2 : goal.overflow_add-result-2
overflow_add-result-2 c =
    let passing : passes c.args.s ≡ true =
    sym c.pass.ensures ∙ c.if-not-pass.false in
    let s = c.args.s in let ok = passing in omega (arith, c.room-room.ensures ∙ sized_is s _ ok, room_small s ok)

pub overflow_mul-result : goal.overflow_mul-result
overflow_mul-result c =
    let passing : passes c.args.s ≡ true =
    sym c.pass.ensures ∙ c.if-not-pass.false in
    let s = c.args.s in
    let ok = passing in
    omega (arith, ap (λ (x : ℕ). s.n * (7 + x)) (c.room-room.ensures ∙ sized_is s _ ok), needed-small s ok)

pub overflow_add-result-3 : goal.overflow_add-result-3
overflow_add-result-3 c =
    let passing : passes c.args.s ≡ true =
    sym c.pass.ensures ∙ c.if-not-pass.false in
    let s = c.args.s in
    let ok = passing in
    omega (
      arith,
      c.directory-rows.ensures ∙ sized_is s _ ok,
      ap (λ (x : ℕ). s.n * (7 + x)) (c.room-room.ensures ∙ sized_is s _ ok),
      needed-small s ok,
    )
