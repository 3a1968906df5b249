use mathlib.Core.Path.{sym, ap, ◌∙◌}
use Prim.Native.Nat.{ℕ, ◌+◌, ◌-◌, ◌*◌}
use native.Mathlib.Omega.{arith}
use Rattle.parties.specs.protocol.Measures.{place_size}
use Rattle.parties.specs.records.Places.{zero_run}
use Rattle.parties.proofs.protocol.formats.MeasureLaws.{passed}
use Rattle.parties.proofs.node.TableLaws.{table-many, table-broken, table-rest}
use Rattle.parties.proofs.node.table_sound.Goals as goal

pub returns-then-places-count : goal.returns-then-places-count
returns-then-places-count c =
    let a = c.args in
    let length_at = c.length_at-count in
    table-many a.s.measures a.t.now length_at.result length_at.ensures.0 c.if-places-count.true

pub returns-then-not-places_sound : goal.returns-then-not-places_sound
returns-then-not-places_sound c =
    let a = c.args in
    let length_at = c.length_at-count in
    table-broken a.s.measures a.t.now length_at.result length_at.ensures.0 c.if-places-count.false
    (sym c.places_sound.ensures ∙ c.if-not-places_sound.true)

pub overflow_add-s : goal.overflow_add-s
overflow_add-s c =
    omega (arith, (passed c.args.s.measures c.args.s.pass).bytes.1)

pub returns : goal.returns
returns c =
    let a = c.args in
    let length_at = c.length_at-count in
    let places-sound = c.places_sound in
    let from : ℕ = 2 + length_at.result * place_size a.s.measures in
    table-rest a.s.measures a.t.now length_at.result length_at.ensures.0 c.if-places-count.false
    (sym places-sound.ensures ∙ c.if-not-places_sound.false) c.zero_run.result
    (c.zero_run.ensures ∙ ap (λ (n : ℕ). zero_run a.t.now from (n - from)) c.table_size-end.ensures)
