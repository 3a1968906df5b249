use mathlib.Core.Path.{refl, sym, ◌∙◌}
use native.Mathlib.Omega.{arith}
use lib.ListN.{length-set}
use Rattle.parties.proofs.records.PlaceLaws.{alone-size}
use Rattle.parties.proofs.node.EndLaws.{filled, ranked, stands-inside, stands-short, request_absent, request-found}
use Rattle.parties.proofs.node.hand_back.Goals as goal

pub version_at-v-requires : goal.version_at-v-requires
version_at-v-requires c =
    let a = c.args in
    omega (arith, alone-size a.s a.b.now c.requires.3)

pub seek-j-requires : goal.seek-j-requires
seek-j-requires c =
    let a = c.args in (
      omega arith,
      filled a.s a.t.now a.b.now a.room.now c.requires.0
          c.length_at-count.result c.length_at-count.ensures.0,
    )

pub put_head-requires : goal.put_head-requires
put_head-requires c =
    let p = c.requires in
    let a = c.args in
    omega (arith, p.0.answer, alone-size a.s a.b.now p.3)

pub stands-requires : goal.stands-requires
stands-requires c =
    let a = c.args in
    let length_at = c.length_at-count in (
      omega arith,
      filled a.s a.t.now a.b.now a.room.now
          c.requires.0 length_at.result length_at.ensures.0,
    )

pub returns-then-not-stands : goal.returns-then-not-stands
returns-then-not-stands c =
    let a = c.args in
    let p = c.requires in
    let length_at = c.length_at-count in
    let seek = c.seek-j in
    let v = c.version_at-v.ensures in
    request_absent a.s a.t.now a.b.now a.room.now p.0 length_at.result length_at.ensures.0
    (λ i. (c.type_inv.t i).fits)
    (λ i. (c.type_inv.b i).fits) p.1
    p.2 p.3
    seek.result (rw (← v) seek.ensures) (rw (← v) (sym c.stands.ensures ∙ c.if-not-stands.true)) _
    _ c.put_head.ensures refl

pub overflow_mul-at : goal.overflow_mul-at
overflow_mul-at c =
    let a = c.args in
    let p = c.requires in
    let length_at = c.length_at-count in
    let seek = c.seek-j in
    omega (
      arith,
      c.well_formed.1.0,
      filled
          a.s a.t.now a.b.now a.room.now p.0 length_at.result length_at.ensures.0,
      ranked a.s a.t.now a.b.now a.room.now p.0 length_at.result length_at.ensures.0
          c.version_at-v.result seek.result seek.ensures,
    )

pub overflow_add-at : goal.overflow_add-at
overflow_add-at c =
    let a = c.args in
    let p = c.requires in
    let length_at = c.length_at-count in
    let seek = c.seek-j in
    omega (
      arith,
      c.well_formed.1.0,
      filled
          a.s a.t.now a.b.now a.room.now p.0 length_at.result length_at.ensures.0,
      ranked a.s a.t.now a.b.now a.room.now p.0 length_at.result length_at.ensures.0
          c.version_at-v.result seek.result seek.ensures,
    )

pub overflow_add-at-2 : goal.overflow_add-at-2
overflow_add-at-2 c =
    let a = c.args in
    let length_at = c.length_at-count in
    let seek = c.seek-j in
    omega (
      arith,
      c.well_formed.1.0,
      stands-inside a.s a.t.now a.b.now a.room.now
          c.requires.0 length_at.result
          length_at.ensures.0 c.version_at-v.result seek.result seek.ensures
          (sym c.stands.ensures ∙ c.if-not-stands.false),
    )

pub length_at-len-requires : goal.length_at-len-requires
length_at-len-requires c =
    let a = c.args in
    let length_at = c.length_at-count in
    let seek = c.seek-j in
    omega (
      arith,
      stands-inside a.s a.t.now a.b.now a.room.now
          c.requires.0 length_at.result
          length_at.ensures.0 c.version_at-v.result seek.result seek.ensures
          (sym c.stands.ensures ∙ c.if-not-stands.false),
    )

pub overflow_add-at-3 : goal.overflow_add-at-3
overflow_add-at-3 c =
    let a = c.args in
    let length_at = c.length_at-count in
    let seek = c.seek-j in
    let stands = c.stands in
    omega (
      arith,
      c.well_formed.1.0,
      stands-inside a.s a.t.now a.b.now a.room.now
          c.requires.0
          length_at.result length_at.ensures.0 c.version_at-v.result
          seek.result seek.ensures
          (sym stands.ensures ∙ c.if-not-stands.false),
    )

pub copy-requires : goal.copy-requires
copy-requires c =
    let a = c.args in
    let p = c.requires in
    let length_at = c.length_at-count in
    let version-at = c.version_at-v in
    let seek = c.seek-j in
    let stands = c.stands in
    let if1 = c.if-not-stands in
    let put-head = c.put_head in
    let k = stands-short a.s a.t.now a.b.now a.room.now p.0 length_at.result length_at.ensures.0 version-at.result
    seek.result seek.ensures
    (sym stands.ensures ∙ if1.false)
    in
    let i = stands-inside a.s a.t.now a.b.now a.room.now p.0 length_at.result length_at.ensures.0 version-at.result
    seek.result seek.ensures
    (sym stands.ensures ∙ if1.false)
    in (
      rw (length-set put-head.new.room 6 1, put-head.auto.room) (omega (arith, k, c.length_at-len.ensures.0, p.0.answer)),
      omega (arith, k, i, c.length_at-len.ensures.0),
    )

pub returns : goal.returns
returns c =
    let a = c.args in
    let p = c.requires in
    let length_at = c.length_at-count in
    let seek = c.seek-j in
    let stands = c.stands in
    let length-at2 = c.length_at-len in
    let v = c.version_at-v.ensures in
    request-found a.s a.t.now a.b.now a.room.now p.0 length_at.result length_at.ensures.0
    (λ i. (c.type_inv.t i).fits) (λ i. (c.type_inv.b i).fits) p.1 p.2 p.3
    seek.result (rw (← v) seek.ensures)
    (rw (← v) (sym stands.ensures ∙ c.if-not-stands.false))
    length-at2.result length-at2.ensures.0 _ _ _
    c.put_head.ensures refl c.copy.ensures
