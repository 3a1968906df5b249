use Rattle.std.proofs.Common.{Fits, w8, get_or, rules}
use mathlib.Core.Path.{sym, ◌∙◌}
use native.Mathlib.Omega.{arith}
use Rattle.parties.proofs.protocol.formats.MeasureLaws.{passed}
use Rattle.parties.proofs.node.SizeLaws.{sizes}
use Rattle.parties.proofs.node.ToNodeLaws.{store_sizes}
use Rattle.parties.proofs.node.EndLaws.{filled, grows, ranked, stands-inside, store-over, store_full, store_new}
use Rattle.parties.proofs.node.keep.Goals as goal

pub version_at-v-requires : goal.version_at-v-requires
version_at-v-requires c =
    let a = c.args in
    omega (arith, (store_sizes a.s a.b.now c.requires.3).0)

pub seek-j-requires : goal.seek-j-requires
seek-j-requires c =
    let a = c.args in
    let length_at = c.length_at-count in (
      omega arith,
      filled a.s a.t.now a.b.now a.room.now c.requires.0
          length_at.result length_at.ensures.0,
    )

pub overflow_mul-at : goal.overflow_mul-at
overflow_mul-at c =
    let a = c.args in
    let p = c.requires in
    let length_at = c.length_at-count in
    omega (
      arith,
      filled a.s a.t.now a.b.now a.room.now p.0 length_at.result length_at.ensures.0,
      ranked a.s a.t.now a.b.now a.room.now p.0 length_at.result length_at.ensures.0 c.version_at-v.result
          c.seek-j.result c.seek-j.ensures,
    )

pub overflow_add-at : goal.overflow_add-at
overflow_add-at c =
    let a = c.args in
    let p = c.requires in
    let length_at = c.length_at-count in
    omega (
      arith,
      filled a.s a.t.now a.b.now a.room.now p.0 length_at.result length_at.ensures.0,
      ranked a.s a.t.now a.b.now a.room.now p.0 length_at.result length_at.ensures.0 c.version_at-v.result
          c.seek-j.result c.seek-j.ensures,
    )

pub stands-requires : goal.stands-requires
stands-requires c =
    let a = c.args in
    let length_at = c.length_at-count in (
      omega arith,
      filled a.s a.t.now a.b.now a.room.now
          c.requires.0 length_at.result length_at.ensures.0,
    )

pub put_place-requires : goal.put_place-requires
put_place-requires c =
    let a = c.args in
    let p = c.requires in
    let length_at = c.length_at-count in
    let seek = c.seek-j in
    let z = store_sizes a.s a.b.now p.3 in (
      stands-inside a.s a.t.now a.b.now a.room.now p.0 length_at.result length_at.ensures.0
          c.version_at-v.result seek.result seek.ensures
          (sym c.stands.ensures ∙ c.if-stands.true),
      z.0,
      z.1,
      (passed a.s p.0.measures).bytes.1,
    )

pub put_head-requires : goal.put_head-requires
put_head-requires c =
    let p = c.requires in
    let a = c.args in
    omega (arith, p.0.answer, (store_sizes a.s a.b.now p.3).0, (passed a.s p.0.measures).bytes.0)

pub returns-then-stands : goal.returns-then-stands
returns-then-stands c =
    let a = c.args in
    let p = c.requires in
    let length_at = c.length_at-count in
    let seek = c.seek-j in
    let v = c.version_at-v.ensures in
    store-over a.s a.t.now a.b.now a.room.now p.0 length_at.result length_at.ensures.0
    (λ i. let b : Fits w8 (get_or c.args.t.now i 0) = search rules in b.fits)
    (λ i. (c.type_inv.b i).fits) p.1 p.2 p.3
    seek.result (rw (← v) seek.ensures)
    (rw (← v) (sym c.stands.ensures ∙ c.if-stands.true)) _ _ c.put_place.ensures
    c.put_head.ensures

pub returns-then-s-count : goal.returns-then-s-count
returns-then-s-count c =
    let a = c.args in
    let p = c.requires in
    let length_at = c.length_at-count in
    let seek = c.seek-j in
    let v = c.version_at-v.ensures in
    store_full a.s a.t.now a.b.now a.room.now p.0 length_at.result length_at.ensures.0
    (λ i. let b : Fits w8 (get_or c.args.t.now i 0) = search rules in b.fits)
    (λ i. (c.type_inv.b i).fits)
    p.1 p.2 p.3
    seek.result (rw (← v) seek.ensures) (rw (← v) (sym c.stands.ensures ∙ c.if-stands.false))
    c.if-s-count.true

pub insert-requires : goal.insert-requires
insert-requires c =
    let a = c.args in
    let p = c.requires in
    let length_at = c.length_at-count in
    let seek = c.seek-j in
    let z = store_sizes a.s a.b.now p.3 in (
      ranked a.s a.t.now a.b.now a.room.now p.0 length_at.result length_at.ensures.0
          c.version_at-v.result seek.result seek.ensures,
      omega arith,
      grows a.s a.t.now a.b.now a.room.now p.0 length_at.result length_at.ensures.0 c.if-s-count.false,
      omega (arith, c.if-s-count.false, sizes a.s p.0.measures),
      z.0,
      z.1,
      (passed a.s p.0.measures).bytes.1,
    )

pub put_head-requires-2 : goal.put_head-requires-2
put_head-requires-2 c =
    let p = c.requires in
    let a = c.args in
    omega (arith, p.0.answer, (store_sizes a.s a.b.now p.3).0, (passed a.s p.0.measures).bytes.0)

pub returns : goal.returns
returns c =
    let a = c.args in
    let p = c.requires in
    let length_at = c.length_at-count in
    let seek = c.seek-j in
    let v = c.version_at-v.ensures in
    store_new a.s a.t.now a.b.now a.room.now p.0 length_at.result length_at.ensures.0
    (λ i. let b : Fits w8 (get_or c.args.t.now i 0) = search rules in b.fits)
    (λ i. (c.type_inv.b i).fits) p.1 p.2 p.3
    seek.result (rw (← v) seek.ensures)
    (rw (← v) (sym c.stands.ensures ∙ c.if-stands.false))
    c.if-s-count.false _ _
    c.insert.ensures c.put_head-2.ensures
