use Rattle.std.proofs.Common.{Fits, w8, get_or, rules}
use mathlib.Core.Path.{sym}
use Prim.Native.Nat.{◌^◌, ◌<◌}
use native.Mathlib.Omega.{arith}
use Rattle.coding.proofs.FrameLaws.{columns-within}
use Rattle.parties.proofs.protocol.formats.MeasureLaws.{passed}
use Rattle.parties.proofs.client.FormLaws.{sizes}
use Rattle.parties.proofs.client.DrawEndLaws.{page-fits, page_short_at, drawn_at}
use Rattle.parties.proofs.client.GateLaws.{work_within, Opened, opens}
use Rattle.parties.proofs.client.draw.draw.Goals as goal
use Rattle.parties.proofs.client.draw.draw.Goals.{After-work_at-at}

-- the client's record reads
opened_at : (c : After-work_at-at) → let a = c.args in Opened a.s.measures a.p a.area.now
opened_at c =
    let a = c.args in
    let q = c.requires in
    opens a.s.measures a.p a.area.now c.args.s.pass q.2 (omega arith) (omega arith) (λ i. let b : Fits w8 (get_or c.args.area.now i 0) = search rules in b.fits)

pub u32_at-requires : goal.u32_at-requires
u32_at-requires c =
    let opened = opened_at (goal.at.u32_at-requires c).After-work_at-at in
    let a = c.args in
    let q = c.requires in
    omega (arith, work_within a.s.measures a.p a.area.now opened, c.work_at-at.ensures)

pub overflow_cast-v : goal.overflow_cast-v
overflow_cast-v c =
    let a = c.args in
    let q = c.requires in
    omega (arith, (sizes a.s.measures c.args.s.pass).clients, q.0)

pub slice_bounds-put_pieces-end : goal.slice_bounds-put_pieces-end
slice_bounds-put_pieces-end c =
    let opened = opened_at (goal.at.slice_bounds-put_pieces-end c).After-work_at-at in
    let a = c.args in
    let q = c.requires in
    let f = page-fits a.s.measures a.own q.0 a.p a.area.now opened q.1 c.work_at-at.result
    c.work_at-at.ensures c.u32_at.result _ c.u32_at.ensures
    in
    omega (arith, f)

pub put_pieces-len-requires : goal.put_pieces-len-requires
put_pieces-len-requires c =
    let opened = opened_at (goal.at.put_pieces-len-requires c).After-work_at-at in
    let a = c.args in
    let q = c.requires in (
      page_short_at a.s.measures a.own q.0 a.p a.area.now opened q.1 c.work_at-at.result
          c.work_at-at.ensures c.u32_at.result _ c.u32_at.ensures,
      q.3,
    )

pub put_stores-requires : goal.put_stores-requires
put_stores-requires c =
    let opened = opened_at (goal.at.put_stores-requires c).After-work_at-at in
    let a = c.args in
    let q = c.requires in
    let f = page_short_at a.s.measures a.own q.0 a.p a.area.now opened q.1 c.work_at-at.result
    c.work_at-at.ensures c.u32_at.result _ c.u32_at.ensures
    in
    let g = columns-within a.s.measures.k a.s.measures.f _ (passed a.s.measures c.args.s.pass).parts (passed a.s.measures c.args.s.pass).frame f in (
      omega (arith, g, c.put_pieces-len.ensures.0),
      search rules,
      omega
          (arith, work_within a.s.measures a.p a.area.now opened, c.work_at-at.ensures),
    )

pub returns : goal.returns
returns c =
    let opened = opened_at (goal.at.returns c).After-work_at-at in
    let small_sequence : c.args.q.0 < 256 ^ 4 =
    omega arith in
    let a = c.args in
    let q = c.requires in
    sym (drawn_at a.s.measures a.own q.0 a.p a.area.now opened q.1 c.work_at-at.result
    c.work_at-at.ensures c.u32_at.result _ c.u32_at.ensures a.q q.4 small_sequence a.room.now q.3 c.put_pieces-len.result
    c.put_pieces-len.ensures.0 _ c.put_pieces-len.ensures.1 _ c.put_stores.ensures)
