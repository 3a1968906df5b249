use Rattle.std.proofs.Common.{Fits, w8, get_or, rules}
use mathlib.Core.Path.{sym}
use mathlib.Core.Bool.{true, false}
use native.Mathlib.Omega.{arith}
use Rattle.parties.proofs.client.FormLaws.{sizes}
use Rattle.parties.proofs.client.AcknowledgeLaws.{map-there, adds_at, map_at, stored_other, stored_old, stored-few}
use Rattle.parties.proofs.client.GateLaws.{Opened, opens}
use Rattle.parties.proofs.client.acknowledge.acknowledge.Goals as goal
use Rattle.parties.proofs.client.acknowledge.acknowledge.Goals.{After-work_at-at}

-- the client's record reads
opened_at : (c : After-work_at-at) → let a = c.args in Opened a.s.measures a.p a.area.now
opened_at c =
    let a = c.args in
    let q = c.requires in
    opens a.s.measures a.p a.area.now c.args.s.pass q.2 (omega arith) (omega arith) (λ i. let b : Fits w8 (get_or c.args.area.now i 0) = search rules in b.fits)

pub returns-then-p-ne-STORING : goal.returns-then-p-ne-STORING
returns-then-p-ne-STORING c =
    let opened = let a = c.args in let q = c.requires in opens a.s.measures a.p a.area.now c.args.s.pass q.2 (omega arith) (omega arith) (λ i. (c.type_inv.area i).fits) in
    λ out. let a = c.args in sym (stored_other a.s.measures a.p a.area.now opened a.i a.v c.if-p-ne-STORING.true a.room.now out)

pub adds-requires : goal.adds-requires
adds-requires c =
    let opened = opened_at (goal.at.adds-requires c).After-work_at-at in
    let a = c.args in
    let q = c.requires in
    (q.0, omega (arith, q.1, (sizes a.s.measures c.args.s.pass).nodes), omega (arith, map-there a.s.measures a.p a.area.now opened a.i a.v, c.work_at-at.ensures))

pub returns-then-not-adds : goal.returns-then-not-adds
returns-then-not-adds c =
    let opened = opened_at (goal.at.returns-then-not-adds c).After-work_at-at in
    λ out.
    let a = c.args in
    let work-at = c.work_at-at in
    let adds = c.adds in
    sym (stored_old a.s.measures a.p a.area.now opened a.i a.v c.if-p-ne-STORING.false
    (adds_at a.s.measures a.p a.area.now opened a.i a.v work-at.result work-at.ensures adds.result false adds.ensures (c.if-not-adds.true))
    a.room.now out)

pub u16_at-requires : goal.u16_at-requires
u16_at-requires c =
    let opened = opened_at (goal.at.u16_at-requires c).After-work_at-at in
    let a = c.args in omega (arith, map-there a.s.measures a.p a.area.now opened a.i a.v, c.work_at-at.ensures)

pub with_node-map-requires : goal.with_node-map-requires
with_node-map-requires c =
    let a = c.args in
    let q = c.requires in
    (q.0, omega (arith, q.1, (sizes a.s.measures c.args.s.pass).nodes))

pub put_u16-requires : goal.put_u16-requires
put_u16-requires c =
    let opened = opened_at (goal.at.put_u16-requires c).After-work_at-at in
    let a = c.args in omega (arith, map-there a.s.measures a.p a.area.now opened a.i a.v, c.work_at-at.ensures)

pub returns-then-count-s : goal.returns-then-count-s
returns-then-count-s c =
    let opened = opened_at (goal.at.returns-then-count-s c).After-work_at-at in
    λ out.
    let a = c.args in
    let work-at = c.work_at-at in
    let adds = c.adds in
    let u16-at = c.u16_at in
    let with_node_lem = c.with_node-map in
    let count = c.count in
    sym (stored-few a.s.measures a.p a.area.now opened a.i a.v c.if-p-ne-STORING.false
    (adds_at a.s.measures a.p a.area.now opened a.i a.v work-at.result work-at.ensures adds.result true adds.ensures
    (c.if-not-adds.false))
    with_node_lem.result (map_at a.s.measures a.p a.area.now opened a.i a.v work-at.result work-at.ensures u16-at.result _ u16-at.ensures with_node_lem.result
    with_node_lem.ensures)
    (omega (arith, count.ensures, c.if-count-s.true)) work-at.result work-at.ensures _ c.put_u16.ensures a.room.now out)

pub publish-requires : goal.publish-requires
publish-requires c =
    let opened = opened_at (goal.at.publish-requires c).After-work_at-at in
    let a = c.args in
    let q = c.requires in
    let work-at = c.work_at-at in
    let adds = c.adds in
    let u16-at = c.u16_at in
    let with_node_lem = c.with_node-map in
    let count = c.count in (
      q.0,
      q.1,
      q.2,
      q.3,
      c.if-p-ne-STORING.false,
      adds_at a.s.measures a.p a.area.now opened a.i a.v work-at.result work-at.ensures adds.result true adds.ensures (c.if-not-adds.false),
      map_at a.s.measures a.p a.area.now opened a.i a.v work-at.result work-at.ensures u16-at.result _ u16-at.ensures with_node_lem.result with_node_lem.ensures,
      omega (arith, count.ensures, c.if-count-s.false),
    )
