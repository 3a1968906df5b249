use Rattle.std.proofs.Common.{Fits, w8, get_or, rules}
use mathlib.Core.Path.{sym}
use native.Mathlib.Omega.{arith}
use Rattle.parties.proofs.client.FreezeEndLaws.{freeze-long, freeze-retained, freeze-pointer, frozen}
use Rattle.parties.proofs.client.GateLaws.{Opened, opens}
use Rattle.parties.proofs.client.freeze.freeze.Goals as goal
use Rattle.parties.proofs.client.freeze.freeze.Goals.{After-noticed_map-map}

-- the client's record reads
opened_at : (c : After-noticed_map-map) → let a = c.args in Opened a.s.measures a.p a.area.now
opened_at c =
    let a = c.args in
    let q = c.requires in
    opens a.s.measures a.p a.area.now c.args.s.pass q.2 (omega arith) (omega arith) (λ i. let b : Fits w8 (get_or c.args.area.now i 0) = search rules in b.fits)

pub noticed_map-map-requires : goal.noticed_map-map-requires
noticed_map-map-requires c =
    let opened = let a = c.args in let q = c.requires in opens a.s.measures a.p a.area.now c.args.s.pass q.2 (omega arith) (omega arith) (λ i. let b : Fits w8 (get_or c.args.area.now i 0) = search rules in b.fits) in
    let a = c.args in
    let q = c.requires in
    (freeze-retained a.s.measures a.p a.area.now opened q.1, omega (arith, freeze-long a.s.measures a.p a.area.now opened q.1), q.3, q.4)

pub version_at-v-requires : goal.version_at-v-requires
version_at-v-requires c =
    let opened = opened_at (goal.at.version_at-v-requires c).After-noticed_map-map in
    let a = c.args in
    let q = c.requires in
    omega (arith, freeze-long a.s.measures a.p a.area.now opened q.1, c.work_at-at.ensures)

pub put_free_list-len-requires : goal.put_free_list-len-requires
put_free_list-len-requires c =
    let opened = opened_at (goal.at.put_free_list-len-requires c).After-noticed_map-map in
    let a = c.args in
    let q = c.requires in
    (freeze-retained a.s.measures a.p a.area.now opened q.1, omega (arith, freeze-long a.s.measures a.p a.area.now opened q.1), q.5)

pub retain-requires : goal.retain-requires
retain-requires c =
    let opened = opened_at (goal.at.retain-requires c).After-noticed_map-map in
    let a = c.args in
    let q = c.requires in (
      freeze-long a.s.measures a.p a.area.now opened q.1,
      freeze-retained a.s.measures a.p a.area.now opened q.1,
      freeze-pointer a.s.measures a.p a.area.now opened
          q.1,
      q.3,
      q.4,
    )

pub returns : goal.returns
returns c =
    let opened = opened_at (goal.at.returns c).After-noticed_map-map in
    let a = c.args in
    let q = c.requires in
    sym (frozen a.s.measures a.p a.area.now opened q.1 a.own c.noticed_map-map.result a.rows.now c.noticed_map-map.ensures c.work_at-at.result c.work_at-at.ensures
    c.version_at-v.result c.version_at-v.ensures a.room.now c.put_free_list-len.result
    c.put_free_list-len.ensures.0 _ c.put_free_list-len.ensures.1 _ c.retain.ensures)
