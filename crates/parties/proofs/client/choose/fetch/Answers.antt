use Rattle.std.proofs.Common.{Fits, w8, get_or, rules}
use mathlib.Core.Path.{sym, ap, ◌∙◌}
use native.Mathlib.Omega.{arith}
use lib.ListN.{length}
use Rattle.parties.specs.protocol.Version.{is_no_version}
use Rattle.parties.specs.protocol.Pointer.{Pointer}
use Rattle.parties.proofs.protocol.formats.PointerLaws.{GoodPointer, pointer-length}
use Rattle.parties.proofs.protocol.formats.RowLaws.{pointer-fits}
use Rattle.parties.specs.client.Choose.{offered}
use Rattle.parties.proofs.client.ChooseLaws.{offered_good, version-fits, version-shown}
use Rattle.parties.proofs.client.FetchLaws.{finds_none, asks}
use Rattle.parties.proofs.client.GateLaws.{work_within, Opened, opens}
use Rattle.parties.proofs.client.choose.fetch.Goals as goal
use Rattle.parties.proofs.client.choose.fetch.Goals.{After-pick_row-row}

-- the client's record reads
opened_at : (c : After-pick_row-row) → let a = c.args in Opened a.s.measures a.p a.area.now
opened_at c =
    let a = c.args in
    let q = c.requires in
    opens a.s.measures a.p a.area.now c.args.s.pass q.2 (omega arith) (omega arith) (λ i. let b : Fits w8 (get_or c.args.area.now i 0) = search rules in b.fits)

pub version_at-version-requires : goal.version_at-version-requires
version_at-version-requires c =
    let found : Pointer =
    let a = c.args in offered a.s.measures a.own a.p.reading a.rows.now c.pick_row-row.result in
    let good : GoodPointer c.args.s.measures found =
    let a = c.args in
    let q = c.requires in
    offered_good a.s.measures a.own a.p.reading a.rows.now c.pick_row-row.result (λ i. (c.type_inv.rows i).fits) q.0
    c.pick_row-row.ensures.2 in
    version-fits c.args.s.measures found good c.candidate_at-found.result.now c.candidate_at-found.ensures

pub returns-then-is_none : goal.returns-then-is_none
returns-then-is_none c =
    let opened = opened_at (goal.at.returns-then-is_none c).After-pick_row-row in
    let found : Pointer =
    let a = c.args in offered a.s.measures a.own a.p.reading a.rows.now c.pick_row-row.result in
    let good : GoodPointer c.args.s.measures found =
    let a = c.args in
    let q = c.requires in
    offered_good a.s.measures a.own a.p.reading a.rows.now c.pick_row-row.result (λ i. (c.type_inv.rows i).fits) q.0
    c.pick_row-row.ensures.2 in
    let a = c.args in
    let q = c.requires in
    let v = version-shown a.s.measures found good c.candidate_at-found.result.now c.candidate_at-found.ensures in
    sym (finds_none a.s.measures a.own a.p a.area.now opened q.1 a.rows.now a.room.now found c.pick_row-row.ensures.0 good
    (ap is_no_version (sym (c.version_at-version.ensures ∙ v)) ∙ sym c.is_none.ensures ∙ c.if-is_none.true))

pub u16_at-nodes-requires : goal.u16_at-nodes-requires
u16_at-nodes-requires c =
    let found : Pointer =
    let a = c.args in offered a.s.measures a.own a.p.reading a.rows.now c.pick_row-row.result in
    let good : GoodPointer c.args.s.measures found =
    let a = c.args in
    let q = c.requires in
    offered_good a.s.measures a.own a.p.reading a.rows.now c.pick_row-row.result (λ i. (c.type_inv.rows i).fits) q.0
    c.pick_row-row.ensures.2 in
    omega (arith, ap length c.candidate_at-found.ensures, pointer-length c.args.s.measures found good)

pub put_request-requires : goal.put_request-requires
put_request-requires c =
    let found : Pointer =
    let a = c.args in offered a.s.measures a.own a.p.reading a.rows.now c.pick_row-row.result in
    let good : GoodPointer c.args.s.measures found =
    let a = c.args in
    let q = c.requires in
    offered_good a.s.measures a.own a.p.reading a.rows.now c.pick_row-row.result (λ i. (c.type_inv.rows i).fits) q.0
    c.pick_row-row.ensures.2 in
    let q = c.requires in
    (omega (arith, q.5), version-fits c.args.s.measures found good c.candidate_at-found.result.now c.candidate_at-found.ensures)

pub put_fetched-requires : goal.put_fetched-requires
put_fetched-requires c =
    let opened = opened_at (goal.at.put_fetched-requires c).After-pick_row-row in
    let found : Pointer =
    let a = c.args in offered a.s.measures a.own a.p.reading a.rows.now c.pick_row-row.result in
    let good : GoodPointer c.args.s.measures found =
    let a = c.args in
    let q = c.requires in
    offered_good a.s.measures a.own a.p.reading a.rows.now c.pick_row-row.result (λ i. (c.type_inv.rows i).fits) q.0
    c.pick_row-row.ensures.2 in
    let a = c.args in
    let q = c.requires in
    let w = c.work_size-size.ensures in (
      omega (arith, ap length c.candidate_at-found.ensures, pointer-fits a.s.measures found good, w),
      omega (arith, work_within a.s.measures a.p a.area.now opened, w, c.work_at-at.ensures),
    )

pub returns : goal.returns
returns c =
    let opened = opened_at (goal.at.returns c).After-pick_row-row in
    let found : Pointer =
    let a = c.args in offered a.s.measures a.own a.p.reading a.rows.now c.pick_row-row.result in
    let good : GoodPointer c.args.s.measures found =
    let a = c.args in
    let q = c.requires in
    offered_good a.s.measures a.own a.p.reading a.rows.now c.pick_row-row.result (λ i. (c.type_inv.rows i).fits) q.0
    c.pick_row-row.ensures.2 in
    let a = c.args in
    let q = c.requires in
    sym (asks a.s.measures a.own a.p a.area.now opened q.1 a.rows.now a.room.now found c.pick_row-row.ensures.0 good
    c.candidate_at-found.result.now c.candidate_at-found.ensures c.version_at-version.result
    c.version_at-version.ensures
    (sym c.is_none.ensures ∙ c.if-is_none.false) c.u16_at-nodes.result _ c.u16_at-nodes.ensures c.work_at-at.result c.work_at-at.ensures
    c.work_size-size.result c.work_size-size.ensures
    _ c.put_fetched.ensures _ c.put_request.ensures)
