use Rattle.std.proofs.Common.{Fits, w8, get_or, rules}
use mathlib.Core.Path.{sym}
use native.Mathlib.Omega.{arith}
use Rattle.parties.proofs.client.FormLaws.{sizes}
use Rattle.parties.proofs.client.ScanLaws.{spent_leaves}
use Rattle.parties.proofs.client.GateLaws.{work_within, Opened, opens}
use Rattle.parties.proofs.client.scan.give_up.Goals as goal
use Rattle.parties.proofs.client.scan.give_up.Goals.{After-work_at-at}

-- the client's record reads
opened_at : (c : After-work_at-at) → let a = c.args in Opened a.s.measures a.p a.area.now
opened_at c =
    let a = c.args in
    let q = c.requires in
    opens a.s.measures a.p a.area.now c.args.s.pass q (omega arith) (omega arith) (λ i. let b : Fits w8 (get_or c.args.area.now i 0) = search rules in b.fits)

pub overflow_add-at : goal.overflow_add-at
overflow_add-at c =
    let z = sizes c.args.s.measures c.args.s.pass in
    omega (arith, z.clients, z.nodes, z.pieces, z.pointer, z.pointers, c.work_at-at.ensures, c.work_size-size.ensures)

pub clear-requires : goal.clear-requires
clear-requires c =
    let opened = opened_at (goal.at.clear-requires c).After-work_at-at in
    let a = c.args in
    let q = c.requires in
    (omega arith, omega (arith, work_within a.s.measures a.p a.area.now opened, c.work_at-at.ensures, c.work_size-size.ensures))

pub returns : goal.returns
returns c =
    let opened = opened_at (goal.at.returns c).After-work_at-at in
    let a = c.args in
    let q = c.requires in
    sym (spent_leaves a.s.measures a.p a.area.now opened c.work_at-at.result c.work_at-at.ensures c.work_size-size.result
    c.work_size-size.ensures _ c.clear.ensures a.room.now)
