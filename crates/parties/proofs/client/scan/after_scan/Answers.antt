use Rattle.std.proofs.Common.{Fits, w8, get_or, rules}
use mathlib.Core.Path.{sym, ◌∙◌}
use native.Mathlib.Omega.{arith}
use Rattle.parties.proofs.client.ScanLaws.{scanned_freezes, scanned_fetches, scanned-other}
use Rattle.parties.proofs.client.GateLaws.{opens}
use Rattle.parties.proofs.client.scan.after_scan.Goals as goal

pub returns-in-1 : goal.returns-in-1
returns-in-1 c = c.first_scan.ensures

pub returns-in-4 : goal.returns-in-4
returns-in-4 c =
    let a = c.args in
    let q = c.requires in
    let opened = opens a.s.measures a.p a.area.now c.args.s.pass q.1 (omega arith) (omega arith) (λ i. let b : Fits w8 (get_or c.args.area.now i 0) = search rules in b.fits) in
    c.freeze.ensures ∙ sym (scanned_freezes a.s.measures a.p a.area.now opened a.own a.rows.now a.room.now c.in-4.is)

pub returns-in-6 : goal.returns-in-6
returns-in-6 c =
    let a = c.args in
    let q = c.requires in
    let opened = opens a.s.measures a.p a.area.now c.args.s.pass q.1 (omega arith) (omega arith) (λ i. let b : Fits w8 (get_or c.args.area.now i 0) = search rules in b.fits) in
    c.fetch.ensures ∙ sym (scanned_fetches a.s.measures a.p a.area.now opened a.own a.rows.now a.room.now c.in-6.is)

pub returns-in_default : goal.returns-in_default
returns-in_default c =
    let a = c.args in
    let q = c.requires in
    let opened = opens a.s.measures a.p a.area.now c.args.s.pass q.1 (omega arith) (omega arith) (λ i. (c.type_inv.area i).fits) in
    sym (scanned-other a.s.measures a.p a.area.now opened a.own a.rows.now a.room.now (λ e. omega arith) (λ e. omega arith) (λ e. omega arith))
