use Rattle.std.proofs.Common.{Fits, w8, get_or, rules}
use mathlib.Core.Path.{sym, ap, ◌∙◌}
use mathlib.Core.Bool.{◌&&◌}
use mathlib.Core.List.{[]}
use Prim.Native.Nat.{◌*◌, ◌≤◌}
use native.Mathlib.Omega.{arith}
use borrow.Author.Tests.{leb-true, ltb-true}
use lib.Dec.{leb, ltb}
use lib.ListN.{length}
use Rattle.std.specs.Prelude.{Ok}
use Rattle.coding.proofs.Cases.{and-true}
use Rattle.parties.specs.protocol.Measures.{passes, row_size}
use Rattle.parties.specs.protocol.Answer.{refused}
use Rattle.parties.specs.protocol.Verdict.{rows_verdict}
use Rattle.parties.specs.protocol.ClientEvents.{unchanged, on_rows, scanned_at, room_size}
use Rattle.parties.specs.records.Answer.{number}
use Rattle.parties.specs.records.Form.{Judged}
use Rattle.parties.specs.declared.Phase.{Phase}
use Rattle.parties.specs.client.Record.{record_of, area_size}
use Rattle.parties.proofs.records.RecordLaws.{judged_sound, judged_broken}
use Rattle.parties.proofs.client.GateLaws.{gated_shut, Entered, enters, handed}
use Rattle.parties.proofs.client.StartLaws.{ends_three}
use Rattle.parties.proofs.client.ScanLaws.{scan_shut, scan-broken, rows-read, scan-goes}
use Rattle.parties.proofs.client.turn.scan_answer.Goals as goal
use Rattle.parties.proofs.client.turn.scan_answer.Goals.{In_ok-admit, In_ok-directory}

pub admit-requires : goal.admit-requires
admit-requires c =
    let a = c.args in
    λ e.
    leb-true (area_size a.s) (length a.area.now)
    (and-true (leb (area_size a.s) (length a.area.now)) _ (and-true (passes a.s) _ (sym c.area_rows_and_room_long-enough.ensures ∙ e)).1).0

pub returns-in_err-admit : goal.returns-in_err-admit
returns-in_err-admit c =
    let a = c.args in
    let l = c.area_rows_and_room_long-enough in
    let n = c.in_err-admit.field-0.0 in
    rw (handed n _ c.from_residual.ensures.1)
    (ends_three _ _ (scan_shut a.s a.own a.p a.area.now a.rows.now a.room.now (unchanged (refused (number n)) (record_of a.p a.area.now) a.room.now [])
    (gated_shut a.s a.p a.area.now
    (leb (area_size a.s) (length a.area.now) && (leb (a.s.m * row_size a.s) (length a.rows.now) && leb (room_size a.s) (length a.room.now))) l.result
    (ltb a.own a.s.m) l.ensures c.admit.result c.admit.ensures n c.in_err-admit.was a.room.now []
    (λ k. on_rows (rows_verdict a.s a.rows.now) (λ l. scanned_at a.s a.own k a.room.now l k.phase)))))

-- the gate lets the event through
entered : (c : In_ok-admit) → let a = c.args in
    Entered a.s a.p a.area.now
    (leb (area_size a.s) (length a.area.now) && (leb (a.s.m * row_size a.s) (length a.rows.now) && leb (room_size a.s) (length a.room.now))) (ltb a.own a.s.m)
entered c =
    let a = c.args in
    let l = c.area_rows_and_room_long-enough in
    enters a.s a.p a.area.now
    (leb (area_size a.s) (length a.area.now) && (leb (a.s.m * row_size a.s) (length a.rows.now) && leb (room_size a.s) (length a.room.now))) l.result
    (ltb a.own a.s.m) l.ensures c.admit.result c.admit.ensures _ c.in_ok-admit.was (omega arith) (omega arith)
    (λ i. let b : Fits w8 (get_or c.args.area.now i 0) = search rules in b.fits)

long : (c : In_ok-admit) → let a = c.args in (a.s.m * row_size a.s ≤ length a.rows.now) × (room_size a.s ≤ length a.room.now)
long c =
    let a = c.args in
    let m = and-true (leb (a.s.m * row_size a.s) (length a.rows.now)) _ (and-true (leb (area_size a.s) (length a.area.now)) _ (entered c).enough).1 in
    (leb-true (a.s.m * row_size a.s) (length a.rows.now) m.0, leb-true (room_size a.s) (length a.room.now) m.1)

-- and the rows keep their form
sound : (c : In_ok-directory) → let a = c.args in Judged a.s a.rows.now (Ok tt)
sound c = let a = c.args in judged_sound a.s a.rows.now c.directory.result c.directory.ensures tt c.in_ok-directory.was

pub directory-requires : goal.directory-requires
directory-requires c =
    let k = (goal.at.directory-requires c).In_ok-admit in
    (c.row_size-size.ensures, (long k).0)

pub returns-in_err-directory : goal.returns-in_err-directory
returns-in_err-directory c =
    let a = c.args in
    let k = (goal.at.returns-in_err-directory c).In_ok-admit in
    let n = c.in_err-directory.field-0.0 in
    let e = entered k in
    rw (handed n _ c.from_residual-in_err-directory.ensures.1)
    (ends_three _ _ (scan-broken a.s a.own a.p a.area.now a.rows.now a.room.now e.opened e.within e.enough (number n)
    (judged_broken a.s a.rows.now c.directory.result c.directory.ensures n c.in_err-directory.was)))

pub after_scan-requires : goal.after_scan-requires
after_scan-requires c =
    let a = c.args in
    let k = (goal.at.after_scan-requires c).In_ok-admit in
    let e = entered k in (
      ltb-true a.own a.s.m e.within,
      e.opened.reads,
      (long k).0,
      rows-read a.s a.own a.p a.area.now a.rows.now a.room.now e.opened e.within e.enough _ (sound (goal.at.after_scan-requires c).In_ok-directory).0,
      (long k).1,
    )

pub returns-in_err-a : goal.returns-in_err-a
returns-in_err-a c =
    let a = c.args in
    let k = (goal.at.returns-in_err-a c).In_ok-admit in
    let e = entered k in
    let d = sound (goal.at.returns-in_err-a c).In_ok-directory in
    rw (handed c.in_err-a.field-0.0 _ c.from_residual-in_err-a.ensures.1)
    (ends_three _ _ (scan-goes a.s a.own a.p a.area.now a.rows.now a.room.now e.opened e.within e.enough _ d.0 d.1 ∙ sym c.in_err-a.ensures))

pub returns : goal.returns
returns c =
    let a = c.args in
    let k = (goal.at.returns c).In_ok-admit in
    let e = entered k in
    let d = sound (goal.at.returns c).In_ok-directory in
    let r = ends_three _ _ (scan-goes a.s a.own a.p a.area.now a.rows.now a.room.now e.opened e.within e.enough _ d.0 d.1 ∙ sym c.in_ok-a.ensures) in
    (r.0, ap (λ (h : Phase). record_of h c.after_scan.new.area) c.phase_after.ensures ∙ r.1, r.2)
