use Rattle.std.proofs.Common.{Fits, w8, get_or, rules}
use mathlib.Core.Path.{◌≡◌, sym, ◌∙◌}
use mathlib.Core.Bool.{true, ◌&&◌}
use mathlib.Core.List.{[]}
use native.Mathlib.Omega.{arith}
use borrow.Author.Tests.{leb-true}
use lib.Dec.{leb, ltb}
use lib.ListN.{length}
use Rattle.coding.proofs.Cases.{and-true}
use Rattle.parties.specs.protocol.Measures.{passes}
use Rattle.parties.specs.protocol.Answer.{refused}
use Rattle.parties.specs.protocol.Client.{client_size}
use Rattle.parties.specs.protocol.ClientEvents.{unchanged, acknowledged_at, room_size}
use Rattle.parties.specs.records.Answer.{number}
use Rattle.parties.specs.client.Record.{record_of, area_size}
use Rattle.parties.proofs.client.GateLaws.{gated_shut, Entered, enters, handed}
use Rattle.parties.proofs.client.StartLaws.{ends_three, both_long, update_shut, update_other, update-freezing, update-picking}
use Rattle.parties.proofs.client.turn.update_answer.Goals as goal
use Rattle.parties.proofs.client.turn.update_answer.Goals.{In_ok-admit, in-3, in-5}

pub admit-requires : goal.admit-requires
admit-requires c =
    let a = c.args in
    λ e.
    leb-true (area_size a.s) (length a.area.now)
    (and-true (leb (area_size a.s) (length a.area.now)) _ (and-true (passes a.s) _ (sym c.area_and_room_long-enough.ensures ∙ e)).1).0

pub returns-in_err-admit : goal.returns-in_err-admit
returns-in_err-admit c =
    let a = c.args in
    let l = c.area_and_room_long-enough in
    let n = c.in_err-admit.field-0.0 in
    rw (handed n _ c.from_residual.ensures.1)
    (ends_three _ _ (update_shut a.s a.own a.p a.area.now a.room.now (unchanged (refused (number n)) (record_of a.p a.area.now) a.room.now [])
    (gated_shut a.s a.p a.area.now (leb (area_size a.s) (length a.area.now) && leb (room_size a.s) (length a.room.now)) l.result (ltb a.own a.s.m)
    l.ensures c.admit.result c.admit.ensures n c.in_err-admit.was a.room.now [] (λ k. acknowledged_at k a.room.now k.phase))))

-- the gate lets the event through
entered : (c : In_ok-admit) → let a = c.args in
    Entered a.s a.p a.area.now (leb (area_size a.s) (length a.area.now) && leb (room_size a.s) (length a.room.now)) (ltb a.own a.s.m)
entered c =
    let a = c.args in
    let l = c.area_and_room_long-enough in
    enters a.s a.p a.area.now (leb (area_size a.s) (length a.area.now) && leb (room_size a.s) (length a.room.now)) l.result (ltb a.own a.s.m) l.ensures
    c.admit.result c.admit.ensures _ c.in_ok-admit.was (omega arith) (omega arith)
    (λ i. let b : Fits w8 (get_or c.args.area.now i 0) = search rules in b.fits)

long : (c : In_ok-admit) → let a = c.args in (leb (client_size a.s) (length (record_of a.p a.area.now)) && leb (room_size a.s) (length a.room.now)) ≡ true
long c = let a = c.args in both_long a.s a.own a.p a.area.now a.room.now ∙ (entered c).enough

pub returns-in_default : goal.returns-in_default
returns-in_default c =
    let a = c.args in
    let k = (goal.at.returns-in_default c).In_ok-admit in
    let e = entered k in
    ends_three _ _ (update_other a.s a.own a.p a.area.now e.opened e.within a.room.now (long k) (λ x. omega arith) (λ x. omega arith))

pub returns : goal.returns
returns c =
    let a = c.args in
    let k = (goal.at.returns c).In_ok-admit in
    let e = entered k in
    elim c.match-p.branch [
      | in-3 w ↦ rw w.step-is (ends_three _ _ (update-freezing a.s a.own a.p a.area.now e.opened e.within a.room.now (long k) w.in-3.is))
      | in-5 w ↦ rw w.step-is (ends_three _ _ (update-picking a.s a.own a.p a.area.now e.opened e.within a.room.now (long k) w.in-5.is))
    ]
