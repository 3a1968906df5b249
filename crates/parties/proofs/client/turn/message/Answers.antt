use Rattle.std.proofs.Common.{Fits, w8, get_or, rules}
use mathlib.Core.Path.{sym, ap, ◌∙◌}
use mathlib.Core.Bool.{◌&&◌}
use Prim.Native.Nat.{◌-◌, ◌*◌}
use native.Mathlib.Omega.{arith}
use borrow.Author.Tests.{leb-true}
use lib.Dec.{leb}
use lib.ListN.{length}
use Rattle.coding.proofs.Cases.{and-true}
use Rattle.parties.specs.protocol.Measures.{passes}
use Rattle.parties.specs.protocol.Message.{read_to_client}
use Rattle.parties.specs.protocol.ClientEvents.{room_size, on_message, message_at}
use Rattle.parties.specs.declared.Phase.{Phase}
use Rattle.parties.specs.client.Record.{record_of, area_size}
use Rattle.parties.proofs.client.GateLaws.{gated_shut, Entered, enters, handed}
use Rattle.parties.proofs.client.MessageLaws.{message_guarded, message_through, message_room, message_node}
use Rattle.parties.proofs.client.StartLaws.{ends-four}
use Rattle.parties.specs.client.Receive.{received_end}
use Rattle.parties.proofs.client.turn.message.Goals as goal
use Rattle.parties.proofs.client.turn.message.Goals.{In_ok-admit}

pub admit-requires : goal.admit-requires
admit-requires c =
    let a = c.args in
    λ e.
    leb-true (area_size a.s) (length a.area.now)
    (and-true (leb (area_size a.s) (length a.area.now)) _ (and-true (passes a.s) _ (sym c.area_room_and_output_long-enough.ensures ∙ e)).1).0

pub returns-in_err-admit : goal.returns-in_err-admit
unfolding received_end
returns-in_err-admit c =
    let a = c.args in
    let l = c.area_room_and_output_long-enough in
    let w = c.numbered-within in
    let n = c.in_err-admit.field-0.0 in
    rw (handed n _ c.from_residual.ensures.1)
    (ends-four _ _ (message_guarded a.s a.own a.i a.p a.area.now a.message.now a.room.now a.out.now w.result w.ensures
    ∙ gated_shut a.s a.p a.area.now
    (leb (area_size a.s) (length a.area.now) && (leb (room_size a.s) (length a.room.now) && leb (a.s.k * a.s.f - 4) (length a.out.now))) l.result w.result
    l.ensures c.admit.result c.admit.ensures n c.in_err-admit.was a.room.now a.out.now
    (λ k. on_message (read_to_client a.s a.message.now) (λ m. message_at a.s a.i k a.room.now a.out.now m))))

-- the gate lets the event through
entered : (c : In_ok-admit) → let a = c.args in
    Entered a.s a.p a.area.now
    (leb (area_size a.s) (length a.area.now) && (leb (room_size a.s) (length a.room.now) && leb (a.s.k * a.s.f - 4) (length a.out.now))) c.numbered-within.result
entered c =
    let a = c.args in
    let l = c.area_room_and_output_long-enough in
    enters a.s a.p a.area.now
    (leb (area_size a.s) (length a.area.now) && (leb (room_size a.s) (length a.room.now) && leb (a.s.k * a.s.f - 4) (length a.out.now))) l.result
    c.numbered-within.result l.ensures c.admit.result c.admit.ensures _ c.in_ok-admit.was (omega arith) (omega arith)
    (λ i. let b : Fits w8 (get_or c.args.area.now i 0) = search rules in b.fits)

pub receive-requires : goal.receive-requires
receive-requires c =
    let a = c.args in
    let w = c.numbered-within in
    let e = entered (goal.at.receive-requires c).In_ok-admit in
    let i = message_node a.s a.own a.i a.p a.area.now a.message.now a.room.now a.out.now w.result w.ensures e.within in
    let l = message_room a.s a.own a.i a.p a.area.now a.message.now a.room.now a.out.now w.result w.ensures e.enough in
    (i.0, i.1, e.opened.reads, l.0, l.1)

pub returns-in_err-a : goal.returns-in_err-a
returns-in_err-a c =
    let a = c.args in
    let w = c.numbered-within in
    let e = entered (goal.at.returns-in_err-a c).In_ok-admit in
    rw (handed c.in_err-a.field-0.0 _ c.from_residual-in_err-a.ensures.1)
    (ends-four _ _ (message_through a.s a.own a.i a.p a.area.now a.message.now a.room.now a.out.now w.result w.ensures e.opened.measures e.enough e.within
    ∙ sym c.in_err-a.ensures))

pub returns : goal.returns
returns c =
    let a = c.args in
    let w = c.numbered-within in
    let e = entered (goal.at.returns c).In_ok-admit in
    let r = ends-four _ _ (message_through a.s a.own a.i a.p a.area.now a.message.now a.room.now a.out.now w.result w.ensures e.opened.measures e.enough e.within
    ∙ sym c.in_ok-a.ensures) in
    (r.0, ap (λ (h : Phase). record_of h c.receive.new.area) c.phase_after.ensures ∙ r.1, r.2, r.3)
