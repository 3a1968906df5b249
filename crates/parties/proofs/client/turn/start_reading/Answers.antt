use Rattle.std.proofs.Common.{Fits, w8, get_or, rules}
use mathlib.Core.Path.{◌≡◌, sym, ap, ◌∙◌}
use mathlib.Core.Bool.{true, ◌&&◌}
use mathlib.Core.List.{[]}
use Prim.Native.Nat.{◌≤◌}
use native.Mathlib.Omega.{arith}
use borrow.Author.Tests.{leb-true}
use lib.Dec.{leb, ltb}
use lib.ListN.{length, set, length-set}
use lib.Seq.{length-paste}
use Rattle.std.specs.Prelude.{Option, Err}
use Rattle.std.specs.Option.{ok_or}
use Rattle.coding.proofs.Cases.{and-true}
use Rattle.parties.specs.declared.ReadingIndex.{ReadingIndex}
use Rattle.parties.specs.declared.Refusal.{Refusal}
use Rattle.parties.specs.protocol.Version.{next_index}
use Rattle.parties.specs.protocol.Measures.{passes}
use Rattle.parties.specs.protocol.Answer.{refused}
use Rattle.parties.specs.protocol.Format.{write_number}
use Rattle.parties.specs.protocol.Client.{client_size}
use Rattle.parties.specs.protocol.ClientEvents.{unchanged, begin_reading, room_size}
use Rattle.parties.proofs.protocol.formats.PointerLaws.{length-number}
use Rattle.parties.specs.records.Answer.{number}
use Rattle.parties.specs.client.Record.{record_of, area_size}
use Rattle.parties.proofs.client.GateLaws.{gated_shut, Entered, enters, handed, some_result, none_result}
use Rattle.parties.proofs.client.StartLaws.{ends_three, both_long, reading_shut, reading_busy, reading-spent, reading_raised}
use Rattle.parties.proofs.client.turn.start_reading.Goals as goal
use Rattle.parties.proofs.client.turn.start_reading.Goals.{In_ok-admit}

pub admit-requires : goal.admit-requires
admit-requires c =
    let a = c.args in
    λ e.
    leb-true (area_size a.s) (length a.area.now)
    (and-true (leb (area_size a.s) (length a.area.now)) _ (and-true (passes a.s) _ (sym c.area_and_room_long-enough.ensures ∙ e)).1).0

pub returns-in_err-admit : goal.returns-in_err-admit
returns-in_err-admit c =
    let a = c.args in
    let l = c.area_and_room_long-enough in
    let n = c.in_err-admit.field-0.0 in
    rw (handed n _ c.from_residual.ensures.1)
    (ends_three _ _ (reading_shut a.s a.own a.p a.area.now a.room.now (unchanged (refused (number n)) (record_of a.p a.area.now) a.room.now [])
    (gated_shut a.s a.p a.area.now (leb (area_size a.s) (length a.area.now) && leb (room_size a.s) (length a.room.now)) l.result (ltb a.own a.s.m)
    l.ensures c.admit.result c.admit.ensures n c.in_err-admit.was a.room.now [] (λ k. begin_reading k a.room.now))))

-- the gate lets the event through
entered : (c : In_ok-admit) → let a = c.args in
    Entered a.s a.p a.area.now (leb (area_size a.s) (length a.area.now) && leb (room_size a.s) (length a.room.now)) (ltb a.own a.s.m)
entered c =
    let a = c.args in
    let l = c.area_and_room_long-enough in
    enters a.s a.p a.area.now (leb (area_size a.s) (length a.area.now) && leb (room_size a.s) (length a.room.now)) l.result (ltb a.own a.s.m) l.ensures
    c.admit.result c.admit.ensures _ c.in_ok-admit.was (omega arith) (omega arith)
    (λ i. let b : Fits w8 (get_or c.args.area.now i 0) = search rules in b.fits)

long : (c : In_ok-admit) → let a = c.args in (leb (client_size a.s) (length (record_of a.p a.area.now)) && leb (room_size a.s) (length a.room.now)) ≡ true
long c = let a = c.args in both_long a.s a.own a.p a.area.now a.room.now ∙ (entered c).enough

pub returns-then-p-ne-IDLE : goal.returns-then-p-ne-IDLE
returns-then-p-ne-IDLE c =
    let a = c.args in
    let k = (goal.at.returns-then-p-ne-IDLE c).In_ok-admit in
    let e = entered k in
    ends_three _ _ (reading_busy a.s a.own a.p a.area.now e.opened e.within a.room.now (long k) c.if-p-ne-IDLE.true)

pub returns-in_err-i : goal.returns-in_err-i
returns-in_err-i c =
    let a = c.args in
    let k = (goal.at.returns-in_err-i c).In_ok-admit in
    let e = entered k in
    let none : ok_or (next_index a.p.reading) Refusal.Spent ≡ Err c.in_err-i.field-0.0 =
    ap (λ (o : Option ReadingIndex). ok_or o Refusal.Spent) (sym c.next.ensures) ∙ sym c.ok_or.ensures.value ∙ c.in_err-i.was in
    let gone = none_result _ none in
    rw (handed c.in_err-i.field-0.0 _ c.from_residual-in_err-i.ensures.1)
    (rw gone.1 (ends_three _ _ (reading-spent a.s a.own a.p a.area.now e.opened e.within a.room.now (long k) c.if-p-ne-IDLE.false gone.0)))

room_long : (c : In_ok-admit) → 5 ≤ length c.args.room.now
room_long c =
    let a = c.args in
    let l = leb-true (room_size a.s) (length a.room.now) (and-true (leb (client_size a.s) (length (record_of a.p a.area.now))) _ (long c)).1 in
    omega (arith, l)

pub bounds-room-0 : goal.bounds-room-0
bounds-room-0 c = omega (arith, room_long (goal.at.bounds-room-0 c).In_ok-admit)

pub put_u32-requires : goal.put_u32-requires
put_u32-requires c = omega (arith, room_long (goal.at.put_u32-requires c).In_ok-admit, length-set c.args.room.now 0 8)

pub shape_of-room : goal.shape_of-room
shape_of-room c =
    let room = c.args.room.now in
    let i = c.in_ok-i.i.0 in
    let l = room_long (goal.at.shape_of-room c).In_ok-admit in
    ap length c.put_u32.ensures
    ∙ length-paste (set room 0 8) 1 (write_number 4 i) 4 (omega (arith, l, length-set room 0 8)) (omega (arith, length-number 4 i))
    ∙ length-set room 0 8

pub returns : goal.returns
returns c =
    let a = c.args in
    let k = (goal.at.returns c).In_ok-admit in
    let e = entered k in
    let z = ends_three _ _ (reading_raised a.s a.own a.p a.area.now e.opened e.within a.room.now (long k) c.if-p-ne-IDLE.false c.in_ok-i.i
    (some_result _ (ap (λ (o : Option ReadingIndex). ok_or o Refusal.Spent) (sym c.next.ensures) ∙ sym c.ok_or.ensures.value ∙ c.in_ok-i.was)) (room_long k))
    in
    (z.0, z.1, c.put_u32.ensures ∙ z.2)
