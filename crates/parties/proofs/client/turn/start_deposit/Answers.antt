use Rattle.std.proofs.Common.{Fits, w8, get_or, rules}
use mathlib.Core.Path.{◌≡◌, ap, ◌∙◌}
use mathlib.Core.Bool.{true}
use mathlib.Core.List.{List, []}
use Prim.Native.Nat.{ℕ, ◌+◌, ◌≤◌}
use native.Mathlib.Omega.{arith}
use borrow.Author.Tests.{leb-true}
use lib.Dec.{leb, ltb}
use lib.ListN.{length}
use lib.Seq.{paste, length-paste}
use Rattle.parties.specs.protocol.Answer.{refused}
use Rattle.parties.specs.protocol.Format.{write_number}
use Rattle.parties.specs.protocol.Client.{client_size}
use Rattle.parties.specs.protocol.ClientEvents.{unchanged, begin_deposit}
use Rattle.parties.proofs.protocol.formats.PointerLaws.{length-number}
use Rattle.parties.specs.records.Answer.{number}
use Rattle.parties.specs.client.Record.{record_of, area_size, work_at}
use Rattle.parties.proofs.client.FormLaws.{sizes}
use Rattle.parties.proofs.client.GateLaws.{long_record, gated_shut, Entered, enters, handed}
use Rattle.parties.proofs.client.StartLaws.{ends-two, deposit_shut, deposit_busy, deposit-long, deposit-begun}
use Rattle.parties.proofs.client.turn.start_deposit.Goals as goal
use Rattle.parties.proofs.client.turn.start_deposit.Goals.{In_ok-admit}

pub returns-in_err-admit : goal.returns-in_err-admit
returns-in_err-admit c =
    let a = c.args in
    let l = c.area_long-enough in
    let n = c.in_err-admit.field-0.0 in
    rw (handed n _ c.from_residual.ensures.1)
    (ends-two _ _ (deposit_shut a.s a.own a.p a.area.now a.page.now (unchanged (refused (number n)) (record_of a.p a.area.now) [] [])
    (gated_shut a.s a.p a.area.now (leb (area_size a.s) (length a.area.now)) l.result (ltb a.own a.s.m) l.ensures c.admit.result c.admit.ensures n
    c.in_err-admit.was [] [] (λ k. begin_deposit a.s k a.page.now))))

-- the gate lets the event through
entered : (c : In_ok-admit) → let a = c.args in Entered a.s a.p a.area.now (leb (area_size a.s) (length a.area.now)) (ltb a.own a.s.m)
entered c =
    let a = c.args in
    enters a.s a.p a.area.now (leb (area_size a.s) (length a.area.now)) c.area_long-enough.result (ltb a.own a.s.m) c.area_long-enough.ensures
    c.admit.result c.admit.ensures _ c.in_ok-admit.was (omega arith) (omega arith) (λ i. let b : Fits w8 (get_or c.args.area.now i 0) = search rules in b.fits)

long : (c : In_ok-admit) → let a = c.args in leb (client_size a.s) (length (record_of a.p a.area.now)) ≡ true
long c = let a = c.args in long_record a.s a.p a.area.now ∙ (entered c).enough

area_fits : (c : In_ok-admit) → let a = c.args in area_size a.s ≤ length a.area.now
area_fits c = let a = c.args in leb-true (area_size a.s) (length a.area.now) (entered c).enough

pub returns-then-p-ne-IDLE : goal.returns-then-p-ne-IDLE
returns-then-p-ne-IDLE c =
    let a = c.args in
    let k = (goal.at.returns-then-p-ne-IDLE c).In_ok-admit in
    let e = entered k in
    ends-two _ _ (deposit_busy a.s a.own a.p a.area.now e.opened e.within a.page.now (long k) c.if-p-ne-IDLE.true)

pub overflow_mul-s : goal.overflow_mul-s
overflow_mul-s c = omega (arith, (sizes c.args.s (entered (goal.at.overflow_mul-s c).In_ok-admit).opened.measures).frame)

pub overflow_sub-s : goal.overflow_sub-s
overflow_sub-s c = omega (arith, (sizes c.args.s (entered (goal.at.overflow_sub-s c).In_ok-admit).opened.measures).frame)

pub returns-then-s-n : goal.returns-then-s-n
returns-then-s-n c =
    let a = c.args in
    let k = (goal.at.returns-then-s-n c).In_ok-admit in
    let e = entered k in
    ends-two _ _ (deposit-long a.s a.own a.p a.area.now e.opened e.within a.page.now (long k) c.if-p-ne-IDLE.false c.if-s-n.true)

pub overflow_cast-n : goal.overflow_cast-n
overflow_cast-n c = omega (arith, (sizes c.args.s (entered (goal.at.overflow_cast-n c).In_ok-admit).opened.measures).frame, c.if-s-n.false)

pub put_u32-requires : goal.put_u32-requires
put_u32-requires c = omega (arith, area_fits (goal.at.put_u32-requires c).In_ok-admit, c.work_at-at.ensures)

pub overflow_add-at : goal.overflow_add-at
overflow_add-at c = omega (arith, area_fits (goal.at.overflow_add-at c).In_ok-admit, c.work_at-at.ensures)

pub copy-requires : goal.copy-requires
copy-requires c =
    let a = c.args in
    let k = (goal.at.copy-requires c).In_ok-admit in
    let n = length a.page.now in
    let z = sizes a.s (entered k).opened.measures in
    let l = area_fits k in
    let same : length c.put_u32.new.t ≡ length a.area.now =
    ap length c.put_u32.ensures
    ∙ length-paste a.area.now c.work_at-at.result (write_number 4 n) 4
    (omega (arith, l, c.work_at-at.ensures)) (omega (arith, length-number 4 n))
    in
    (omega (arith, l, same, c.work_at-at.ensures, c.if-s-n.false, z.frame, z.pieces), omega arith)

pub returns : goal.returns
returns c =
    let a = c.args in
    let k = (goal.at.returns c).In_ok-admit in
    let e = entered k in
    let n = length a.page.now in
    let z = ends-two _ _ (deposit-begun a.s a.own a.p a.area.now e.opened e.within a.page.now (long k) c.if-p-ne-IDLE.false
    (λ i. (c.type_inv.page i).fits) c.if-s-n.false)
    in
    let x : c.copy.new.dst ≡ paste (paste a.area.now (work_at a.s) (write_number 4 n) 4) (work_at a.s + 4) a.page.now n =
    c.copy.ensures ∙ ap (λ (l : List ℕ). paste l (c.work_at-at.result + 4) a.page.now n) c.put_u32.ensures
    ∙ ap (λ (j : ℕ). paste (paste a.area.now j (write_number 4 n) 4) (j + 4) a.page.now n) c.work_at-at.ensures
    in
    (z.0, ap (λ (l : List ℕ). record_of (record { step = 1; reading = a.p.reading }) l) x ∙ z.1)
