use mathlib.Core.Path.{◌≡◌, sym, ap, ◌∙◌}
use mathlib.Core.List.{List}
use Prim.Native.Nat.{ℕ, ◌+◌, ◌-◌, ◌*◌}
use native.Mathlib.Omega.{arith}
use lib.ListN.{length, replicate, length-replicate}
use lib.Seq.{paste, length-paste}
use Rattle.parties.specs.protocol.Measures.{pointer_size}
use Rattle.parties.specs.client.Record.{record_of, marked}
use Rattle.parties.proofs.client.FormLaws.{sizes}
use Rattle.parties.proofs.client.StartLaws.{ends-two}
use Rattle.parties.proofs.client.FreshLaws.{length_marked, fresh-measures, fresh-short, freshened, fresh-written}
use Rattle.parties.proofs.client.turn.fresh_client.Goals as goal

pub returns-then-not-pass : goal.returns-then-not-pass
returns-then-not-pass c =
    let a = c.args in
    ends-two _ _ (fresh-measures a.s a.p a.area.now (sym c.pass.ensures ∙ c.if-not-pass.true))

pub returns-then-area-size : goal.returns-then-area-size
returns-then-area-size c =
    let a = c.args in
    ends-two _ _ (fresh-short a.s a.p a.area.now (sym c.pass.ensures ∙ c.if-not-pass.false)
    (omega (arith, c.area_size-size.ensures, c.if-area-size.true)))

pub overflow_mul-pointers : goal.overflow_mul-pointers
overflow_mul-pointers c =
    let z = sizes c.args.s (sym c.pass.ensures
    ∙ c.if-not-pass.false)
    in
    omega (arith, z.pointers, ap (λ (x : ℕ). (c.args.s.m + 1) * x) c.pointer_size-width.ensures)

pub put_none-requires : goal.put_none-requires
put_none-requires c =
    let clear_length : length c.clear.new.t ≡ length c.args.area.now =
    let a = c.args in
    let n = c.area_size-size.result - 0 in
    ap length c.clear.ensures
    ∙ length-paste a.area.now 0 (replicate n 0) n (omega (arith, c.if-area-size.false)) (omega (arith, length-replicate {A = ℕ} n 0)) in
    let times : let a = c.args in (a.s.m + 1) * c.pointer_size-width.result ≡ (a.s.m + 1) * pointer_size a.s =
    ap (λ (x : ℕ). (c.args.s.m + 1) * x) c.pointer_size-width.ensures in (
      omega (arith, c.pointer_size-width.ensures),
      omega (arith, clear_length, times, c.area_size-size.ensures, c.if-area-size.false),
    )

pub put_none-requires-2 : goal.put_none-requires-2
put_none-requires-2 c =
    let clear_length : length c.clear.new.t ≡ length c.args.area.now =
    let a = c.args in
    let n = c.area_size-size.result - 0 in
    ap length c.clear.ensures
    ∙ length-paste a.area.now 0 (replicate n 0) n (omega (arith, c.if-area-size.false)) (omega (arith, length-replicate {A = ℕ} n 0)) in
    let times : let a = c.args in (a.s.m + 1) * c.pointer_size-width.result ≡ (a.s.m + 1) * pointer_size a.s =
    ap (λ (x : ℕ). (c.args.s.m + 1) * x) c.pointer_size-width.ensures in
    let k : length c.put_none.new.t ≡ length c.clear.new.t =
    ap length c.put_none.ensures ∙ length_marked c.clear.new.t 0 c.pointer_size-width.result
    (c.args.s.m + 1)
    in
    (omega arith, omega (arith, k, clear_length, times, c.area_size-size.ensures, c.if-area-size.false))

pub returns : goal.returns
returns c =
    let a = c.args in
    let t = a.area.now in
    let e = ends-two _ _ (fresh-written a.s a.p t (sym c.pass.ensures ∙ c.if-not-pass.false)
    (omega (arith, c.area_size-size.ensures, c.if-area-size.false)))
    in
    let x : c.put_none-2.new.t ≡ freshened a.s a.p t =
    c.put_none-2.ensures
    ∙ ap (λ (l : List ℕ). marked l ((a.s.m + 1) * c.pointer_size-width.result) 5 a.s.m) c.put_none.ensures
    ∙ ap (λ (l : List ℕ). marked (marked l 0 c.pointer_size-width.result (a.s.m + 1)) ((a.s.m + 1) * c.pointer_size-width.result) 5 a.s.m)
    c.clear.ensures
    ∙ (λ i. marked (marked (paste t 0 (replicate (c.area_size-size.ensures i - 0) 0) (c.area_size-size.ensures i - 0)) 0
    (c.pointer_size-width.ensures i) (a.s.m + 1))
    ((a.s.m + 1) * c.pointer_size-width.ensures i) 5 a.s.m)
    in
    (e.0, ap (λ (l : List ℕ). record_of (record { step = 0; reading = record { 0 = 0 } }) l) x ∙ e.1)
