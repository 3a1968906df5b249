use mathlib.Core.Path.{◌≡◌, sym, ap, subst, ◌∙◌}
use mathlib.Core.Bool.{true, cond}
use Prim.Native.Nat.{ℕ, ◌+◌, ◌-◌, ◌*◌, ◌<◌, ◌≤◌}
use native.Mathlib.Omega.{arith}
use lib.ListN.{length, drop}
use Rattle.parties.specs.protocol.Measures.{row_size}
use Rattle.parties.specs.protocol.Version.{below}
use Rattle.parties.specs.protocol.Directory.{read_row, read_directory}
use Rattle.parties.specs.protocol.Reading.{pick}
use Rattle.parties.specs.declared.client.choose.Offer.{Offer}
use Rattle.parties.specs.client.Record.{is_some}
use Rattle.parties.specs.client.Draw.{rows_of}
use Rattle.parties.specs.client.Choose.{offered}
use Rattle.parties.proofs.records.SizeLaws.{table_bound, below_rows}
use Rattle.parties.proofs.client.ChooseLaws.{Chosen, row_there, chosen_last, chosen_turn}
use Rattle.parties.proofs.client.choose.pick_row.Goals as goal

pub overflow_sub-last : goal.overflow_sub-last
overflow_sub-last c = omega (arith, c.requires.0)

pub overflow_mul-last : goal.overflow_mul-last
overflow_mul-last c =
    let a = c.args in
    let p = c.requires in
    let l : a.s.measures.m - 1 < a.s.measures.m = omega (arith, p.0) in
    omega (arith, ap (λ (k : ℕ). (a.s.measures.m - 1) * k) c.row_size-size.ensures, below_rows (a.s.measures.m - 1) a.s.measures.m (row_size a.s.measures) l, table_bound a.s.measures c.args.s.pass)

pub offer_at-best-requires : goal.offer_at-best-requires
offer_at-best-requires c =
    let a = c.args in
    let p = c.requires in
    let t = a.rows.now in
    let i = a.s.measures.m - 1 in
    let l : a.s.measures.m - 1 < a.s.measures.m = omega (arith, p.0) in
    let x = subst (λ (k : ℕ). (i * k + row_size a.s.measures ≤ length t) × (is_some (read_row a.s.measures (drop (i * k) t)) ≡ true)) (sym c.row_size-size.ensures)
    (row_there a.s.measures a.own a.index t (λ i. (c.type_inv.rows i).fits) p.0 p.1 p.2 i l) in
    (p.0, x.0, x.1)

pub loop-i-init : goal.loop-i-init
loop-i-init c =
    let a = c.args in
    let p = c.requires in
    let t = a.rows.now in
    let i = a.s.measures.m - 1 in
    let e = c.offer_at-best.ensures
    ∙ ap (λ (k : ℕ). record { row = i * k; version = (offered a.s.measures a.own a.index t (i * k)).version }) c.row_size-size.ensures in
    subst (Chosen a.s.measures a.own a.index t i) (sym e)
    (chosen_last a.s.measures a.own a.index t (λ i. (c.type_inv.rows i).fits) p.0 p.1 p.2 (omega (arith, p.0)))

pub overflow_mul-i : goal.overflow_mul-i
overflow_mul-i c =
    let s = c.args.s.measures in
    let p = c.requires in
    let i = c.loop-i.i - 1 in
    let l : c.loop-i.i - 1 < s.m = omega (arith, p.0) in
    omega (arith, ap (λ (k : ℕ). i * k) c.row_size-size.ensures, below_rows i s.m (row_size s) l, table_bound s c.args.s.pass)

pub offer_at-new-requires : goal.offer_at-new-requires
offer_at-new-requires c =
    let a = c.args in
    let p = c.requires in
    let t = a.rows.now in
    let i = c.loop-i.i - 1 in
    let l : c.loop-i.i - 1 < a.s.measures.m = omega (arith, p.0) in
    let y = subst (λ (k : ℕ). (i * k + row_size a.s.measures ≤ length t) × (is_some (read_row a.s.measures (drop (i * k) t)) ≡ true)) (sym c.row_size-size.ensures)
    (row_there a.s.measures a.own a.index t (λ i. (c.type_inv.rows i).fits) p.0 p.1 p.2 i l) in
    (p.0, y.0, y.1)

pub loop-i-preserved : goal.loop-i-preserved
loop-i-preserved c =
    let a = c.args in
    let p = c.requires in
    let t = a.rows.now in
    let i = c.loop-i.i - 1 in
    let best = c.loop-i.best in
    let e = c.offer_at-new.ensures
    ∙ ap (λ (k : ℕ). record { row = i * k; version = (offered a.s.measures a.own a.index t (i * k)).version }) c.row_size-size.ensures in
    let q = c.better-best.ensures ∙ ap (λ (n : Offer). cond (below n.version best.version) best n) e in
    subst (Chosen a.s.measures a.own a.index t i) (sym q)
    (chosen_turn a.s.measures a.own a.index t (λ i. (c.type_inv.rows i).fits) p.0 p.1 p.2 c.loop-i.i best c.loop-i-test.true (omega (arith, p.0)) c.loop-i.invariant)

pub returns : goal.returns
returns c =
    let a = c.args in
    let t = a.rows.now in
    let h = c.loop-i.invariant in
    let z : c.loop-i.i ≡ 0 = omega (arith, c.loop-i-test.false) in
    (sym h.picked ∙ ap (λ (k : ℕ). pick a.own a.index (drop k (rows_of (read_directory a.s.measures t)))) z, h.fits, h.reads)
