use mathlib.Core.Path.{◌≡◌, ap, ◌∙◌}
use Prim.Native.Nat.{ℕ, suc, ◌-◌}
use mathlib.Core.Bool.{cond}
use lib.Dec.{ltb}
use Rattle.std.proofs.lemmas.Grind.{common_steps}
use native.Mathlib.Omega.{arith}
use lib.ListN.{drop}
use Rattle.parties.specs.protocol.Directory.{read_directory}
use Rattle.parties.specs.protocol.Deposit.{highest}
use Rattle.parties.specs.client.Draw.{rows_of}
use Rattle.parties.proofs.client.DrawLaws.{rows-count, top_none, top_more}
use Rattle.parties.proofs.client.draw.highest.Goals as goal

pub loop-i-init : goal.loop-i-init
loop-i-init c =
    let a = c.args in
    top_none (rows_of (read_directory a.s.measures a.rows.now)) a.s.measures.m (rows-count a.s.measures a.rows.now (λ i. (c.type_inv.rows i).fits) c.requires)

pub loop-i-preserved : goal.loop-i-preserved
loop-i-preserved c =
    let a = c.args in
    let l = rows_of (read_directory a.s.measures a.rows.now) in
    let i = c.loop-i.i in
    let e : i ≡ suc (i - 1) = omega arith in
    let q = c.written_sequence-q.result in
    let top = c.loop-i.top in
    let m : c.max-top.result ≡ cond (ltb top.0 q.0) q top = grind (arith, common_steps, c.max-top.ensures) in
    m
    ∙ top_more l a.s.measures.m (rows-count a.s.measures a.rows.now (λ j. (c.type_inv.rows j).fits) c.requires) (i - 1) (omega arith)
    c.written_sequence-q.result c.loop-i.top c.written_sequence-q.ensures
    (c.loop-i.invariant ∙ ap (λ (k : ℕ). highest (drop k l)) e)

pub returns : goal.returns
returns c =
    let a = c.args in
    let z : c.loop-i.i ≡ 0 = omega arith in
    c.loop-i.invariant ∙ ap (λ (k : ℕ). highest (drop k (rows_of (read_directory a.s.measures a.rows.now)))) z
