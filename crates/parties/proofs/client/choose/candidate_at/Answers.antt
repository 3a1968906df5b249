use mathlib.Core.Path.{◌∙◌}
use Prim.Native.Nat.{◌+◌}
use native.Mathlib.Omega.{arith}
use Rattle.parties.proofs.client.ChooseLaws.{front_reads, others_read, index-room, picked_whole, offered_picks}
use Rattle.parties.proofs.client.choose.candidate_at.Goals as goal

pub past-frozen-requires : goal.past-frozen-requires
past-frozen-requires c =
    let a = c.args in
    let p = c.requires in
    (omega (arith, p.1), front_reads a.s.measures a.own a.index a.rows.now a.at (λ i. (c.type_inv.rows i).fits) p.0 p.2)

pub past-indices-requires : goal.past-indices-requires
past-indices-requires c =
    let a = c.args in
    let p = c.requires in
    let f = c.past-frozen in (
      f.ensures.1,
      others_read a.s.measures a.own a.index a.rows.now a.at (λ i. (c.type_inv.rows i).fits) p.0 p.2 f.result f.ensures.0,
    )

pub u32_at-i-requires : goal.u32_at-i-requires
u32_at-i-requires c =
    let a = c.args in
    let p = c.requires in
    let f = c.past-frozen in
    let g = c.past-indices in
    index-room a.s.measures a.own a.index a.rows.now a.at (λ i. (c.type_inv.rows i).fits) p.0 p.2 f.result f.ensures.0 g.result
    g.ensures.0 g.ensures.1

pub returns : goal.returns
returns c =
    let a = c.args in
    let p = c.requires in
    let f = c.past-frozen in
    let g = c.past-indices in
    let u = c.u32_at-i in
    c.picked.ensures
    ∙ picked_whole a.rows.now (a.at + 1) f.result a.index (record { 0 = u.result })
    ∙ offered_picks a.s.measures a.own a.index a.rows.now a.at (λ i. (c.type_inv.rows i).fits) p.0 p.2 f.result f.ensures.0
    g.result g.ensures.0 u.result _ u.ensures
