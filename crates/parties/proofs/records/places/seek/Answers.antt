use mathlib.Core.Path.{sym, ◌∙◌}
use Prim.Native.Nat.{◌+◌, ◌-◌, ◌*◌}
use native.Mathlib.Omega.{arith}
use Rattle.parties.proofs.node.SeekLaws.{rank_end, rank-found, rank_turn}
use Rattle.parties.proofs.records.places.seek.Goals as goal

pub returns-then-not-below : goal.returns-then-not-below
returns-then-not-below c =
    let a = c.args in
    let l = c.loop-j in
    let r = rank-found a.z a.t.now a.v (a.from + l.j * a.z) (a.count - l.j) c.version_at.result c.version_at.ensures (omega arith)
    (sym c.below.ensures ∙ c.if-not-below.true)
    in
    omega (arith, r)

pub loop-j-preserved : goal.loop-j-preserved
loop-j-preserved c =
    let a = c.args in
    let l = c.loop-j in
    let r = rank_turn a.z a.t.now a.v a.from a.count l.j c.loop-j-test.true c.version_at.result c.version_at.ensures
    (sym c.below.ensures ∙ c.if-not-below.false)
    in
    omega (arith, r)

pub returns : goal.returns
returns c =
    let a = c.args in
    let l = c.loop-j in
    let r = rank_end a.z a.t.now a.v (a.from + l.j * a.z) (a.count - l.j) (omega arith) in omega (arith, r)
