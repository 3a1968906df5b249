use native.Mathlib.Omega.{arith}
use Rattle.parties.proofs.client.FormLaws.{sizes}
use Rattle.parties.proofs.client.GatherLaws.{walk_none, walk_down, walk_length, walk_more, walk_all}
use Rattle.parties.proofs.client.publish.gather.Goals as goal

pub loop-i-init : goal.loop-i-init
loop-i-init c = walk_none _ _ _ _ c.requires.1

pub keep_digest-to-requires : goal.keep_digest-to-requires
keep_digest-to-requires c =
    let a = c.args in
    let q = c.requires in
    let l = c.loop-i in
    let z = (sizes a.s.measures c.args.s.pass).nodes in
    (omega arith, walk_down _ _ _ _ q.1 _ _ _ l.invariant, omega (arith, q.1, walk_length _ _ _ _ q.1 _ _ _ l.invariant))

pub loop-i-preserved : goal.loop-i-preserved
loop-i-preserved c =
    let k = c.keep_digest-to in
    walk_more _ _ _ _ c.requires.1 _ _ _ c.loop-i.invariant c.loop-i-test.true _ _ k.ensures.0 k.ensures.1

pub shape_of-area : goal.shape_of-area
shape_of-area c = walk_length _ _ _ _ c.requires.1 _ _ _ c.loop-i.invariant

pub returns : goal.returns
returns c =
    let a = c.args in
    let q = c.requires in
    walk_all a.s.measures c.args.s.pass a.map q.0 a.area.now a.at _ _ _ c.loop-i.invariant c.loop-i-test.false
