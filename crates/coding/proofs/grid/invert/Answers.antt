use Rattle.std.proofs.Common.{◌≡◌, length, take_all, add-one, le_refl, arith}
use Rattle.coding.proofs.GridLaws.{Nodes, start, pivot_nonzero, reduced, inverted}
use Rattle.coding.proofs.grid.invert.Goals as goal

pub loop-c-init : goal.loop-c-init
loop-c-init c = λ ok. start _ c.args.nodes.now c.build-m.result c.build-m.ensures

pub reduce-next-requires : goal.reduce-next-requires
reduce-next-requires c =
    let nodes = c.args.nodes.now in
    let ok : Nodes (length nodes) nodes =
    record {
      room = le_refl (length nodes);
      bytes = λ i. (c.type_inv.nodes i).fits;
      distinct = rw (take_all (length nodes) nodes (le_refl (length nodes))) c.requires.1;
    } in
    let l = c.loop-c in
    (omega arith, omega arith, pivot_nonzero _ nodes ok l.c l.m (omega arith) (l.invariant ok))

pub loop-c-preserved : goal.loop-c-preserved
loop-c-preserved c =
    let l = c.loop-c in
    λ ok. rw (add-one l.c) (reduced _ c.args.nodes.now ok l.c l.m _ (omega arith) (l.invariant ok) c.reduce-next.ensures)

pub returns : goal.returns
returns c =
    let nodes = c.args.nodes.now in
    let ok : Nodes (length nodes) nodes =
    record {
      room = le_refl (length nodes);
      bytes = λ i. (c.type_inv.nodes i).fits;
      distinct = rw (take_all (length nodes) nodes (le_refl (length nodes))) c.requires.1;
    } in
    let l = c.loop-c in
    let e : l.c ≡ length nodes = omega arith in
    inverted _ nodes ok l.m (rw e at (l.invariant ok))
