use native.Mathlib.Omega.{arith}
use Prim.Native.Nat.{◌*◌}
use Rattle.parties.proofs.records.BytesLaws.{copied_none}
use Rattle.parties.proofs.records.SizeLaws.{below_rows}
use Rattle.parties.proofs.client.FormLaws.{sizes}
use Rattle.parties.proofs.client.DrawLaws.{digests-more, digests-length, digests-all}
use Rattle.parties.proofs.client.draw.put_digests.Goals as goal

pub loop-i-init : goal.loop-i-init
loop-i-init c = copied_none _ _ _ _ _

pub put_piece_digest-requires : goal.put_piece_digest-requires
put_piece_digest-requires c =
    let a = c.args in
    let q = c.requires in
    let l = c.loop-i in
    let t = c.loop-i-test.true in
    let z = digests-length a.s.measures.n a.s.measures.f a.v a.len a.room.now a.area.now a.from q.2 l.area (32 * l.i) l.invariant in (
      omega (arith, t, (sizes a.s.measures c.args.s.pass).nodes),
      omega (arith, below_rows l.i a.s.measures.n a.s.measures.f t, q.0, q.1),
      omega (arith, t, q.2, z),
    )

pub loop-i-preserved : goal.loop-i-preserved
loop-i-preserved c =
    let a = c.args in
    let l = c.loop-i in
    digests-more a.s.measures.n a.s.measures.f a.v a.len a.room.now a.area.now a.from c.requires.2 l.area l.i l.invariant c.loop-i-test.true _
    c.put_piece_digest.ensures

pub shape_of-area : goal.shape_of-area
shape_of-area c =
    let a = c.args in
    digests-length a.s.measures.n a.s.measures.f a.v a.len a.room.now a.area.now a.from c.requires.2 c.loop-i.area (32 * c.loop-i.i)
    c.loop-i.invariant

pub returns : goal.returns
returns c =
    let a = c.args in
    digests-all a.s.measures.n a.s.measures.f a.v a.len a.room.now a.area.now a.from c.requires.2 c.loop-i.area c.loop-i.i
    c.loop-i.invariant c.loop-i-test.false
