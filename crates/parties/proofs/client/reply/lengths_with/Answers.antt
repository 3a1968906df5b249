use mathlib.Core.Path.{refl}
use Prim.Native.Nat.{◌+◌, ◌*◌}
use native.Mathlib.Omega.{arith}
use Rattle.coding.proofs.BytesLaws.{lanes_none, lanes_more}
use Rattle.parties.proofs.client.JoinWithLaws.{lengths-done}
use Rattle.parties.proofs.records.PlaceLaws.{number-told}
use Rattle.parties.proofs.client.reply.lengths_with.Goals as goal

pub loop-j-init : goal.loop-j-init
loop-j-init c = (lanes_none _ _ refl, omega arith)

pub loop-j-preserved : goal.loop-j-preserved
loop-j-preserved c =
    let a = c.args in
    let l = c.loop-j in
    (lanes_more _ _ _ l.invariant.0 _ (number-told a.area.now (a.at + 2 * l.j) _ _ (omega arith) c.u16_at.ensures) (omega arith), omega arith)

pub returns : goal.returns
returns c =
    let q = c.requires in
    let l = c.loop-j in
    lengths-done _ l.v l.j c.args.n c.args.i c.args.len l.invariant.0 l.invariant.1 c.loop-j-test.false
    q.1 q.2
