use native.Mathlib.Omega.{arith}
use Prim.Native.Nat.{◌+◌, ◌*◌}
use Rattle.parties.specs.protocol.Measures.{place_size}
use Rattle.parties.specs.node.NodeCode.{brought_by}
use Rattle.parties.proofs.node.KeepLaws.{insert_put}
use Rattle.parties.proofs.node.insert.Goals as goal

pub returns : goal.returns
returns c =
    let a = c.args in
    insert_put a.s a.t.now a.at (2 + a.count * place_size a.s) (brought_by a.b.now) (a.count + 1) (omega arith) (omega arith)
    _ _ _ c.move_up.ensures
    c.put_place.ensures c.put_u16.ensures
