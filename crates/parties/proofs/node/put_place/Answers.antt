use Rattle.parties.proofs.node.KeepLaws.{place_put}
use Rattle.parties.proofs.node.put_place.Goals as goal

pub returns : goal.returns
returns c =
    let a = c.args in
    let p = c.requires in
    place_put a.s a.t.now a.at a.b.now
    (λ i. (c.type_inv.b i).fits) p.0 p.1 p.2
    _ _ _ _ c.copy.ensures c.put_u16.ensures
    c.copy-2.ensures c.clear.ensures
