use Rattle.std.proofs.Common.{Fits, w8, get_or, rules}
use Rattle.parties.proofs.client.GatherLaws.{formed}
use Rattle.parties.proofs.client.publish.form_pointer.Goals as goal

pub returns : goal.returns
returns c =
    let a = c.args in
    let p = c.requires in
    formed a.s.measures c.args.s.pass a.map p.0 a.area.now a.at p.1 p.2 (λ i. let b : Fits w8 (get_or c.args.area.now i 0) = search rules in b.fits) _ _
    c.pointer_size-front.ensures c.work_size-size.ensures _ _ _ c.gather.ensures c.put_u16.ensures c.clear.ensures
