use mathlib.Core.Path.{refl, ap, ◌∙◌}
use mathlib.Core.List.{List}
use Prim.Native.Nat.{ℕ, ◌+◌, ◌-◌, ◌*◌}
use lib.ListN.{replicate}
use lib.Seq.{paste}
use Rattle.parties.specs.protocol.Format.{write_number}
use Rattle.parties.specs.client.Draw.{room_digests}
use Rattle.parties.proofs.client.DrawLaws.{length-room-digests, stores_put}
use Rattle.parties.proofs.client.draw.put_stores.Goals as goal

pub returns : goal.returns
returns c =
    let a = c.args in
    let q = c.requires in
    let ds = room_digests a.s.measures.n a.s.measures.f a.v a.len a.room.now in
    let rest : ℕ = a.at + 7 + 32 * a.s.measures.n in
    let e = c.put_digests.ensures
    ∙ ap (λ (l : List ℕ). paste l (a.at + 7) ds (32 * a.s.measures.n))
    (c.put_u16.ensures ∙ ap (λ (l : List ℕ). paste l (a.at + 5) (write_number 2 0) 2) c.put_version.ensures)
    in
    let w = c.work_size-size.ensures in
    c.clear.ensures
    ∙ (λ i. paste (e i) rest (replicate (a.at + w i - rest) 0) (a.at + w i - rest))
    ∙ stores_put a.s.measures c.args.s.pass a.v ds a.area.now a.at rest (length-room-digests a.s.measures.n a.s.measures.f a.v a.len a.room.now) q.2 refl
