use mathlib.Core.Path.{ap, ◌∙◌}
use mathlib.Core.List.{List}
use Prim.Native.Nat.{ℕ, ◌+◌, ◌-◌}
use lib.ListN.{length, replicate}
use lib.Seq.{paste}
use Rattle.parties.proofs.records.SpliceLaws.{area_put_lem}
use Rattle.parties.proofs.client.reply.put_area.Goals as goal

pub returns : goal.returns
returns c =
    let a = c.args in
    let q = c.requires in
    let n = length a.piece.now in
    let k : ℕ = a.at + a.f - (a.at + n) in
    c.clear.ensures ∙ ap (λ (l : List ℕ). paste l (a.at + n) (replicate k 0) k) c.copy.ensures
    ∙ area_put_lem a.area.now a.at a.f a.piece.now q.0 q.1
