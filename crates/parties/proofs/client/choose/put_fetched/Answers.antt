use mathlib.Core.Path.{ap, ◌∙◌}
use mathlib.Core.List.{List}
use Prim.Native.Nat.{ℕ, ◌+◌, ◌-◌}
use lib.ListN.{length, replicate}
use lib.Seq.{paste}
use Rattle.parties.proofs.client.ChooseLaws.{fetched_laid}
use Rattle.parties.proofs.client.choose.put_fetched.Goals as goal

pub returns : goal.returns
returns c =
    let a = c.args in
    let q = c.requires in
    let n = length a.p.now in
    let k = a.at + a.size - (a.at + n) in
    c.clear.ensures
    ∙ ap (λ (u : List ℕ). paste u (a.at + n) (replicate k 0) k) c.copy.ensures
    ∙ fetched_laid a.area.now a.at a.size a.p.now q.0 q.1
