use mathlib.Core.Path.{◌≡◌, ap, ◌∙◌}
use Prim.Native.Nat.{ℕ, ◌+◌, ◌-◌}
use native.Mathlib.Omega.{arith}
use lib.ListN.{take, drop}
use Rattle.parties.specs.protocol.Reading.{same_bytes}
use Rattle.parties.proofs.client.MatchLaws.{same_pointwise}
use Rattle.parties.proofs.client.reply.same_bytes.Goals as goal

pub returns : goal.returns
returns c =
    let a = c.args in
    let n : a.at + 32 - a.at ≡ 32 = omega arith in
    c.eq.ensures ∙ same_pointwise _ _ ∙ ap (λ (k : ℕ). same_bytes a.d (take k (drop a.at a.t.now))) n
