use mathlib.Core.Path.{ap, ◌∙◌}
use mathlib.Core.List.{List}
use Prim.Native.Nat.{ℕ}
use lib.Seq.{paste}
use Rattle.parties.proofs.client.draw.put_version.Goals as goal

pub returns : goal.returns
returns c = let a = c.args in c.copy.ensures ∙ ap (λ (l : List ℕ). paste a.t.now a.at l 5) c.version_bytes.ensures
