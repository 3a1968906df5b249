use mathlib.Core.Path.{◌≡◌, ap, ◌∙◌}
use Prim.Native.Nat.{ℕ, ◌+◌, ◌-◌}
use native.Mathlib.Omega.{arith}
use lib.ListN.{take, drop}
use Rattle.parties.proofs.records.BytesLaws.{block_moved}
use Rattle.parties.proofs.records.bytes.move_block.Goals as goal

pub returns : goal.returns
returns c =
    let a = c.args in
    let n : a.from + 512 - a.from ≡ 512 = omega arith in
    c.copy.ensures ∙ block_moved a.t.now a.t.now a.from a.to _ (c.copy_from_slice.ensures.after ∙ ap (λ (k : ℕ). take k (drop a.from a.t.now)) n)
