use borrow.Author.Rules.{rules}
use mathlib.Core.Path.{◌≡◌}
use native.Mathlib.Omega.{arith}
use lib.ListN.{length}
use Rattle.recordings.proofs.BlockLaws.{shuffle_turn}
use Rattle.recordings.proofs.blocks.shuffle.Goals as goal

pub loop-k-preserved : goal.loop-k-preserved
loop-k-preserved c =
    let d = c.args.from.now in
    let at = c.args.at in
    let k = c.loop-k.k in
    let v₀ = c.pairs.result in
    let v₁ = c.pairs-in-loop-k.result in
    let v₂ = c.pairs-in-loop-k-2.result in
    let l₀ : length v₀ ≡ 16 = search rules in
    let l₁ : length v₁ ≡ 16 = search rules in
    let l₂ : length v₂ ≡ 16 = search rules in
    shuffle_turn d c.args.to.now at k c.requires.1 c.loop-k-test.true _ _ _ _ v₀ v₁ v₂
    (l₀, c.pairs.ensures) (l₁, c.pairs-in-loop-k.ensures) (l₂, c.pairs-in-loop-k-2.ensures)
    c.store.ensures c.store-in-loop-k.ensures c.store-in-loop-k-2.ensures c.loop-k.invariant

pub returns : goal.returns
returns c = let e : c.loop-k.k ≡ 32 = omega arith in rw e at c.loop-k.invariant.done
