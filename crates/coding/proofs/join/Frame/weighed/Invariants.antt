use Rattle.std.proofs.Common.{◌≡◌, ℕ, ◌+◌, ◌<◌, get_or}
use Rattle.coding.specs.Field.{product, sum}
use Rattle.coding.specs.Grid.{entry}
use Rattle.coding.specs.Lanes.{folded}
use Rattle.coding.specs.Output.{byte_in}
use Rattle.coding.proofs.join.Frame.weighed.Given as goal

-- The first s nodes are weighed.
abbrev pub invariant-loop-s : goal.invariant-loop-s
invariant-loop-s here =
    let p = here.self-inside in
    (l : ℕ) → l < here.m → folded here.sums l ≡ sum here.s (λ i. product (byte_in p.f p.room.now (here.j + l) (get_or p.nodes.now i 0)) (entry p.grid here.r (16 + i)))
