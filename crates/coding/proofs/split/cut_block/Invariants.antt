use Rattle.std.proofs.Common.{◌≡◌, ℕ, ◌+◌, ◌<◌, get_or}
use Rattle.coding.proofs.SplitLaws.{rows}
use Rattle.coding.proofs.split.cut_block.Given as goal

-- The rows from r on stand in the sums.
abbrev pub invariant-loop-r : goal.invariant-loop-r
invariant-loop-r here = (l : ℕ) → l < here.m → get_or here.sums l 0 ≡ rows here.k here.page here.x (here.j + l) here.r
