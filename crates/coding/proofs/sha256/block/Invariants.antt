use Rattle.std.proofs.Common.{◌≡◌, length, take}
use Rattle.coding.specs.Sha256.{words}
use Rattle.coding.proofs.sha256.block.Given as goal

abbrev pub invariant-loop-j : goal.invariant-loop-j
invariant-loop-j l = (length l.m ≡ 64) × (take l.j l.m ≡ words l.s l.at l.j)
