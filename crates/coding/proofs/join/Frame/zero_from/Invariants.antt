use Rattle.std.proofs.Common.{◌≡◌, eqb, drop}
use Rattle.coding.specs.Nodes.{all}
use Rattle.coding.proofs.join.Frame.zero_from.Given as goal

-- The test of the bytes from the start on is that of those from p on.
abbrev pub invariant-loop-p : goal.invariant-loop-p
invariant-loop-p l = all (λ b. eqb b 0) (drop l.from l.self.bytes) ≡ all (λ b. eqb b 0) (drop l.p l.self.bytes)
