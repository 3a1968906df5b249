use Rattle.std.proofs.Common.{◌≡◌, ◌-◌, ◌*◌, take, drop, eqb}
use Rattle.coding.specs.Nodes.{all}
use Rattle.parties.proofs.records.bytes.zero_run.Given as goal

-- The answer is that of the bytes from here on.
abbrev pub invariant-loop-block : goal.invariant-loop-block
invariant-loop-block l =
    let s = take (l.to - l.from) (drop l.from l.t) in all (λ b. eqb b 0) s ≡ all (λ b. eqb b 0) (drop (l.block-index * 256) s)
