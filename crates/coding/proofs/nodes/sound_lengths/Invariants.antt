use Rattle.std.proofs.Common.{◌≡◌, ◌-◌, eqb, get_or, drop}
use Rattle.coding.specs.Nodes.{all}
use Rattle.coding.proofs.nodes.sound_lengths.Given as goal

-- The test of the lengths from the second on is that of those from s on.
abbrev pub invariant-loop-s : goal.invariant-loop-s
invariant-loop-s l = all (λ i. eqb (get_or l.lens (i - 1) 0) l.first) (drop 1 l.nodes) ≡ all (λ i. eqb (get_or l.lens (i - 1) 0) l.first) (drop l.s l.nodes)
