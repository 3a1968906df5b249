use Rattle.std.proofs.Common.{min, get_or}
use Rattle.coding.specs.Output.{Placed, Stride}
use Rattle.coding.proofs.join.Frame.write_row.Given as goal

-- The columns below j are placed.
abbrev pub invariant-loop-j : goal.invariant-loop-j
invariant-loop-j l = Placed (λ p. get_or l.self.bytes p 0) l.len (Stride l.r l.k (min l.j l.self-inside.columns)) l.initial.out l.out
