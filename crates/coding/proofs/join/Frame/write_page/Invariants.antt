use Rattle.std.proofs.Common.{get_or}
use Rattle.coding.specs.Output.{Placed}
use Rattle.coding.proofs.JoinLaws.{Rows}
use Rattle.coding.proofs.join.Frame.write_page.Given as goal

-- The rows below r are placed.
abbrev pub invariant-loop-r : goal.invariant-loop-r
invariant-loop-r l = Placed (λ p. get_or l.self.bytes p 0) l.len (Rows l.self.k l.self.columns l.r) l.initial.out l.out
