use mathlib.Core.Path.{◌≡◌}
use mathlib.Core.List.{◌++◌}
use Prim.Native.Nat.{◌*◌}
use lib.ListN.{take, drop, replicate}
use Rattle.parties.specs.protocol.Format.{write_many}
use Rattle.parties.proofs.directory.repeat.Given as goal

abbrev pub invariant-loop-i : goal.invariant-loop-i
invariant-loop-i l = l.table ≡ write_many (λ d. d) (replicate l.i (take l.size l.row)) ++ drop (l.i * l.size) l.initial.table
