use Rattle.std.proofs.Common.{◌≡◌, ℕ, ◌+◌, ◌*◌, ◌<◌, length, get_or}
use Rattle.coding.specs.Frame.{frame_byte}
use Rattle.coding.proofs.frame.gather_edge.Given as goal

-- The first l lanes are filled.
abbrev pub invariant-loop-l : goal.invariant-loop-l
invariant-loop-l l = (length l.v ≡ 16) × ((i : ℕ) → i < l.l → get_or l.v i 0 ≡ frame_byte l.page (l.from + i * l.k))
