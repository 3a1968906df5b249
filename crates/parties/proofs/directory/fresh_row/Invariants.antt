use mathlib.Core.Path.{◌≡◌}
use Prim.Native.Nat.{◌-◌, ◌≤◌}
use lib.ListN.{length}
use Rattle.parties.specs.directory.Room.{longest_row, Built}
use Rattle.parties.proofs.directory.FreshLaws.{started}
use Rattle.parties.proofs.directory.fresh_row.Given as goal

abbrev pub invariant-loop-i : goal.invariant-loop-i
invariant-loop-i l = (l.i ≤ l.pointers) × (length l.room ≡ longest_row) × Built (started l.i) l.room

abbrev pub decreases-loop-i : goal.decreases-loop-i
decreases-loop-i l = l.pointers - l.i
