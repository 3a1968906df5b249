use mathlib.Core.Path.{◌≡◌}
use lib.ListN.{take}
use Rattle.lines.specs.Text.{over, hex_of}
use Rattle.lines.proofs.text.spell.Given as goal

-- The digits of the first i bytes are put.
abbrev pub invariant-loop-i : goal.invariant-loop-i
invariant-loop-i l = l.text ≡ over l.initial.text l.at (hex_of (take l.i l.b))
