use mathlib.Core.Path.{◌≡◌}
use lib.ListN.{drop}
use Rattle.parties.specs.protocol.Directory.{read_directory}
use Rattle.parties.specs.protocol.Deposit.{highest}
use Rattle.parties.specs.client.Draw.{rows_of}
use Rattle.parties.proofs.client.draw.highest.Given as goal

-- From the last row on: the highest of the rows from i on.
abbrev pub invariant-loop-i : goal.invariant-loop-i
invariant-loop-i l = l.top ≡ highest (drop l.i (rows_of (read_directory l.s.measures l.rows)))
