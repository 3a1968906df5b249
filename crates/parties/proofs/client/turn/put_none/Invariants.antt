use mathlib.Core.Path.{◌≡◌}
use Rattle.parties.specs.client.Record.{marked}
use Rattle.parties.proofs.client.turn.put_none.Given as goal

abbrev pub invariant-loop-i : goal.invariant-loop-i
invariant-loop-i l = l.t ≡ marked l.initial.t l.from l.width l.i
