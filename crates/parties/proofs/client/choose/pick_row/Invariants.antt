use Rattle.parties.proofs.client.ChooseLaws.{Chosen}
use Rattle.parties.proofs.client.choose.pick_row.Given as goal

abbrev pub invariant-loop-i : goal.invariant-loop-i
invariant-loop-i l = Chosen l.s.measures l.own l.index l.rows l.i l.best
