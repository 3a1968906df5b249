use mathlib.Core.Path.{◌≡◌}
use Rattle.parties.specs.protocol.Client.{write_client, fresh_client}
use Rattle.parties.specs.records.Places.{splice}
use Rattle.title.proofs.FreshMemoryLaws.{copies}
use Rattle.title.proofs.fresh.put_records.Given as goal

abbrev pub invariant-loop-c : goal.invariant-loop-c
invariant-loop-c l = l.memory ≡ splice l.initial.memory l.from (copies (write_client l.s.measures (fresh_client l.s.measures)) l.c)
