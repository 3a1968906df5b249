use mathlib.Core.Path.{◌≡◌}
use mathlib.Core.List.{[]}
use Rattle.parties.specs.protocol.NodeTable.{write_table}
use Rattle.parties.specs.records.Places.{splice}
use Rattle.title.proofs.FreshMemoryLaws.{copies}
use Rattle.title.proofs.fresh.put_tables.Given as goal

abbrev pub invariant-loop-i : goal.invariant-loop-i
invariant-loop-i l = l.memory ≡ splice l.initial.memory l.from (copies (write_table l.s.measures []) l.i)
