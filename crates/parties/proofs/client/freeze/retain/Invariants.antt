use Rattle.parties.specs.protocol.Directory.{read_directory}
use Rattle.parties.specs.client.Draw.{rows_of}
use Rattle.parties.proofs.client.FreezeLaws.{Retaining}
use Rattle.parties.proofs.client.freeze.retain.Given as goal

-- The first q clients are through.
abbrev pub invariant-loop-q : goal.invariant-loop-q
invariant-loop-q l = Retaining l.s.measures l.map (rows_of (read_directory l.s.measures l.rows)) l.initial.area l.area l.q
