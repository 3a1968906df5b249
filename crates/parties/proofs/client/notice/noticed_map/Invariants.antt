use Rattle.parties.specs.protocol.Directory.{read_directory}
use Rattle.parties.specs.protocol.Deposit.{noticed}
use Rattle.parties.proofs.protocol.formats.ClientLaws.{keeper}
use Rattle.parties.specs.client.Draw.{rows_of}
use Rattle.parties.specs.client.Found.{retained_in}
use Rattle.parties.proofs.client.NoticeLaws.{Marked}
use Rattle.parties.proofs.client.notice.noticed_map.Given as goal

-- The bits of the first q clients are set.
abbrev pub invariant-loop-q : goal.invariant-loop-q
invariant-loop-q l = Marked (noticed l.own (keeper (retained_in l.s.measures l.area)) (rows_of (read_directory l.s.measures l.rows))) l.q l.map
