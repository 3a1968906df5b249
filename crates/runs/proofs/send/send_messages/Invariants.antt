use Rattle.std.specs.Prelude.{Ok}
use Rattle.parties.specs.client.Answer.{answered}
use Rattle.runs.specs.Parcels.{Appended}
use Rattle.runs.specs.Sent.{messages_by}
use Rattle.runs.proofs.send.send_messages.Given as goal

abbrev pub invariant-loop-i : goal.invariant-loop-i
invariant-loop-i l = Appended (messages_by l.s.measures l.c (answered (Ok l.a)) l.room l.i) l.initial.post l.used l.post l.at
