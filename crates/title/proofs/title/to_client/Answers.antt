use Rattle.parties.specs.protocol.ClientEvents.{client_message}
use Rattle.parties.proofs.protocol.events.LacksLaws.{message_lacks}
use Rattle.parties.specs.records.Answer.{number}
use Rattle.title.proofs.MemoryLaws.{handed}
use Rattle.title.proofs.RecordPartLaws.{record_lacks, refused-ends, told-four}
use Rattle.title.proofs.title.to_client.Goals as goal

pub returns-in_err-part : goal.returns-in_err-part
returns-in_err-part c =
    let a = c.args in
    let r = c.in_err-part.field-0.0 in
    let n = number r in
    let l = record_lacks a.s a.memory.now a.c n c.in_err-part.ensures in
    rw (handed r _ c.from_residual.ensures.1)
    (refused-ends a.s a.memory.now a.c n _ a.room.now a.out.now (message_lacks a.s _ n l a.c a.i a.message.now a.room.now a.out.now))

pub returns : goal.returns
returns c =
    let a = c.args in
    let u = c.receive in
    told-four a.s a.memory.now _ _ a.c c.in_ok-part.ensures (λ l. client_message a.s a.c a.i l a.message.now a.room.now a.out.now) _ u.new.client u.auto.client _ _ u.ensures
