use mathlib.Core.List.{[]}
use Rattle.parties.specs.protocol.ClientEvents.{scan_answer}
use Rattle.parties.proofs.protocol.events.LacksLaws.{scanned-lacks}
use Rattle.parties.specs.records.Answer.{number}
use Rattle.title.proofs.MemoryLaws.{handed}
use Rattle.title.proofs.RecordPartLaws.{record_lacks, refused-ends, told_three}
use Rattle.title.proofs.title.scanned.Goals as goal

pub returns-in_err-part : goal.returns-in_err-part
returns-in_err-part c =
    let a = c.args in
    let r = c.in_err-part.field-0.0 in
    let n = number r in
    let l = record_lacks a.s a.memory.now a.c n c.in_err-part.ensures in
    rw (handed r _ c.from_residual.ensures.1)
    (let e = refused-ends a.s a.memory.now a.c n _ a.room.now [] (scanned-lacks a.s _ n l a.c a.rows.now a.room.now) in (e.0, e.1, e.2))

pub returns : goal.returns
returns c =
    let a = c.args in
    let u = c.scanned in
    told_three a.s a.memory.now _ _ a.c c.in_ok-part.ensures (λ l. scan_answer a.s a.c l a.rows.now a.room.now) _ u.new.client u.auto.client _ u.ensures
