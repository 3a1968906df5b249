use mathlib.Core.List.{[]}
use Rattle.parties.specs.protocol.ClientEvents.{start_deposit}
use Rattle.parties.proofs.protocol.events.LacksLaws.{deposit-lacks}
use Rattle.parties.specs.records.Answer.{number}
use Rattle.title.proofs.MemoryLaws.{handed}
use Rattle.title.proofs.RecordPartLaws.{record_lacks, refused-ends, told-two}
use Rattle.title.proofs.title.deposit.Goals as goal

pub returns-in_err-part : goal.returns-in_err-part
returns-in_err-part c =
    let a = c.args in
    let r = c.in_err-part.field-0.0 in
    let n = number r in
    let l = record_lacks a.s a.memory.now a.c n c.in_err-part.ensures in
    rw (handed r _ c.from_residual.ensures.1)
    (let e = refused-ends a.s a.memory.now a.c n _ [] [] (deposit-lacks a.s _ n l a.c a.page.now) in (e.0, e.1))

pub returns : goal.returns
returns c =
    let a = c.args in
    let u = c.deposit in
    told-two a.s a.memory.now _ _ a.c c.in_ok-part.ensures (λ l. start_deposit a.s a.c l a.page.now) _ u.new.client u.auto.client u.ensures
