use Rattle.parties.specs.protocol.DirectoryEvents.{directory_update}
use Rattle.parties.specs.records.Answer.{number}
use Rattle.title.proofs.MemoryLaws.{handed}
use Rattle.title.proofs.TablePartLaws.{update-refused, directory-updated}
use Rattle.title.proofs.title.update.Goals as goal

pub returns-in_err-part : goal.returns-in_err-part
returns-in_err-part c =
    let a = c.args in
    let r = c.in_err-part.field-0.0 in
    let n = number r in
    rw (handed r _ c.from_residual.ensures.1)
    (update-refused a.s a.memory.now n c.in_err-part.ensures a.c a.fields.now)

pub returns : goal.returns
returns c =
    let a = c.args in
    directory-updated a.s a.memory.now _ _ c.in_ok-part.ensures (λ l. directory_update a.s a.c l a.fields.now) _ c.update.new.table c.update.auto.table c.update.ensures
