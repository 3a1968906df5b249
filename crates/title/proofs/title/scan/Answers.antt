use Rattle.parties.specs.protocol.DirectoryEvents.{directory_scan}
use Rattle.parties.specs.records.Answer.{number}
use Rattle.title.proofs.MemoryLaws.{handed}
use Rattle.title.proofs.TablePartLaws.{scan-refused, directory-scanned}
use Rattle.title.proofs.title.scan.Goals as goal

pub returns-in_err-part : goal.returns-in_err-part
returns-in_err-part c =
    let a = c.args in
    let r = c.in_err-part.field-0.0 in
    let n = number r in
    rw (handed r _ c.from_residual.ensures.1)
    (scan-refused a.s a.memory.now n c.in_err-part.ensures a.room.now)

pub returns : goal.returns
returns c =
    let a = c.args in
    directory-scanned a.s a.memory.now _ _ c.in_ok-part.ensures (λ l. directory_scan a.s l a.room.now) _ _ c.scan.ensures
