use Rattle.parties.specs.protocol.NodeEvents.{node_message}
use Rattle.parties.specs.records.Answer.{number}
use Rattle.title.proofs.MemoryLaws.{handed}
use Rattle.title.proofs.TablePartLaws.{node-refused, node-told}
use Rattle.title.proofs.title.to_node.Goals as goal

pub returns-in_err-part : goal.returns-in_err-part
returns-in_err-part c =
    let a = c.args in
    let r = c.in_err-part.field-0.0 in
    let n = number r in
    rw (handed r _ c.from_residual.ensures.1)
    (node-refused a.s a.memory.now n c.in_err-part.ensures a.i a.message.now a.room.now)

pub returns : goal.returns
returns c =
    let a = c.args in
    node-told a.s a.memory.now _ _ a.i c.in_ok-part.ensures (λ l. node_message a.s a.i l a.message.now a.room.now) _ c.message.new.table _ c.message.auto.table c.message.ensures
