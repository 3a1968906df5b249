use native.Mathlib.Omega.{arith}
use Rattle.runs.proofs.SendLaws.{messages_none, messages_room, messages_more, messages_all}
use Rattle.runs.proofs.send.send_messages.Goals as goal

pub loop-i-init : goal.loop-i-init
loop-i-init c = let a = c.args in messages_none a.s.measures a.c _ a.room.now _ _ (omega arith)

pub send_message-at-requires : goal.send_message-at-requires
send_message-at-requires c =
    let a = c.args in
    let l = c.loop-i in
    (omega arith, omega arith, c.requires.0, messages_room a.s.measures a.c _ a.room.now _ _ _ _ _ l.invariant c.args.s.pass c.requires.0 (omega arith) c.requires.1)

pub loop-i-preserved : goal.loop-i-preserved
loop-i-preserved c =
    let a = c.args in messages_more a.s.measures a.c _ a.room.now _ _ _ _ _ c.loop-i.invariant _ _ c.send_message-at.ensures

pub returns : goal.returns
returns c =
    let a = c.args in messages_all a.s.measures a.c _ a.room.now _ _ _ _ _ c.loop-i.invariant (omega arith) (omega arith)
