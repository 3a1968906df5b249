use Rattle.std.specs.Prelude.{Ok}
use native.Mathlib.Omega.{arith}
use Rattle.parties.specs.client.Answer.{answered}
use Rattle.runs.proofs.PostLaws.{appended_more}
use Rattle.runs.proofs.SendLaws.{call-room}
use Rattle.runs.proofs.send.send.Goals as goal

pub send_call-at-requires : goal.send_call-at-requires
send_call-at-requires c = let p = c.requires in (p.0, omega (arith, p.1))

pub send_messages-requires : goal.send_messages-requires
send_messages-requires c =
    let a = c.args in
    let x = c.send_call-at.ensures in
    (c.requires.0, call-room a.s.measures a.c (answered (Ok a.a)) a.room.now _ _ _ _ c.args.s.pass c.requires.0 x c.requires.1)

pub returns : goal.returns
returns c =
    appended_more _ _ _ _ _ _ _ _ c.send_call-at.ensures c.send_messages.ensures
