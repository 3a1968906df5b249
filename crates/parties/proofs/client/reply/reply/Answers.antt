use mathlib.Core.Path.{sym, subst}
use mathlib.Core.Option.{some}
use Rattle.parties.specs.client.Reply.{Awaits}
use Rattle.parties.proofs.client.reply.reply.Goals as goal

pub returns-in_default : goal.returns-in_default
returns-in_default c =
    let a = c.args in
    λ room. sym (subst (Awaits a.s.measures a.i a.v a.p a.area.now) c.in_default.is c.awaited_reply.ensures (some a.piece.now) room a.out.now)

pub reply_counted-requires : goal.reply_counted-requires
reply_counted-requires c =
    let a = c.args in
    let q = c.requires in
    let x = subst (Awaits a.s.measures a.i a.v a.p a.area.now) c.in-Some.is c.awaited_reply.ensures in
    (q.0, q.1, q.2, q.3, x.0, x.1, x.2)

pub returns : goal.returns
returns c = c.reply_counted.ensures
