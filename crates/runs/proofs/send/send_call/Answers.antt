use Rattle.std.specs.Prelude.{Ok}
use native.Mathlib.Omega.{arith}
use lib.ListN.{length, length-take}
use Rattle.runs.proofs.PostLaws.{appended_none}
use Rattle.runs.proofs.SentLaws.{row_within, rows-small}
use Rattle.runs.proofs.SendLaws.{as_sent, no_call, ok_same, smaller, sized-update}
use Rattle.runs.proofs.send.send_call.Goals as goal

pub append-requires-in-Update : goal.append-requires-in-Update
append-requires-in-Update c =
    let a = c.args in
    let few = sized-update a.s.measures a.a _ c.requires.0 c.in-Update.is in
    let n = smaller c.in-Update.len (length a.room.now) _ c.min-to.ensures in
    let e = length-take c.min-to.result a.room.now in
    let r = row_within a.s.measures c.args.s.pass in
    (omega (arith, few, n, e, r, c.requires.1), omega (arith, few, n, e, r, rows-small a.s.measures c.args.s.pass))

pub returns-in_default : goal.returns-in_default
returns-in_default c =
    let a = c.args in as_sent (no_call a.c (Ok a.a) a.room.now (λ e. c.in_default.not-Scan (ok_same _ _ e)) (λ len e. c.in_default.not-Update len (ok_same _ _ e))) (appended_none _ _ (omega arith))
