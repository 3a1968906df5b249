use Rattle.std.specs.Prelude.{Ok}
use Prim.Native.Nat.{◌+◌, ◌-◌, ◌*◌}
use native.Mathlib.Omega.{arith}
use lib.ListN.{length, length-take}
use Rattle.parties.proofs.records.NodesLaws.{has_is}
use Rattle.runs.proofs.PostLaws.{appended_none}
use Rattle.runs.proofs.SentLaws.{room_small}
use Rattle.runs.proofs.SendLaws.{as_sent, stores-sent, no_request, no_message, ok_same, parts_fit, area_small, smaller, sized-stores, sized-deposited}
use Rattle.runs.proofs.send.send_message.Goals as goal

pub append-requires : goal.append-requires
append-requires c =
    let a = c.args in
    let room = length a.room.now in
    let few = sized-stores a.s.measures a.a _ _ c.requires.2 c.in-Stores.is in
    let front = smaller 6 room _ c.min-front.ensures in
    let many = smaller c.in-Stores.len (room - c.min-from.result) _ c.min.ensures in
    let f = parts_fit a.s.measures a.room.now c.min-front.result c.min-from.result c.min.result _ c.args.s.pass (omega arith) (omega arith) few in
    (omega (arith, f, c.requires.3), omega (arith, f, room_small a.s.measures c.args.s.pass))

pub append-requires-in-Deposited : goal.append-requires-in-Deposited
append-requires-in-Deposited c =
    let a = c.args in
    let few = sized-deposited a.s.measures a.a _ _ c.requires.2 c.in-Deposited.is in
    let n = smaller c.in-Deposited.len (length a.room.now) _ c.min-to.ensures in
    let e = length-take c.min-to.result a.room.now in
    (omega (arith, few, e, n, c.requires.3), omega (arith, few, e, n, room_small a.s.measures c.args.s.pass))

pub returns-in-Stores : goal.returns-in-Stores
returns-in-Stores c =
    let a = c.args in
    let room = length a.room.now in
    as_sent
    (stores-sent a.s.measures a.c a.i a.a a.room.now _ _ _ _ _ c.in-Stores.is (smaller 6 room _ c.min-front.ensures)
    (smaller (6 + (a.i - 1) * a.s.measures.f) room _ c.min-from.ensures) (smaller c.in-Stores.len (room - c.min-from.result) _ c.min.ensures))
    c.append.ensures

pub returns-else-has_node : goal.returns-else-has_node
returns-else-has_node c =
    let a = c.args in
    as_sent (no_request a.s.measures a.c a.i a.a a.room.now _ _ _ c.in-Requests.is (has_is _ a.i c.requires.0 (area_small a.s.measures c.args.s.pass a.i c.requires.1).0 _ c.has_node.ensures) c.if-has_node.false)
    (appended_none _ _ (omega arith))

pub returns-in_default : goal.returns-in_default
returns-in_default c =
    let a = c.args in as_sent (no_message a.s.measures a.c a.i (Ok a.a) a.room.now (λ v len e. c.in_default.not-Stores v len (ok_same _ _ e)) (λ v nodes e. c.in_default.not-Requests v nodes (ok_same _ _ e)) (λ v len e. c.in_default.not-Deposited v len (ok_same _ _ e))) (appended_none _ _ (omega arith))
