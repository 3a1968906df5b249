use Rattle.std.proofs.Common.{Fits, w8, get_or, rules}
use mathlib.Core.Path.{sym, subst, ◌∙◌}
use mathlib.Core.Bool.{cond}
use mathlib.Core.Option.{none}
use native.Mathlib.Omega.{arith}
use Rattle.coding.specs.Nodes.{all}
use Rattle.parties.specs.protocol.Nodes.{nodes_in, stands}
use Rattle.parties.specs.client.Reply.{Awaits, went_on, cleared, mapped}
use Rattle.parties.proofs.client.FormLaws.{sizes}
use Rattle.parties.proofs.client.ReplyLaws.{missing_end}
use Rattle.parties.proofs.client.GateLaws.{work_within, Opened, opens}
use Rattle.parties.proofs.client.reply.missing.Goals as goal
use Rattle.parties.proofs.client.reply.missing.Goals.{After-awaited_reply}

-- the client's record reads
opened_at : (c : After-awaited_reply) → let a = c.args in Opened a.s.measures a.p a.area.now
opened_at c =
    let a = c.args in
    let q = c.requires in
    opens a.s.measures a.p a.area.now c.args.s.pass q.2 (omega arith) (omega arith) (λ i. let b : Fits w8 (get_or c.args.area.now i 0) = search rules in b.fits)

pub returns-in_default : goal.returns-in_default
returns-in_default c =
    let a = c.args in
    λ room out. sym (subst (Awaits a.s.measures a.i a.v a.p a.area.now) c.in_default.is c.awaited_reply.ensures none room out)

pub with_node-counted-requires : goal.with_node-counted-requires
with_node-counted-requires c = let q = c.requires in (q.0, omega (arith, q.1, (sizes c.args.s.measures c.args.s.pass).nodes))

pub go_on-requires : goal.go_on-requires
go_on-requires c = let a = c.args in (work_within a.s.measures a.p a.area.now (opened_at (goal.at.go_on-requires c).After-awaited_reply))

pub returns : goal.returns
returns c =
    let a = c.args in
    let q = c.requires in
    let opened = opened_at (goal.at.returns c).After-awaited_reply in
    let s = c.in-Some.x in
    let x = subst (Awaits a.s.measures a.i a.v a.p a.area.now) c.in-Some.is c.awaited_reply.ensures in
    let n = c.with_node-counted.ensures in
    let g = c.go_on.ensures in
    λ room out. sym (missing_end a.s.measures a.p a.area.now opened x.0 a.i q.0 q.1 a.v s x.1 x.2 room out _
    (g.0 ∙ (λ j. went_on (all (stands (n j)) (nodes_in s.named)))) _
    (g.1 ∙ (λ j. cond (all (stands (n j)) (nodes_in s.named)) (cleared a.s.measures a.area.now) (mapped a.s.measures (n j) s.matching a.area.now))))
