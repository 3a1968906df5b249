use Rattle.std.proofs.Common.{Fits, w8, get_or, rules}
use mathlib.Core.Path.{sym, ap, ◌∙◌}
use mathlib.Core.Bool.{cond}
use Prim.Native.Nat.{◌+◌, ◌-◌, ◌*◌, ◌<◌}
use native.Mathlib.Omega.{arith}
use Rattle.coding.specs.Nodes.{all}
use Rattle.coding.proofs.NodesLaws.{nodes-few}
use Rattle.parties.specs.protocol.Nodes.{nodes_in, count, stands, with_node}
use Rattle.parties.specs.client.Reply.{matches_at, piece_put, went_on, cleared, mapped}
use Rattle.parties.proofs.client.FormLaws.{sizes}
use Rattle.parties.proofs.client.ReplyLaws.{matches-short, lengths-within, digest-within, missed_end, more_end}
use Rattle.parties.proofs.client.GateLaws.{work_within, Opened, opens}
use Rattle.parties.proofs.client.reply.reply_counted.Goals as goal
use Rattle.parties.proofs.client.reply.reply_counted.Goals.{After-work_at-at}

-- the client's record reads
opened_at : (c : After-work_at-at) → let a = c.args in Opened a.s.measures a.p a.area.now
opened_at c =
    let a = c.args in
    let q = c.requires in
    opens a.s.measures a.p a.area.now c.args.s.pass q.2 (omega arith) (omega arith) (λ i. let b : Fits w8 (get_or c.args.area.now i 0) = search rules in b.fits)

pub rank-requires : goal.rank-requires
rank-requires c = let q = c.requires in (q.0, omega (arith, q.1, (sizes c.args.s.measures c.args.s.pass).nodes))

pub overflow_mul-place : goal.overflow_mul-place
overflow_mul-place c =
    let a = c.args in
    omega (arith, nodes-few a.x.named (a.i - 1), c.rank.ensures, c.requires.1, (sizes a.s.measures c.args.s.pass).nodes)

pub overflow_add-place-2 : goal.overflow_add-place-2
overflow_add-place-2 c =
    let a = c.args in
    let z = sizes a.s.measures c.args.s.pass in
    omega (arith, nodes-few a.x.named (a.i - 1), c.rank.ensures, c.requires.1, z.nodes, c.work_at-at.ensures, z.pointers, z.clients)

pub with_node-counted-requires : goal.with_node-counted-requires
with_node-counted-requires c = let q = c.requires in (q.0, omega (arith, q.1, (sizes c.args.s.measures c.args.s.pass).nodes))

pub matches-requires : goal.matches-requires
matches-requires c =
    let opened = opened_at (goal.at.matches-requires c).After-work_at-at in
    let a = c.args in
    let q = c.requires in (
      omega (arith, q.1, (sizes a.s.measures c.args.s.pass).nodes),
      omega (
        arith,
        digest-within a.s.measures a.p a.area.now opened q.4 a.i q.0 q.1 a.v a.x q.5
            q.6,
        c.work_at-at.ensures,
        c.rank.ensures,
      ),
    )

pub go_on-requires : goal.go_on-requires
go_on-requires c =
    let opened = opened_at (goal.at.go_on-requires c).After-work_at-at in
    let a = c.args in
    let q = c.requires in
    (work_within a.s.measures a.p a.area.now opened)

pub returns-then-not-matches : goal.returns-then-not-matches
returns-then-not-matches c =
    let opened = opened_at (goal.at.returns-then-not-matches c).After-work_at-at in
    let a = c.args in
    let q = c.requires in
    let n = c.with_node-counted.ensures in
    let g = c.go_on.ensures in
    let m = (λ j. matches_at a.s.measures.f a.x.version a.i a.piece.now a.area.now (sym c.work_at-at.ensures j + 7 + 32 * sym c.rank.ensures j))
    ∙ sym c.matches.ensures ∙ c.if-not-matches.true
    in
    λ room. sym (missed_end a.s.measures a.p a.area.now opened q.4 a.i q.0 q.1 a.v a.x q.5 a.piece.now q.6 m room a.out.now _
    (g.0 ∙ (λ j. went_on (all (stands (n j)) (nodes_in a.x.named)))) _
    (g.1 ∙ (λ j. cond (all (stands (n j)) (nodes_in a.x.named)) (cleared a.s.measures a.area.now) (mapped a.s.measures (n j) a.x.matching a.area.now))))

pub with_node-matching-requires : goal.with_node-matching-requires
with_node-matching-requires c =
    let q = c.requires in (q.0, omega (arith, q.1, (sizes c.args.s.measures c.args.s.pass).nodes))

pub overflow_add-lens : goal.overflow_add-lens
overflow_add-lens c =
    let z = sizes c.args.s.measures c.args.s.pass in
    omega (arith, c.work_at-at.ensures, c.pointer_size.ensures, z.pointers, z.pointer, z.clients)

pub overflow_add-lens-then-count-s : goal.overflow_add-lens-then-count-s
overflow_add-lens-then-count-s c =
    let z = sizes c.args.s.measures c.args.s.pass in
    omega (arith, c.work_at-at.ensures, c.pointer_size.ensures, z.pointers, z.pointer, z.clients)

pub put_piece-requires : goal.put_piece-requires
put_piece-requires c =
    let opened = opened_at (goal.at.put_piece-requires c).After-work_at-at in
    let a = c.args in
    let q = c.requires in
    let z = sizes a.s.measures c.args.s.pass in (
      z.nodes,
      z.bytes,
      q.0,
      q.1,
      omega (arith, lengths-within a.s.measures a.p a.area.now opened, c.work_at-at.ensures, c.pointer_size.ensures),
      matches-short a.s.measures.f a.x.version a.i a.piece.now a.area.now _ (sym c.matches.ensures ∙ c.if-not-matches.false),
    )

pub go_on-requires-then-count-s : goal.go_on-requires-then-count-s
go_on-requires-then-count-s c =
    let opened = opened_at (goal.at.go_on-requires-then-count-s c).After-work_at-at in
    let a = c.args in
    let q = c.requires in
    let w = work_within a.s.measures a.p a.area.now opened in
    (omega (arith, w))

pub returns-then-count-s : goal.returns-then-count-s
returns-then-count-s c =
    let opened = opened_at (goal.at.returns-then-count-s c).After-work_at-at in
    let a = c.args in
    let q = c.requires in
    let n = c.with_node-counted.ensures in
    let k = c.with_node-matching.ensures in
    let g = c.go_on-then-count-s.ensures in
    let m = (λ j. matches_at a.s.measures.f a.x.version a.i a.piece.now a.area.now (sym c.work_at-at.ensures j + 7 + 32 * sym c.rank.ensures j))
    ∙ sym c.matches.ensures ∙ c.if-not-matches.false
    in
    let few : count (with_node a.x.matching a.i) < a.s.measures.k = omega (arith, c.if-count-s.true, c.count.ensures, ap count k) in
    let t = c.put_piece.ensures
    ∙ (λ j. piece_put (c.work_at-at.ensures j + c.pointer_size.ensures j + 4) a.s.measures.n a.s.measures.f a.i a.piece.now a.area.now)
    in
    λ room. sym (more_end a.s.measures a.p a.area.now opened q.4 a.i q.0 q.1 a.v a.x q.5 a.piece.now
    (λ i. (c.type_inv.piece i).fits) q.6 m few room a.out.now _
    (g.0 ∙ (λ j. went_on (all (stands (n j)) (nodes_in a.x.named)))) _
    (g.1 ∙ (λ j. cond (all (stands (n j)) (nodes_in a.x.named)) (cleared a.s.measures (t j)) (mapped a.s.measures (n j) (k j) (t j)))))

pub finish-requires : goal.finish-requires
finish-requires c =
    let a = c.args in
    let q = c.requires in
    let m = (λ j. matches_at a.s.measures.f a.x.version a.i a.piece.now a.area.now
    (sym c.work_at-at.ensures j + 7 + 32 * sym c.rank.ensures j))
    ∙ sym c.matches.ensures ∙ c.if-not-matches.false
    in (
      q.0,
      q.1,
      q.2,
      q.3,
      q.4,
      q.5,
      q.6,
      m,
      omega (
        arith,
        c.if-count-s.false,
        c.count.ensures,
        ap count
            c.with_node-matching.ensures,
      ),
    )

pub returns : goal.returns
returns c = c.finish.ensures
