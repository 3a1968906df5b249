use Rattle.std.proofs.Common.{Fits, w8, get_or, rules}
use mathlib.Core.Path.{◌≡◌, sym, ap, ◌∙◌}
use mathlib.Core.List.{List}
use Prim.Native.Nat.{ℕ, ◌+◌, ◌-◌}
use native.Mathlib.Omega.{arith}
use lib.ListN.{length, replicate}
use lib.Seq.{paste}
use Rattle.coding.specs.Answer.{outcome}
use Rattle.coding.specs.Join.{JoinEnd}
use Rattle.std.specs.Prelude.{Ok, Err}
use Rattle.parties.specs.declared.ClientAnswer.{ClientAnswer}
use Rattle.parties.specs.declared.Refusal.{Refusal}
use Rattle.parties.specs.client.End.{step_end}
use Rattle.parties.proofs.client.FormLaws.{sizes}
use Rattle.parties.proofs.client.ReplyLaws.{lengths_at, matches-short, lengths-within, clear_done, page_end_lem, refused_end, join-told}
use Rattle.parties.proofs.client.GateLaws.{work_within, Opened, opens}
use Rattle.parties.proofs.client.reply.finish.Goals as goal
use Rattle.parties.proofs.client.reply.finish.Goals.{After-work_at-at}

-- the client's record reads
opened_at : (c : After-work_at-at) → let a = c.args in Opened a.s.measures a.p a.area.now
opened_at c =
    let a = c.args in
    let q = c.requires in
    opens a.s.measures a.p a.area.now c.args.s.pass q.2 (omega arith) (omega arith) (λ i. let b : Fits w8 (get_or c.args.area.now i 0) = search rules in b.fits)

pub overflow_add-lens : goal.overflow_add-lens
overflow_add-lens c =
    let z = sizes c.args.s.measures c.args.s.pass in
    omega (arith, c.work_at-at.ensures, c.pointer_size.ensures, z.pointers, z.pointer, z.clients)

pub overflow_add-lens-2 : goal.overflow_add-lens-2
overflow_add-lens-2 c =
    let z = sizes c.args.s.measures c.args.s.pass in
    omega (arith, c.work_at-at.ensures, c.pointer_size.ensures, z.pointers, z.pointer, z.clients)

pub with_node-matching-requires : goal.with_node-matching-requires
with_node-matching-requires c =
    let q = c.requires in (q.0, omega (arith, q.1, (sizes c.args.s.measures c.args.s.pass).nodes))

pub join_with-requires : goal.join_with-requires
join_with-requires c =
    let opened = opened_at (goal.at.join_with-requires c).After-work_at-at in
    let a = c.args in
    let q = c.requires in (
      q.0,
      q.1,
      omega (
        arith,
        lengths-within a.s.measures a.p a.area.now
            opened,
        c.work_at-at.ensures,
        c.pointer_size.ensures,
      ),
      matches-short a.s.measures.f a.x.version a.i
          a.piece.now a.area.now _ q.7,
    )

pub returns-in_default : goal.returns-in_default
returns-in_default c =
    let opened = opened_at (goal.at.returns-in_default c).After-work_at-at in
    let a = c.args in
    let q = c.requires in
    let g = c.join_with.ensures in
    let lens : c.work_at-at.result + c.pointer_size.result + 4 ≡ lengths_at
    a.s.measures = λ j. c.work_at-at.ensures j + c.pointer_size.ensures j + 4
    in
    let z : JoinEnd = record { outcome = outcome c.join_with.result; out = c.join_with.new.out } in
    λ room.
    let r = sym (refused_end a.s.measures a.p a.area.now opened q.4 a.i q.0 q.1 a.v a.x q.5 a.piece.now
    (λ i. (c.type_inv.piece i).fits) q.6 q.7 q.8 room a.out.now z
    (join-told a.s.measures a.i a.piece.now a.area.now a.out.now _ _ _ lens c.with_node-matching.ensures z g.0 g.1) _ (ap outcome c.in_default.is))
    in
    ap (λ (l : List ℕ). step_end a.p (Err Refusal.Form) l room z.out) g.2 ∙ r

pub overflow_add-at : goal.overflow_add-at
overflow_add-at c =
    let z = sizes c.args.s.measures c.args.s.pass in
    omega (arith, c.work_at-at.ensures, c.work_size-size.ensures, z.pointers, z.pointer, z.clients, z.pieces, z.nodes)

pub clear-requires : goal.clear-requires
clear-requires c =
    let opened = opened_at (goal.at.clear-requires c).After-work_at-at in
    let a = c.args in
    let q = c.requires in
    let w = work_within a.s.measures a.p a.area.now opened in
    (omega arith, omega (arith, w, c.work_at-at.ensures, c.work_size-size.ensures, ap length c.join_with.ensures.2))

pub returns : goal.returns
returns c =
    let opened = opened_at (goal.at.returns c).After-work_at-at in
    let a = c.args in
    let q = c.requires in
    let g = c.join_with.ensures in
    let at = c.work_at-at.result in
    let to : ℕ = at + c.work_size-size.result - at in
    let lens : at + c.pointer_size.result + 4 ≡ lengths_at a.s.measures = λ j. c.work_at-at.ensures j + c.pointer_size.ensures j + 4 in
    let z : JoinEnd = record { outcome = outcome c.join_with.result; out = c.join_with.new.out } in
    let x = c.clear.ensures ∙ ap (λ (l : List ℕ). paste l at (replicate to 0) to) g.2 ∙ clear_done a.s.measures a.area.now _ _ c.work_at-at.ensures c.work_size-size.ensures in
    λ room.
    let r = sym (page_end_lem a.s.measures a.p a.area.now opened q.4 a.i q.0 q.1 a.v a.x q.5 a.piece.now
    (λ i. (c.type_inv.piece i).fits) q.6 q.7 q.8 room a.out.now z
    (join-told a.s.measures a.i a.piece.now a.area.now a.out.now _ _ _ lens c.with_node-matching.ensures z g.0 g.1) _
    (ap outcome c.in-Ok.is))
    in
    ap (λ (l : List ℕ). step_end a.p (Ok (ClientAnswer.Page a.x.version c.in-Ok.len)) l room z.out) x ∙ r
