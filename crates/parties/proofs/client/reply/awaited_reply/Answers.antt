use mathlib.Core.Path.{◌≡◌, sym, ◌∙◌}
use Prim.Native.Nat.{◌+◌}
use native.Mathlib.Omega.{arith}
use Rattle.parties.specs.client.Record.{work_at}
use Rattle.parties.specs.client.Reply.{standing_at, maps_at}
use Rattle.parties.proofs.client.FormLaws.{sizes}
use Rattle.parties.proofs.client.ReplyLaws.{other_end, skipped_end}
use Rattle.parties.proofs.client.GateLaws.{work_within, Opened, opens}
use Rattle.parties.proofs.client.reply.awaited_reply.Goals as goal
use Rattle.parties.proofs.client.reply.awaited_reply.Goals.{After-standing_at-x, After-work_at-at}

-- the client's record reads
opened_at : (c : After-work_at-at) → let a = c.args in Opened a.s.measures a.p a.area.now
opened_at c =
    let a = c.args in
    let q = c.requires in
    opens a.s.measures a.p a.area.now c.args.s.pass q.2 (omega arith) (omega arith) (λ i. (c.type_inv.area i).fits)

-- what was read is the reading's
told : (c : After-standing_at-x) → let a = c.args in c.standing_at-x.result ≡ standing_at a.area.now (work_at a.s.measures) (maps_at a.s.measures)
told c =
    let a = c.args in
    c.standing_at-x.ensures ∙ (λ j. standing_at a.area.now (c.work_at-at.ensures j) (c.work_at-at.ensures j + c.pointer_size.ensures j))

pub returns-then-p-ne-FETCHING : goal.returns-then-p-ne-FETCHING
returns-then-p-ne-FETCHING c =
    let a = c.args in
    let q = c.requires in
    let opened = opens a.s.measures a.p a.area.now c.args.s.pass q.2 (omega arith) (omega arith) (λ i. (c.type_inv.area i).fits) in
    λ y room out. other_end a.s.measures a.p a.area.now opened a.i a.v y room out c.if-p-ne-FETCHING.true

pub overflow_add-at : goal.overflow_add-at
overflow_add-at c =
    let z = sizes c.args.s.measures c.args.s.pass in
    omega (arith, c.work_at-at.ensures, c.pointer_size.ensures, z.pointers, z.pointer, z.clients)

pub standing_at-x-requires : goal.standing_at-x-requires
standing_at-x-requires c =
    let a = c.args in
    let w = work_within a.s.measures a.p a.area.now (opened_at (goal.at.standing_at-x-requires c).After-work_at-at) in
    (omega (arith, w, c.work_at-at.ensures), omega (arith, w, c.work_at-at.ensures, c.pointer_size.ensures))

pub counts-requires : goal.counts-requires
counts-requires c = let q = c.requires in (q.0, omega (arith, q.1, (sizes c.args.s.measures c.args.s.pass).nodes))

pub returns-then-not-counts : goal.returns-then-not-counts
returns-then-not-counts c =
    let a = c.args in
    let q = c.requires in
    let opened = opened_at (goal.at.returns-then-not-counts c).After-work_at-at in
    λ y room out. skipped_end a.s.measures a.p a.area.now opened c.if-p-ne-FETCHING.false a.i q.0 q.1 a.v
    c.standing_at-x.result (told (goal.at.returns-then-not-counts c).After-standing_at-x) y room out (sym c.counts.ensures ∙ c.if-not-counts.true)

pub returns : goal.returns
returns c = (c.if-p-ne-FETCHING.false, told (goal.at.returns c).After-standing_at-x, sym c.counts.ensures ∙ c.if-not-counts.false)
