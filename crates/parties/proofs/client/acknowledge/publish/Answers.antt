use Rattle.std.proofs.Common.{Fits, w8, get_or, rules}
use mathlib.Core.Path.{sym}
use native.Mathlib.Omega.{arith}
use Rattle.parties.proofs.client.AcknowledgeLaws.{published_bits, published_enough, published_retained, published_pointer, published_long, stored_published}
use Rattle.parties.proofs.client.GateLaws.{work_within, Opened, opens}
use Rattle.parties.proofs.client.acknowledge.publish.Goals as goal
use Rattle.parties.proofs.client.acknowledge.publish.Goals.{After-work_at-at}

-- the client's record reads
opened_at : (c : After-work_at-at) → let a = c.args in Opened a.s.measures a.p a.area.now
opened_at c =
    let a = c.args in
    let q = c.requires in
    opens a.s.measures a.p a.area.now c.args.s.pass q.2 (omega arith) (omega arith) (λ i. let b : Fits w8 (get_or c.args.area.now i 0) = search rules in b.fits)

pub form_pointer-requires : goal.form_pointer-requires
form_pointer-requires c =
    let opened = opened_at (goal.at.form_pointer-requires c).After-work_at-at in
    let a = c.args in
    let q = c.requires in (
      published_bits a.s.measures a.p a.area.now opened a.i a.v q.4 q.5 a.map q.6 q.0 q.1 q.7,
      published_enough a.s.measures a.p a.area.now opened a.i a.v q.4 q.5 a.map q.6 q.0 q.1 q.7,
      omega (arith, work_within a.s.measures a.p a.area.now opened, c.work_at-at.ensures),
    )

pub put_update-len-requires : goal.put_update-len-requires
put_update-len-requires c =
    let opened = opened_at (goal.at.put_update-len-requires c).After-work_at-at in
    let a = c.args in
    let q = c.requires in
    let form-pointer = c.form_pointer in (
      published_retained a.s.measures a.p a.area.now opened a.i a.v q.4 q.5 a.map q.6 q.0 q.1 q.7 c.work_at-at.result c.work_at-at.ensures _ form-pointer.ensures,
      published_pointer a.s.measures a.p a.area.now opened a.i a.v q.4 q.5 a.map q.6 q.0 q.1 q.7 c.work_at-at.result c.work_at-at.ensures _ form-pointer.ensures,
      published_long a.s.measures a.p a.area.now opened a.i a.v q.4 q.5 a.map q.6 q.0 q.1 q.7 c.work_at-at.result c.work_at-at.ensures _ form-pointer.ensures,
      q.3,
    )

pub returns : goal.returns
returns c =
    let opened = opened_at (goal.at.returns c).After-work_at-at in
    λ out.
    let a = c.args in
    let q = c.requires in
    let put-update = c.put_update-len in
    sym (stored_published a.s.measures a.p a.area.now opened a.i a.v q.4 q.5 a.map q.6 q.0 q.1 q.7 c.work_at-at.result c.work_at-at.ensures _
    c.form_pointer.ensures
    a.room.now put-update.result put-update.ensures.0 _ put-update.ensures.1 out)
