use mathlib.Core.Path.{◌≡◌, sym, ap, ◌∙◌}
use Rattle.std.specs.Prelude.{Some}
use Rattle.parties.specs.declared.client.tell.Told.{Told}
use Rattle.parties.proofs.client.GateLaws.{handed, some_result, none_result}
use Rattle.parties.proofs.client.MessageLaws.{told-stored, told-reply, told-missing, told-freed, told-broken, told-long}
use Rattle.parties.proofs.client.receive.receive.Goals as goal
use Rattle.parties.proofs.client.receive.receive.Goals.{In_ok-told}

-- what the message tells
tells : (c : In_ok-told) → c.tell.result ≡ Some c.in_ok-told.told
tells c = some_result _ (sym c.ok_or.ensures.value ∙ c.in_ok-told.was)

pub returns-in_err-told : goal.returns-in_err-told
returns-in_err-told c =
    let a = c.args in
    let gone = none_result _ (sym c.ok_or.ensures.value ∙ c.in_err-told.was) in
    rw (handed c.in_err-told.field-0.0 _ c.from_residual.ensures.1)
    (rw gone.1 (sym (told-broken a.s.measures a.i _ a.message.now a.room.now a.out.now c.tell.result c.tell.ensures gone.0 c.requires.2)))

pub slice_bounds-reply-count : goal.slice_bounds-reply-count
slice_bounds-reply-count c =
    let a = c.args in
    told-long a.s.measures a.message.now c.tell.result c.tell.ensures c.in-Reply.v (tells (goal.at.slice_bounds-reply-count c).In_ok-told ∙ ap (λ (x : Told). Some x) c.in-Reply.is)

pub slice_bounds-reply-start : goal.slice_bounds-reply-start
slice_bounds-reply-start c =
    let a = c.args in
    told-long a.s.measures a.message.now c.tell.result c.tell.ensures c.in-Reply.v (tells (goal.at.slice_bounds-reply-start c).In_ok-told ∙ ap (λ (x : Told). Some x) c.in-Reply.is)

pub returns-in-Stored : goal.returns-in-Stored
returns-in-Stored c =
    let a = c.args in
    c.acknowledge.ensures a.out.now
    ∙ sym (told-stored a.s.measures a.i _ a.message.now a.room.now a.out.now c.tell.result c.tell.ensures c.in-Stored.v
    (tells (goal.at.returns-in-Stored c).In_ok-told ∙ ap (λ (x : Told). Some x) c.in-Stored.is))

pub returns-in-Freed : goal.returns-in-Freed
returns-in-Freed c =
    let a = c.args in
    sym (told-freed a.s.measures a.i _ a.message.now a.room.now a.out.now c.tell.result c.tell.ensures
    (tells (goal.at.returns-in-Freed c).In_ok-told ∙ ap (λ (x : Told). Some x) c.in-Freed.is) c.requires.2)

pub returns-in-Reply : goal.returns-in-Reply
returns-in-Reply c =
    let a = c.args in
    c.reply.ensures a.room.now
    ∙ sym (told-reply a.s.measures a.i _ a.message.now a.room.now a.out.now c.tell.result c.tell.ensures c.in-Reply.v
    (tells (goal.at.returns-in-Reply c).In_ok-told ∙ ap (λ (x : Told). Some x) c.in-Reply.is))

pub returns-in-Missing : goal.returns-in-Missing
returns-in-Missing c =
    let a = c.args in
    c.missing.ensures a.room.now a.out.now
    ∙ sym (told-missing a.s.measures a.i _ a.message.now a.room.now a.out.now c.tell.result c.tell.ensures c.in-Missing.v
    (tells (goal.at.returns-in-Missing c).In_ok-told ∙ ap (λ (x : Told). Some x) c.in-Missing.is))
