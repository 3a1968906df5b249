use mathlib.Core.Path.{refl, sym, ◌∙◌}
use Rattle.runs.specs.Happens.{Happens}
use Rattle.runs.specs.Parcels.{to_client_kind}
use Rattle.runs.specs.Acts.{Acts}
use Rattle.runs.proofs.PostLaws.{key-client}
use Rattle.parties.proofs.protocol.events.DepositStartLaws.{deposit-room}
use Rattle.runs.proofs.GoesLaws.{deposit-goes}
use Rattle.runs.proofs.StartLaws.{deposited-sized}
use Rattle.runs.proofs.EventLaws.{uncleared_happens, start_bounds}
use Rattle.runs.proofs.event.deposit.Goals as goal

pub starts-requires : goal.starts-requires
starts-requires c =
    let y = c.in-Ok.ensures in
    let a = c.args in (y.0, deposited-sized a.s c.deposit-a.result a.c _ a.page.now c.deposit-a.ensures.0)

pub returns-in-Err : goal.returns-in-Err
returns-in-Err c =
    λ honest. let a = c.args in
    uncleared_happens (λ ok. start_bounds a.s ok a.c)
    (λ ok. refl)
    c.in-Err.ensures

pub returns-in-Ok : goal.returns-in-Ok
returns-in-Ok c =
    let y = c.in-Ok.ensures in
    λ honest.
    let a = c.args in
    let d = c.deposit-a in
    let t = c.starts in
    Happens.happens t.result (record { roomy = y.0; bounds = sym (start_bounds a.s y.0.measures a.c) ∙ y.1; list = y.2 }) t.ensures.0
    (Acts.deposits a.c a.page.now d.result t.result (record { answer = d.ensures.0; memory = d.ensures.1; room = sym (deposit-room _ _ _ _) }) refl t.ensures.1)
    (λ es h. deposit-goes a.s y.0.measures honest es a.memory.now a.post.now a.used h a.c a.page.now d.result d.new.memory t.new.post t.result (key-client a.s to_client_kind a.c 1 y.1)
    (deposited-sized a.s d.result a.c _ a.page.now d.ensures.0) d.ensures.0 d.ensures.1 t.ensures.1)
