use Rattle.std.specs.Prelude.{Err}
use mathlib.Core.Path.{ap, ◌∙◌}
use mathlib.Core.List.{List}
use Prim.Native.Nat.{ℕ}
use Rattle.parties.specs.protocol.ClientEvents.{ClientEnd, client_message}
use Rattle.parties.proofs.protocol.events.LacksLaws.{message_lacks}
use Rattle.parties.specs.protocol.Answer.{refused}
use Rattle.parties.specs.client.Answer.{answered}
use Rattle.parties.proofs.client.BriefLaws.{brief_lacks, lacking}
use Rattle.parties.proofs.client.RecordLaws.{turned-four}
use Rattle.parties.proofs.client.record.receive.Goals as goal

pub returns-then-client-lt5 : goal.returns-then-client-lt5
returns-then-client-lt5 c =
    let a = c.args in
    let b = brief_lacks a.s a.client.now c.if-client-lt5.true in
    let e = lacking b.0 (answered (Err c.brief.result)) (client_message a.s a.own a.i a.client.now a.b.now a.room.now a.out.now) a.client.now a.room.now a.out.now (ap refused (c.brief.ensures ∙ b.2)) (message_lacks a.s a.client.now b.0 b.1 a.own a.i a.b.now a.room.now a.out.now) in (e.0, e.1, e.2, e.3)

pub returns : goal.returns
returns c =
    let a = c.args in
    let t = c.receive-answer in
    let p = c.phase_of-p in
    let f : List ℕ → ClientEnd = λ l. client_message a.s a.own a.i l a.b.now a.room.now a.out.now in
    turned-four a.client.now c.if-client-lt5.false f p.result p.ensures t.new.p t.new.area _ c.put_phase.ensures _ _ _ t.ensures
