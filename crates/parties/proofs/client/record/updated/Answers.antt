use Rattle.std.specs.Prelude.{Err}
use mathlib.Core.Path.{ap, ◌∙◌}
use mathlib.Core.List.{List, []}
use Prim.Native.Nat.{ℕ}
use Rattle.parties.specs.protocol.ClientEvents.{ClientEnd, update_answer}
use Rattle.parties.proofs.protocol.events.LacksLaws.{updated-lacks}
use Rattle.parties.specs.protocol.Answer.{refused}
use Rattle.parties.specs.client.Answer.{answered}
use Rattle.parties.proofs.client.BriefLaws.{brief_lacks, lacking}
use Rattle.parties.proofs.client.RecordLaws.{turned_three}
use Rattle.parties.proofs.client.record.updated.Goals as goal

pub returns-then-client-lt5 : goal.returns-then-client-lt5
returns-then-client-lt5 c =
    let a = c.args in
    let b = brief_lacks a.s a.client.now c.if-client-lt5.true in
    let e = lacking b.0 (answered (Err c.brief.result)) (update_answer a.s a.own a.client.now a.room.now) a.client.now a.room.now [] (ap refused (c.brief.ensures ∙ b.2)) (updated-lacks a.s a.client.now b.0 b.1 a.own a.room.now) in (e.0, e.1, e.2)

pub returns : goal.returns
returns c =
    let a = c.args in
    let t = c.updated-answer in
    let p = c.phase_of-p in
    let f : List ℕ → ClientEnd = λ l. update_answer a.s a.own l a.room.now in
    turned_three a.client.now c.if-client-lt5.false f p.result p.ensures t.new.p t.new.area _ c.put_phase.ensures _ _ t.ensures
