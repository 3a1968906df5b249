use Rattle.std.specs.Prelude.{Err}
use mathlib.Core.Path.{ap, ◌∙◌}
use mathlib.Core.List.{List, []}
use Prim.Native.Nat.{ℕ}
use Rattle.parties.specs.protocol.ClientEvents.{ClientEnd, start_deposit}
use Rattle.parties.proofs.protocol.events.LacksLaws.{deposit-lacks}
use Rattle.parties.specs.protocol.Answer.{refused}
use Rattle.parties.specs.client.Answer.{answered}
use Rattle.parties.proofs.client.BriefLaws.{brief_lacks, lacking}
use Rattle.parties.proofs.client.RecordLaws.{turned_two}
use Rattle.parties.proofs.client.record.deposit.Goals as goal

pub returns-then-client-lt5 : goal.returns-then-client-lt5
returns-then-client-lt5 c =
    let a = c.args in
    let b = brief_lacks a.s a.client.now c.if-client-lt5.true in
    let e = lacking b.0 (answered (Err c.brief.result)) (start_deposit a.s a.own a.client.now a.page.now) a.client.now [] [] (ap refused (c.brief.ensures ∙ b.2)) (deposit-lacks a.s a.client.now b.0 b.1 a.own a.page.now) in (e.0, e.1)

pub returns : goal.returns
returns c =
    let a = c.args in
    let t = c.deposit-answer in
    let p = c.phase_of-p in
    let f : List ℕ → ClientEnd = λ l. start_deposit a.s a.own l a.page.now in
    turned_two a.client.now c.if-client-lt5.false f p.result p.ensures t.new.p t.new.area _ c.put_phase.ensures _ t.ensures
