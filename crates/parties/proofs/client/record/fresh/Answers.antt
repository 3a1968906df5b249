use Rattle.std.specs.Prelude.{Err}
use mathlib.Core.Path.{ap, ◌∙◌}
use mathlib.Core.List.{List, []}
use Prim.Native.Nat.{ℕ}
use Rattle.parties.specs.protocol.ClientEvents.{ClientEnd, client_fresh}
use Rattle.parties.proofs.protocol.events.LacksLaws.{fresh-lacks}
use Rattle.parties.specs.protocol.Answer.{refused}
use Rattle.parties.specs.client.Answer.{answered}
use Rattle.parties.proofs.client.BriefLaws.{brief_lacks, lacking}
use Rattle.parties.proofs.client.RecordLaws.{turned_two}
use Rattle.parties.proofs.client.record.fresh.Goals as goal

pub returns-then-client-lt5 : goal.returns-then-client-lt5
returns-then-client-lt5 c =
    let a = c.args in
    let b = brief_lacks a.s a.client.now c.if-client-lt5.true in
    let e = lacking b.0 (answered (Err c.brief.result)) (client_fresh a.s a.client.now) a.client.now [] [] (ap refused (c.brief.ensures ∙ b.2)) (fresh-lacks a.s a.client.now b.0 b.1) in (e.0, e.1)

pub returns : goal.returns
returns c =
    let a = c.args in
    let t = c.fresh-answer in
    let p = c.phase_of-p in
    let f : List ℕ → ClientEnd = λ l. client_fresh a.s l in
    turned_two a.client.now c.if-client-lt5.false f p.result p.ensures t.new.p t.new.area _ c.put_phase.ensures _ t.ensures
