use mathlib.Core.Path.{sym, ap, ◌∙◌}
use mathlib.Core.Bool.{Bool, cond}
use mathlib.Core.List.{List}
use Prim.Native.Nat.{ℕ, ◌+◌}
use lib.Seq.{paste}
use Rattle.parties.specs.protocol.Format.{write_number}
use Rattle.parties.specs.client.Reply.{went_on, cleared, mapped}
use Rattle.parties.proofs.client.ReplyLaws.{clear_done, maps_done}
use Rattle.parties.proofs.client.reply.go_on.Goals as goal

pub returns-then-all_counted : goal.returns-then-all_counted
returns-then-all_counted c =
    let a = c.args in
    let e = c.all_counted.ensures in
    let t = sym c.if-all_counted.true ∙ e in (
      ap went_on t,
      c.clear.ensures ∙ clear_done a.s.measures a.area.now _ _ c.work_at-at.ensures c.work_size-size.ensures
          ∙ ap (λ (b : Bool). cond b (cleared a.s.measures a.area.now) (mapped a.s.measures a.counted a.matching a.area.now)) t,
    )

pub returns : goal.returns
returns c =
    let a = c.args in
    let e = c.all_counted.ensures in
    let t = sym c.if-all_counted.false ∙ e in
    let at = c.work_at-at.result + c.pointer_size.result in (
      ap went_on t,
      c.put_u16-2.ensures ∙ ap (λ (l : List ℕ). paste l (at + 2) (write_number 2 a.matching) 2) c.put_u16.ensures
          ∙ maps_done a.s.measures a.area.now a.counted a.matching _ _ c.work_at-at.ensures c.pointer_size.ensures
          ∙ ap (λ (b : Bool). cond b (cleared a.s.measures a.area.now) (mapped a.s.measures a.counted a.matching a.area.now)) t,
    )
