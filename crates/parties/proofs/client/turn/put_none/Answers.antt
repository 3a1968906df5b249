use mathlib.Core.Path.{sym, ap, ◌∙◌}
use Prim.Native.Nat.{◌+◌, ◌*◌}
use lib.ListN.{length, set}
use Rattle.parties.proofs.client.FreshLaws.{marked-none, marked_more, length_marked}
use Rattle.parties.proofs.client.turn.put_none.Goals as goal

pub loop-i-init : goal.loop-i-init
loop-i-init c = let a = c.args in marked-none a.t.now a.from a.width

pub loop-i-preserved : goal.loop-i-preserved
loop-i-preserved c =
    let a = c.args in
    let l = c.loop-i in
    (λ j. set (l.invariant j) (a.from + l.i * a.width + 4) 255) ∙ sym (marked_more a.t.now a.from a.width l.i)

pub shape_of-t : goal.shape_of-t
shape_of-t c =
    let a = c.args in
    let l = c.loop-i in ap length l.invariant ∙ length_marked a.t.now a.from a.width l.i
