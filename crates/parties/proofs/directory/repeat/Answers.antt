use mathlib.Core.Path.{◌≡◌, refl, sym, ap, ◌∙◌}
use mathlib.Core.List.{◌++◌}
use Prim.Native.Nat.{ℕ, ◌+◌, ◌*◌}
use native.Mathlib.Omega.{arith}
use lib.ListN.{take, drop, replicate}
use lib.Seq.{length-take-le}
use Rattle.coding.proofs.BytesLaws.{stride}
use Rattle.parties.specs.protocol.Format.{write_many}
use Rattle.parties.proofs.directory.RoomLaws.{many_pasted}
use Rattle.parties.proofs.directory.repeat.Goals as goal

pub loop-i-init : goal.loop-i-init
unfolding write_many
loop-i-init c =
    let a = c.args in
    let e : 0 * a.size ≡ 0 = omega arith in ap (λ (k : ℕ). drop k a.table.now) (sym e)

pub loop-i-preserved : goal.loop-i-preserved
loop-i-preserved c =
    let a = c.args in
    let l = c.loop-i in
    let x = take a.size a.row.now in
    let d : l.i * a.size + a.size ≡ (l.i + 1) * a.size = sym (stride l.i a.size) in
    c.copy.ensures
    ∙ many_pasted (λ d. d) x a.size l.i a.table.now l.table a.row.now (length-take-le a.size a.row.now c.requires.0) refl l.invariant
    ∙ ap (λ (k : ℕ). write_many (λ d. d) (replicate (l.i + 1) x) ++ drop k a.table.now) d
