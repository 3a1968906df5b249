use mathlib.Core.Path.{◌≡◌, sym, ◌∙◌}
use mathlib.Core.Bool.{true}
use native.Mathlib.Omega.{arith}
use Prim.Native.Nat.{◌≤◌}
use native.Mathlib.Nat.{mul-le-mul}
use Rattle.parties.specs.protocol.Measures.{passes}
use Rattle.parties.proofs.protocol.formats.MeasureLaws.{passed}
use Rattle.runs.proofs.event.message_slices.Goals as goal

pub overflow_mul-result : goal.overflow_mul-result
overflow_mul-result c =
    let passing : passes c.args.s ≡ true =
    sym c.pass.ensures ∙ c.if-not-pass.false in
    let s = c.args.s in
    let p = passed s passing in
    let k : s.k ≤ 16 = omega (arith, p.enough, p.nodes) in
    omega (arith, mul-le-mul k p.bytes.1)

pub overflow_sub-result : goal.overflow_sub-result
overflow_sub-result c =
    let passing : passes c.args.s ≡ true =
    sym c.pass.ensures ∙ c.if-not-pass.false in
    (passed c.args.s passing).frame
