use mathlib.Core.Path.{◌≡◌, sym, ◌∙◌}
use mathlib.Core.Bool.{true}
use native.Mathlib.Omega.{arith}
use Rattle.parties.proofs.client.FormLaws.{sizes}
use Rattle.parties.specs.protocol.Measures.{passes}
use Rattle.parties.proofs.sizes.record.Goals as goal

pub overflow_add-result : goal.overflow_add-result
overflow_add-result c =
    let good : passes c.args.s ≡ true =
    sym c.pass.ensures ∙ c.if-not-pass.false in
    let z = sizes c.args.s good in omega (arith, z.clients, z.nodes, z.pieces, z.pointer, z.pointers, c.area_size-area.ensures)
