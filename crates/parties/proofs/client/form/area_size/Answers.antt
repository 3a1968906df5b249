use native.Mathlib.Omega.{arith}
use Rattle.parties.proofs.client.FormLaws.{sizes}
use Rattle.parties.proofs.client.form.area_size.Goals as goal

pub overflow_add-result : goal.overflow_add-result
overflow_add-result c =
    let z = sizes c.args.s.measures c.args.s.pass in
    omega (arith, z.clients, z.nodes, z.pieces, z.pointer, z.pointers, c.work_at-at.ensures, c.work_size-size.ensures)
