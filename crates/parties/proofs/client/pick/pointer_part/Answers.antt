use mathlib.Core.Path.{sym, ap, ◌∙◌}
use native.Mathlib.Omega.{arith}
use lib.Seq.{length-take-le}
use Rattle.coding.proofs.NodesLaws.{nodes-few}
use Rattle.parties.specs.protocol.Nodes.{count as count_of}
use Rattle.parties.proofs.records.BytesLaws.{two-read}
use Rattle.parties.proofs.client.PickLaws.{part-all, part_cut}
use Rattle.parties.proofs.client.pick.pointer_part.Goals as goal

pub returns-then-s-lt7 : goal.returns-then-s-lt7
returns-then-s-lt7 c = part-all c.args.s.now (omega arith)

pub overflow_mul-n : goal.overflow_mul-n
overflow_mul-n c = omega (arith, c.count.ensures, nodes-few c.u16_at.result 16)

pub overflow_add-n : goal.overflow_add-n
overflow_add-n c = omega (arith, c.count.ensures, nodes-few c.u16_at.result 16)

pub returns-then-s-n : goal.returns-then-s-n
returns-then-s-n c =
    let e = (c.count.ensures ∙ ap count_of (two-read c.args.s.now 5 _ _ (omega arith) c.u16_at.ensures)) in
    part-all c.args.s.now (omega arith)

pub slice_bounds-result-end : goal.slice_bounds-result-end
slice_bounds-result-end c = sym (length-take-le _ c.args.s.now (omega arith))

pub returns : goal.returns
returns c =
    part_cut c.args.s.now _ (c.count.ensures ∙ ap count_of (two-read c.args.s.now 5 _ _ (omega arith) c.u16_at.ensures))
