use Rattle.std.proofs.Common.{◌≡◌, min, arith}
use Rattle.coding.proofs.AreasLaws.{columns-empty, columns_next}
use Rattle.coding.proofs.split.write_pieces.Goals as goal

pub loop-j-init : goal.loop-j-init
loop-j-init c = let z : min 0 c.args.len ≡ 0 = omega arith in rw z (columns-empty _ _ _ _ _)

pub loop-j-preserved : goal.loop-j-preserved
loop-j-preserved c =
    let here : min c.loop-j.j c.args.len ≡ c.loop-j.j = omega arith in
    columns_next _ _ c.loop-j.j c.min.result _ _ _ _ _ (omega (arith, c.min.ensures)) (omega arith) (rw here at c.loop-j.invariant) c.write_block.ensures

pub returns : goal.returns
returns c =
    let z : min c.loop-j.j c.args.len ≡ c.args.len = omega arith in rw z at c.loop-j.invariant

pub returns-2 : goal.returns-2
returns-2 c =
    let here : min c.loop-j.j c.args.len ≡ c.loop-j.j = omega arith in
    columns_next _ _ c.loop-j.j c.min.result _ _ _ _ _ (omega (arith, c.min.ensures)) (omega arith) (rw here at c.loop-j.invariant) c.write_block.ensures
