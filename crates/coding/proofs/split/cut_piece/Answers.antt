use Rattle.std.proofs.Common.{◌≡◌, min, length, arith, rules}
use Rattle.coding.specs.Pieces.{piece_byte, frame}
use Rattle.coding.proofs.BytesLaws.{Front, front-none, front_next}
use Rattle.coding.proofs.split.cut_piece.Goals as goal

pub loop-j-init : goal.loop-j-init
loop-j-init c = let z : min 0 c.args.len ≡ 0 = omega arith in rw z (front-none _ _)

pub loop-j-preserved : goal.loop-j-preserved
loop-j-preserved c =
    let here : min c.loop-j.j c.args.len ≡ c.loop-j.j = omega arith in
    let v = c.cut_block.result in
    let s : length v ≡ 16 = search rules in
    front_next _ _ _ _ c.loop-j.j c.min-m.result _ v (omega (arith, c.min-m.ensures)) c.store.ensures (omega arith) (omega arith)
    (rw here at c.loop-j.invariant) c.cut_block.ensures

pub returns : goal.returns
returns c =
    let z : min c.loop-j.j c.args.len ≡ c.args.len = omega arith in
    (rw z at c.loop-j.invariant).done

pub returns-2 : goal.returns-2
returns-2 c =
    let a = c.args in
    let here : min c.loop-j.j a.len ≡ c.loop-j.j = omega arith in
    let v = c.cut_block.result in
    let s : length v ≡ 16 = search rules in
    let f : Front a.room.now (piece_byte a.k (frame a.k a.page.now) a.x) c.store.new.room a.len =
    front_next _ _ _ _ c.loop-j.j c.min-m.result _ v (omega (arith, c.min-m.ensures)) c.store.ensures (omega arith) (omega arith)
    (rw here at c.loop-j.invariant) c.cut_block.ensures
    in f.done
