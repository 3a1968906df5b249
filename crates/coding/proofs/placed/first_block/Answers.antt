use Rattle.std.proofs.Common.{◌≡◌, length, rules}
use Rattle.coding.proofs.PlacedLaws.{block_law}
use Rattle.coding.proofs.placed.first_block.Goals as goal

pub returns : goal.returns
returns c =
    let a = c.args in
    let five : length a.version ≡ 5 = search rules in
    block_law a.version a.node a.piece.now _ _ c.min-front.result five c.copy_from_slice.ensures.after c.min-front.ensures c.copy_from_slice-2.ensures.after
