use Rattle.std.proofs.Common.{◌≡◌, ◌+◌, ◌-◌, length, drop, sym, ◌∙◌, le_of_eq, arith, length-drop, length-take-le, take_all, rules}
use Rattle.coding.proofs.PlacedLaws.{digest_is, short-piece, long-piece}
use Rattle.coding.proofs.placed.digest_placed.Goals as goal

pub slice_bounds-digest-end : goal.slice_bounds-digest-end
slice_bounds-digest-end c =
    let b = c.first_block-b.result in
    let l : length b ≡ 64 = search rules in
    sym (length-take-le (6 + length c.args.piece.now) b (omega arith))

pub returns-then-piece-lt-FRONT : goal.returns-then-piece-lt-FRONT
returns-then-piece-lt-FRONT c =
    let a = c.args in
    let b = c.first_block-b in
    let five : length a.version ≡ 5 = search rules in
    let block : length b.result ≡ 64 = search rules in
    let whole = short-piece a.version a.node a.piece.now b.result five block b.ensures (omega arith) in
    rw whole at c.digest.ensures ∙ digest_is a.version a.node a.piece.now

pub returns : goal.returns
returns c =
    let a = c.args in
    let b = c.first_block-b in
    let five : length a.version ≡ 5 = search rules in
    let block : length b.result ≡ 64 = search rules in
    let whole = long-piece a.version a.node a.piece.now b.result five block b.ensures (omega arith) in
    let rest = take_all (length a.piece.now - 58) (drop 58 a.piece.now) (le_of_eq (length-drop 58 a.piece.now)) in
    rw (rest, whole) at c.digest_after.ensures ∙ digest_is a.version a.node a.piece.now
