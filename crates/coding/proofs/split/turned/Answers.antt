use Rattle.std.proofs.Common.{◌≡◌, length, arith, rules}
use Rattle.coding.proofs.SplitLaws.{turned}
use Rattle.coding.proofs.split.turned.Goals as goal

pub returns : goal.returns
returns c =
    let l : length c.add-next.result ≡ 16 = search rules in
    turned c.args.room.now c.args.at c.args.m c.args.x c.args.row c.load-sums.result c.scale.result c.add-next.result _
    (omega arith) l c.load-sums.ensures c.scale.ensures c.add-next.ensures c.store.ensures
