use Rattle.recordings.proofs.BlockLaws.{block_written}
use Rattle.recordings.proofs.blocks.write_block.Goals as goal

pub returns : goal.returns
returns c =
    block_written c.args.bytes.now c.args.x.now c.args.y.now _ _ _ _ _ c.args.n c.args.s c.requires.2 c.requires.3
    c.shuffle.ensures c.shuffle-2.ensures c.shuffle-3.ensures c.spread.ensures
