use Rattle.binder.proofs.WholeBlocks.{put_block}
use Rattle.binder.proofs.block.put.Goals as goal

pub returns : goal.returns
returns c = rw c.replace.ensures.after (put_block c.args.blocks.now.items c.args.number c.args.block)
