use Rattle.zn_super.proofs.Blocks.{copies_read}
use Rattle.zn_super.proofs.block.Super.decode.Goals as goal

pub returns-clause-copies : goal.returns-clause-copies
returns-clause-copies c =
    copies_read c.read.result c.args.first.now c.args.second.now c.told-first c.told-second c.fits-first c.fits-second c.read.ensures
