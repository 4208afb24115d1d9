use Rattle.zn_super.proofs.Blocks.{written, is_super_block}
use Rattle.zn_super.proofs.block.put_fields.Goals as goal

pub returns-clause-block : goal.returns-clause-block
returns-clause-block c = search written fits 20000

pub returns-clause-sound : goal.returns-clause-sound
returns-clause-sound c = λ perm. is_super_block _ c.put_label.ensures.label c.told-uuid c.fits-uuid c.ranges.uid.fits c.ranges.gid.fits perm
