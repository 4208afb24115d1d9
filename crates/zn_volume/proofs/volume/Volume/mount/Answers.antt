use Rattle.zn_volume.proofs.Mounted.{mounted_is}
use Rattle.zn_volume.proofs.volume.Volume.mount.Goals as goal

pub returns-in-Ok-clause-ok : goal.returns-in-Ok-clause-ok
returns-in-Ok-clause-ok g c =
    let D = g.D.Zoned in
    mounted_is c.args.opts c.in-Ok.parts.super_block (D.state c.args.dev) (D.state c.take_parts.new.dev) c.in-Ok.parts.inodes c.in-Ok.parts.handles.handles c.in-Ok.parts.queue.queue c.requires.unspoilt c.in-Ok.ensures.found c.in-Ok.ensures.inodes c.in-Ok.ensures.handles c.in-Ok.ensures.queue
