use Rattle.std.proofs.Common.{length, ap, ◌∙◌, arith}
use Rattle.std.proofs.lemmas.Grind.{common_steps}
use Rattle.zn_inode.specs.Kept.{active_among}
use Rattle.zn_inode.proofs.Kept.{kept_start}
use Rattle.zn_inode.proofs.inodes.Inodes.new.Goals as goal

pub invariant_of-result : goal.invariant_of-result
invariant_of-result c =
    kept_start (length c.args.infos.now) c.args.layout c.args.shape _ c.in_ok-places.places.items c.count_active-active.result
    c.requires.inside c.files.ensures.most (grind (arith, common_steps)) c.in_ok-places.ensures
    (c.count_active-active.ensures ∙ ap (active_among c.args.layout c.args.shape) c.deref.ensures.value)
