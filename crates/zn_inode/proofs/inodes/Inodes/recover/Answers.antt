use Rattle.std.proofs.Common.{◌≤◌, subst, sym}
use Rattle.zn_model.specs.Volume.{file_at, capacity_at, shown_at}
use Rattle.zn_inode.specs.Sizes.{IsWithinRoom}
use Rattle.zn_inode.proofs.Rooms.{recovered_within}
use Rattle.zn_inode.proofs.inodes.Inodes.recover.Goals as goal

pub returns-clause-within : goal.returns-clause-within
returns-clause-within c within most =
    let inodes = c.args.self.now in
    let f = c.args.f in
    let row = recovered_within c.args.policy (record { cond = c.args.cond; held = c.args.held }) inodes.shape (file_at inodes f) (shown_at inodes f) most (within.size f c.requires) in
    let fits : c.recovered_shown-shown.result.size ≤ capacity_at inodes f = rw (c.recovered_shown-shown.ensures, c.from.ensures, c.shape.ensures, c.file.ensures, c.shown.ensures) row in
    let all = subst IsWithinRoom (sym c.self.view_is) (c.set.ensures.within within fits) in
    record { size = all.size }
