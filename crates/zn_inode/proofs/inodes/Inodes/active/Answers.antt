use Rattle.std.proofs.Common.{◌≤◌, length, arith}
use Rattle.zn_model.specs.ZoneFiles.{files_of}
use Rattle.zn_inode.proofs.Kept.{active_within}
use Rattle.zn_inode.proofs.inodes.Inodes.active.Goals as goal

pub returns-clause-most : goal.returns-clause-most
returns-clause-most c =
    let most : c.self.inside.active ≤ length (files_of c.self.inside.layout) =
    omega (arith, active_within c.self.inside.layout c.self.inside.shape c.self.inside.shown.items, c.self.invariant.count) in
    rw (← c.self.view_is) most
