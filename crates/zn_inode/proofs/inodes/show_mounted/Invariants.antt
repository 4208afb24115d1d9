use Rattle.std.proofs.Common.{◌≡◌, ℕ, ◌<◌, false}
use Rattle.std.specs.Prelude.{slice_index_or}
use Rattle.zn_model.specs.ShownStates.{showing}
use Rattle.zn_model.specs.Volume.{no_file}
use Rattle.zn_model.specs.ZoneFiles.{files_of}
use Rattle.zn_inode.specs.Mounts.{mounted_from}
use Rattle.zn_inode.proofs.inodes.show_mounted.Given as goal

-- the files so far are shown
abbrev pub invariant-loop-f : goal.invariant-loop-f
invariant-loop-f l =
    (k : ℕ) → k < l.f → slice_index_or l.shown k (showing 0 false false false) ≡ mounted_from l.infos (slice_index_or (files_of l.layout) k no_file)
