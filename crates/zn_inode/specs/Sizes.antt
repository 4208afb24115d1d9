-- What files show, and what they have room for. (own)
use Rattle.std.specs.Prelude.{ℕ, ◌<◌, ◌≤◌, length}
use Rattle.zn_model.specs.ZoneFiles.{files_of}
use Rattle.zn_model.specs.Volume.{Inodes, capacity_at, shown_at}

-- no file shows more than it has room for
pub record IsWithinRoom (inodes : Inodes) : Type 0 where
  pub size : (f : ℕ) → f < length (files_of inodes.layout) → (shown_at inodes f).size ≤ capacity_at inodes f
