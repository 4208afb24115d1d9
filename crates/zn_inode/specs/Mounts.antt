-- What a mount shows of files, by a report of all zones. (own)
use Rattle.std.specs.Prelude.{ℕ, ◌*◌, ◌≤◌, false, List, map, slice_range, All}
use Rattle.zn_truth.specs.declared.limits.TheConstants.{BLOCK_SIZE}
use Rattle.zn_truth.specs.declared.Shape.{Shape}
use Rattle.zn_truth.specs.declared.ZoneInfo.{ZoneInfo}
use Rattle.zn_model.specs.declared.files.FileZones.{FileZones}
use Rattle.zn_model.specs.declared.files.Shown.{Shown}
use Rattle.zn_model.specs.ZoneFiles.{Layout, files_of}
use Rattle.zn_model.specs.ShownStates.{worst, holds, mounted_by}
use Rattle.zn_model.specs.Volume.{Inodes}
use Rattle.zn_report.specs.Layouts.{end_of}

-- the zones of each file are among so many
abbrev pub AreInside : ℕ → Layout → Type 0
AreInside zones layout = All (λ file. end_of file ≤ zones) (files_of layout)

-- what a report of all zones told of those of a file
abbrev pub infos_in : List ZoneInfo → FileZones → List ZoneInfo
infos_in infos file = slice_range infos file.first (end_of file)

-- what a mount shows of a file after a report of all zones
abbrev pub mounted_from : List ZoneInfo → FileZones → Shown
mounted_from infos file = mounted_by (worst (infos_in infos file)) (BLOCK_SIZE * holds (infos_in infos file))

-- the files of a layout as a mount leaves them after a report of all zones; the file system may be written
abbrev pub mounted_inodes : Layout → Shape → List ZoneInfo → Inodes
mounted_inodes layout shape infos = record { layout = layout; shape = shape; shown = map (mounted_from infos) (files_of layout); read_only = false }
