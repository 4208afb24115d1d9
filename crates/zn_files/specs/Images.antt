-- The images of a directory that are named. (own)
use Rattle.std.specs.Prelude.{ℕ, List, length, map, slice_index, Option, Some, is_some, if◌then◌else◌}
use Rattle.std.specs.List.{range_with_len}
use Rattle.zn_stand.specs.File.{File, value_left}
use Rattle.zn_stand.specs.Maps.{mapped}
use Rattle.zn_stand.specs.Directory.{Directory, Contents}
use Rattle.zn_files.specs.declared.images.Choice.{Choice}
use Rattle.zn_files.specs.declared.images.Choice.TheVariants.{Least, Most, Filled}

-- the bytes as a read gives them, with this value in place of each that a stop may leave as anything
abbrev pub filled : ℕ → File → List ℕ
filled value f = map (λ i. if is_some (value_left f i) then slice_index f.bytes i else value) (range_with_len 0 (length f.bytes))

-- what is left of a file by a choice, if it is there
abbrev pub left_by : Choice → File → Option (List ℕ)
left_by Least f = f.at_sync
left_by Most f = Some f.bytes
left_by (Filled value) f = Some (filled value f)

-- what is left of a directory by a choice, of each file by itself
abbrev pub image_by : Choice → Directory → Contents
image_by choice d = mapped (left_by choice) d
