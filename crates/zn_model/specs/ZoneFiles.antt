-- The files of a volume: which zones make which file, their names, and where a zone is shown.
-- ("filesystems/zonefs"; that `seq` exists only where it has a file is own)
use Rattle.std.specs.Prelude.{ℕ, ◌+◌, ◌-◌, ◌*◌, Bool, true, false, ◌&&◌, ◌||◌, not, ◌==◌, nat_lt, nat_le, List, [], ◌∷◌, ◌++◌, length, drop, map, if◌then◌else◌, slice_index_or, Option, Some, None, codes, position, filter, take_while}
use Rattle.std.specs.List.{range_with_len}
use Rattle.std.specs.Str.{bytes_eq}
use Rattle.std.specs.Fmt.{decimal}
use Rattle.zn_truth.specs.declared.limits.TheConstants.{BLOCK_SIZE}
use Rattle.zn_truth.specs.declared.Kind.{Kind}
use Rattle.zn_truth.specs.declared.Kind.TheVariants.{Conventional, Sequential}
use Rattle.zn_truth.specs.declared.Shape.{Shape}
use Rattle.zn_truth.specs.Truth.{room, is_sequential}
use Rattle.zn_model.specs.declared.files.FileZones.{FileZones}
use Rattle.zn_model.specs.declared.files.Place.{Place}
use Rattle.zn_model.specs.declared.files.Place.TheVariants.{Super, Cnv, Seq, Unplaced}

-- ---- layout

-- The files of `cnv` and of `seq`, each list in order of its files' numbers.
pub record Layout : Type 0 where
  pub cnv : List FileZones
  pub seq : List FileZones

-- any kind but sequential
abbrev pub is_conventional : Kind → Bool
is_conventional kind = not (is_sequential kind)

-- a zone begins a file of `seq`: it is sequential, and not the super block's
abbrev pub begins_seq : List Kind → ℕ → Bool
begins_seq kinds z = nat_lt 0 z && is_sequential (slice_index_or kinds z Sequential)

-- A zone begins a file of `cnv`: it is conventional, not the super block's, and with aggregation follows no
-- conventional zone but the super block's.
abbrev pub begins_cnv : Bool → List Kind → ℕ → Bool
begins_cnv aggr kinds z =
    nat_lt 0 z && is_conventional (slice_index_or kinds z Sequential)
    && (not aggr || (z == 1) || is_sequential (slice_index_or kinds (z - 1) Sequential))

-- how many conventional zones follow one another from a zone on
abbrev pub run_length : List Kind → ℕ → ℕ
run_length kinds z = length (take_while is_conventional (drop z kinds))

-- one conventional zone, or with aggregation the run that begins there
abbrev pub cnv_file : Bool → List Kind → ℕ → FileZones
cnv_file aggr kinds z = record { first = z; zones = if aggr then run_length kinds z else 1; seq = false }

-- one sequential zone
abbrev pub seq_file : ℕ → FileZones
seq_file z = record { first = z; zones = 1; seq = true }

-- A file for each sequential zone from zone 1 on, and for each conventional one, or with aggregation for
-- each maximal run of them.
unfoldable pub layout_of : List Kind → Bool → Layout
layout_of kinds aggr = record {
  cnv = map (cnv_file aggr kinds) (filter (begins_cnv aggr kinds) (range_with_len 0 (length kinds)));
  seq = map seq_file (filter (begins_seq kinds) (range_with_len 0 (length kinds)));
}

-- all files, by their numbers: those of `cnv` first
abbrev pub files_of : Layout → List FileZones
files_of layout = layout.cnv ++ layout.seq

-- ---- room

-- the kind of a file's zones
abbrev pub kind_of : FileZones → Kind
kind_of file = if file.seq then Sequential else Conventional

-- the blocks that each zone of a file has room for
abbrev pub zone_room_of : Shape → FileZones → ℕ
zone_room_of shape file = room shape (kind_of file)

-- the blocks that a file has room for
abbrev pub room_of : Shape → FileZones → ℕ
room_of shape file = file.zones * zone_room_of shape file

-- the bytes that a file has room for
abbrev pub capacity_of : Shape → FileZones → ℕ
capacity_of shape file = BLOCK_SIZE * room_of shape file

-- ---- names

-- `cnv/` and the file's place among the files of `cnv`, in decimal
abbrev pub cnv_path : ℕ → List ℕ
cnv_path i = codes "cnv/" ++ decimal i

-- `seq/` and the file's place among the files of `seq`, in decimal
abbrev pub seq_path : ℕ → List ℕ
seq_path i = codes "seq/" ++ decimal i

-- the paths of all files, by their numbers
abbrev pub paths_of : Layout → List (List ℕ)
paths_of layout = map cnv_path (range_with_len 0 (length layout.cnv)) ++ map seq_path (range_with_len 0 (length layout.seq))

-- the number of the file of this path
unfoldable pub file_named : Layout → List ℕ → Option ℕ
file_named layout path = position (λ p. bytes_eq p path) (paths_of layout)

-- the names of the directories below `/` that exist
abbrev pub directories_of : Layout → List (List ℕ)
directories_of layout =
    (if length layout.cnv == 0 then [] else codes "cnv" ∷ []) ++ (if length layout.seq == 0 then [] else codes "seq" ∷ [])

-- the names in a directory of so many files: `0`, `1` and so on
abbrev pub names_to : ℕ → List (List ℕ)
names_to n = map decimal (range_with_len 0 n)

-- a directory without files does not exist
abbrev pub some_names : ℕ → Option (List (List ℕ))
some_names n = if n == 0 then None else Some (names_to n)

-- the names in the directory of this path, in order, where it is one that exists
unfoldable pub listing_of : Layout → List ℕ → Option (List (List ℕ))
listing_of layout path =
    if bytes_eq path (codes "/") then Some (directories_of layout)
    else if bytes_eq path (codes "cnv") then some_names (length layout.cnv)
    else if bytes_eq path (codes "seq") then some_names (length layout.seq)
    else None

-- ---- places

-- the zone is one of the file's
abbrev pub has_zone : ℕ → FileZones → Bool
has_zone z file = nat_le file.first z && nat_lt z (file.first + file.zones)

-- in the file of `seq` that has the zone, or nowhere
abbrev pub seq_place : Option ℕ → Place
seq_place None = Unplaced
seq_place (Some i) = Seq i

-- in the file of `cnv` that has the zone, or else by the files of `seq`
abbrev pub cnv_place : Option ℕ → Option ℕ → Place
cnv_place None seq = seq_place seq
cnv_place (Some i) seq = Cnv i

-- where a zone is shown: zone 0 is the super block's, and each other one lies in one file
unfoldable pub place_of : Layout → ℕ → Place
place_of layout z = if z == 0 then Super else cnv_place (position (has_zone z) layout.cnv) (position (has_zone z) layout.seq)
