-- The calls that look at a mounted volume, and the changes that are never allowed.
-- ("filesystems/zonefs": `stat` gives the capacity in units of 512 bytes; names and attributes can't be
-- changed; the attributes are those of sysfs)
use Rattle.std.specs.Prelude.{ℕ, ◌+◌, ◌*◌, ◌/◌, ◌%◌, Bool, true, false, ◌&&◌, ◌||◌, not, nat_lt, List, length, map, count_by, if◌then◌else◌, Option, Some, None, Ok, Err}
use Rattle.std.specs.List.{range_with_len}
use Rattle.zn_truth.specs.declared.Shape.{Shape}
use Rattle.zn_truth.specs.declared.ZoneInfo.{ZoneInfo}
use Rattle.zn_truth.specs.Truth.{Truth, info_at}
use Rattle.zn_truth.specs.Orders.{Order, ReportFrom, Reply}
use Rattle.zn_truth.specs.World.{issue}
use Rattle.zn_model.specs.declared.files.Attr.{Attr}
use Rattle.zn_model.specs.declared.files.FileZones.{FileZones}
use Rattle.zn_model.specs.declared.files.Place.{Place}
use Rattle.zn_model.specs.declared.files.Shown.{Shown}
use Rattle.zn_model.specs.declared.files.Stat.{Stat}
use Rattle.zn_model.specs.declared.answers.Refusal.TheVariants.{NoSuchFile, NotAllowed}
use Rattle.zn_model.specs.declared.answers.Refusal.{Refusal}
use Rattle.zn_model.specs.ZoneFiles.{room_of, capacity_of, files_of, file_named, listing_of, place_of}
use Rattle.zn_model.specs.Access.{unwritable}
use Rattle.zn_model.specs.Volume.{Inodes, Volume, Mounted, file_at, shown_at, writers_of, wro}
use Rattle.zn_model.specs.Recovery.{refusal_of}
use Rattle.zn_model.specs.CallAnswers.{Answer, refused, answered, with_power}

-- ---- stat and entries

-- The permissions of the format, without the rights to write where the file may not be written, and none
-- where it may not be read.
abbrev pub mode_of : ℕ → Shown → ℕ
mode_of perm shown =
    if not shown.may_read then 0
    else if shown.may_write then perm
    else unwritable (perm / 64 % 8) * 64 + unwritable (perm / 8 % 8) * 8 + unwritable (perm % 8)

-- a file: its zones, shown size, room, mode and owner, and how many handles are open on it for writing
abbrev pub file_stat : Volume → ℕ → Stat
file_stat v f = record {
  dir = false;
  zone = (file_at v.inodes f).first;
  zones = (file_at v.inodes f).zones;
  size = (shown_at v.inodes f).size;
  blocks = 8 * room_of v.inodes.shape (file_at v.inodes f);
  mode = mode_of v.super_block.perm (shown_at v.inodes f);
  uid = v.super_block.uid;
  gid = v.super_block.gid;
  writers = writers_of v.handles f;
}

-- a directory: its size is its number of entries, and its other numbers are 0
abbrev pub directory_stat : ℕ → Stat
directory_stat entries = record { dir = true; zone = 0; zones = 0; size = entries; blocks = 0; mode = 0; uid = 0; gid = 0; writers = 0 }

-- a directory by its names, else a file by its number; a path of neither is refused
abbrev pub stat_by : Option (List (List ℕ)) → Option ℕ → Mounted → Answer Stat
stat_by (Some names) file m = answered (directory_stat (length names)) m
stat_by None (Some f) m = answered (file_stat m.volume f) m
stat_by None None m = refused NoSuchFile m

-- What is told of the directory or file of a path.
unfoldable pub stat_call : Mounted → List ℕ → Answer Stat
stat_call m path = with_power m (stat_by (listing_of m.volume.inodes.layout path) (file_named m.volume.inodes.layout path) m)

-- how many names a directory has; a path of no directory is refused
abbrev pub entries_by : Option (List (List ℕ)) → Mounted → Answer ℕ
entries_by None m = refused NoSuchFile m
entries_by (Some names) m = answered (length names) m

-- The number of entries of the directory of a path.
unfoldable pub entries_call : Mounted → List ℕ → Answer ℕ
entries_call m path = with_power m (entries_by (listing_of m.volume.inodes.layout path) m)

-- ---- attributes

-- a sequential file that may be written, and is held open or shown partly full
abbrev pub is_shown_active : Shape → FileZones → Shown → Bool
is_shown_active shape file shown =
    file.seq && shown.may_write && (shown.held_open || (nat_lt 0 shown.size && nat_lt shown.size (capacity_of shape file)))

-- how many files are shown active
abbrev pub shown_active : Inodes → ℕ
shown_active inodes =
    count_by (λ f. is_shown_active inodes.shape (file_at inodes f) (shown_at inodes f)) (range_with_len 0 (length (files_of inodes.layout)))

-- the device's two limits; how many sequential files are open for writing, and how many are shown active
abbrev pub attributes_of : Mounted → Attr
attributes_of m = record {
  max_wro = m.world.truth.shape.max_open;
  nr_wro = wro m.volume;
  max_active = m.world.truth.shape.max_active;
  nr_active = shown_active m.volume.inodes;
}

-- The attributes of the volume.
unfoldable pub attr_call : Mounted → Answer Attr
attr_call m = with_power m (answered (attributes_of m) m)

-- ---- changes, report, place

-- A change of names or attributes, which is never allowed, with power or without.
abbrev pub change_refusal : Refusal
change_refusal = NotAllowed

-- what a report tells of all zones
abbrev pub all_infos : Truth → List ZoneInfo
all_infos t = map (info_at t) (range_with_len 0 (length t.zones))

-- one report, from zone 0 to the last
abbrev pub report_all : Truth → Order
report_all t = ReportFrom 0 (length t.zones)

-- what the report tells, or the refusal that its failure is told as
abbrev pub after_report : Reply → List ZoneInfo → Mounted → Answer (List ZoneInfo)
after_report (Ok unit) infos m = answered infos m
after_report (Err error) infos m = refused (refusal_of error) m

-- One report of all zones; no recovery follows its failure.
unfoldable pub report_call : Mounted → Answer (List ZoneInfo)
report_call m = after_report (issue m.world (report_all m.world.truth)).reply (all_infos m.world.truth) (record m { world = (issue m.world (report_all m.world.truth)).world })

-- where a zone is shown
abbrev pub place_in : Volume → ℕ → Place
place_in v z = place_of v.inodes.layout z
