-- Small cases of the definitions, computed.
use Rattle.std.specs.Prelude.{◌≡◌, ℕ, true, false, List, [], ◌∷◌, Some, None, Ok, Err, codes}
use Rattle.zn_base.specs.Runs.{data_text}
use Rattle.zn_truth.specs.declared.Kind.{Kind}
use Rattle.zn_truth.specs.declared.Kind.TheVariants.{Conventional, Sequential}
use Rattle.zn_truth.specs.declared.Shape.{Shape}
use Rattle.zn_truth.specs.Orders.{ReadAt}
use Rattle.zn_model.specs.declared.answers.OptError.TheVariants.{UnknownOption, Repeated, BadValue}
use Rattle.zn_model.specs.declared.files.Area.{Area}
use Rattle.zn_model.specs.declared.files.FileZones.{FileZones}
use Rattle.zn_model.specs.declared.files.Place.TheVariants.{Super, Cnv, Seq}
use Rattle.zn_model.specs.declared.files.Policy.TheVariants.{RemountRo, Repair}
use Rattle.zn_model.specs.declared.handles.Mode.{Mode}
use Rattle.zn_model.specs.declared.handles.Who.{Who}
use Rattle.zn_model.specs.Access.{access}
use Rattle.zn_model.specs.Options.{mount_options, format_options}
use Rattle.zn_model.specs.Pieces.{reads}
use Rattle.zn_model.specs.ZoneFiles.{layout_of, room_of, capacity_of, file_named, listing_of, place_of}

-- ---- layouts

-- conventional zones 0, 1, 2 and 4, and the sequential zone 3
abbrev pub five_zones : List Kind
five_zones = Conventional ∷ Conventional ∷ Conventional ∷ Sequential ∷ Conventional ∷ []

-- zones of five blocks, of which a sequential one has room for four
abbrev pub five_blocks_each : Shape
five_blocks_each = record { zone_blocks = 5; zone_capacity = 4; max_open = 0; max_active = 0 }

-- a file of so many conventional zones, from its first zone on
abbrev pub cnv_of : ℕ → ℕ → FileZones
cnv_of first zones = record { first = first; zones = zones; seq = false }

-- a file of one sequential zone
abbrev pub seq_of : ℕ → FileZones
seq_of first = record { first = first; zones = 1; seq = true }

-- A file a zone, but for the super block's; with aggregation zones 1 and 2 are one file, zone 0 is none, and
-- nothing is joined across zone 3.
pub record LayoutCases : Type 0 where
  pub plain : layout_of five_zones false ≡ record { cnv = cnv_of 1 1 ∷ cnv_of 2 1 ∷ cnv_of 4 1 ∷ []; seq = seq_of 3 ∷ [] }
  pub aggregated : layout_of five_zones true ≡ record { cnv = cnv_of 1 2 ∷ cnv_of 4 1 ∷ []; seq = seq_of 3 ∷ [] }
  pub first_file : file_named (layout_of five_zones true) (codes "cnv/1") ≡ Some 1
  pub sequential_file : file_named (layout_of five_zones true) (codes "seq/0") ≡ Some 2
  pub leading_zero : file_named (layout_of five_zones true) (codes "cnv/01") ≡ None
  pub no_file : file_named (layout_of five_zones true) (codes "cnv/2") ≡ None
  pub root : listing_of (layout_of five_zones true) (codes "/") ≡ Some (codes "cnv" ∷ codes "seq" ∷ [])
  pub cnv : listing_of (layout_of five_zones true) (codes "cnv") ≡ Some (codes "0" ∷ codes "1" ∷ [])
  pub file_is_no_directory : listing_of (layout_of five_zones true) (codes "cnv/0") ≡ None
  pub super_place : place_of (layout_of five_zones true) 0 ≡ Super
  pub joined_place : place_of (layout_of five_zones true) 2 ≡ Cnv 0
  pub seq_place : place_of (layout_of five_zones true) 3 ≡ Seq 0
  pub last_place : place_of (layout_of five_zones true) 4 ≡ Cnv 1
  pub joined_room : room_of five_blocks_each (cnv_of 1 2) ≡ 10
  pub seq_capacity : capacity_of five_blocks_each (seq_of 3) ≡ 16384

-- ---- access

-- for reading alone
abbrev pub r : Mode
r = record { 0 = 1 }

-- for reading and writing
abbrev pub rw : Mode
rw = record { 0 = 3 }

-- someone, by user and group
abbrev pub who : ℕ → ℕ → Who
who uid gid = record { uid = uid; gid = gid }

-- Permissions 640, owned by user 7 and group 8: the owner reads and writes, the group reads, others may do
-- neither, and the user 0 both. The owner's digit decides for the owner, whatever the group's says.
pub record AccessCases : Type 0 where
  pub owner : access 0o640 (who 7 8) (who 7 9) rw ≡ true
  pub group_reads : access 0o640 (who 7 8) (who 9 8) r ≡ true
  pub group_writes : access 0o640 (who 7 8) (who 9 8) rw ≡ false
  pub others : access 0o640 (who 7 8) (who 9 9) r ≡ false
  pub root : access 0 (who 7 8) (who 0 9) rw ≡ true
  pub owner_first : access 0o060 (who 7 8) (who 7 8) r ≡ false

-- ---- pieces of a read

-- five blocks from block 2 of a file of zones of four blocks, from zone 1 on
abbrev pub five_blocks : Area
five_blocks = record { first = 1; room = 4; from = 2; blocks = 5 }

-- these are the last two blocks of zone 1 and the first three of zone 2
abbrev pub PiecesCase : Type 0
PiecesCase = reads five_blocks ≡ ReadAt 1 2 2 ∷ ReadAt 2 0 3 ∷ []

-- ---- texts

-- the text of three bytes, and what option texts mean, or which fault they have first and at which byte
pub record TextCases : Type 0 where
  pub runs : data_text (97 ∷ 97 ∷ 0 ∷ []) ≡ codes "61*2+00*1"
  pub default : mount_options [] ≡ Ok (record { policy = RemountRo; explicit_open = false })
  pub repair : mount_options (codes "explicit-open,errors=repair") ≡ Ok (record { policy = Repair; explicit_open = true })
  pub bad_policy : mount_options (codes "errors=panic") ≡ Err (BadValue 7)
  pub unknown : mount_options (codes "explicit-open,foo") ≡ Err (UnknownOption 14)
  pub repeated : mount_options (codes "explicit-open,explicit-open") ≡ Err (Repeated 14)
  pub empty_item : mount_options (codes "explicit-open,") ≡ Err (UnknownOption 14)
  pub no_policy : mount_options (codes "errors=") ≡ Err (BadValue 7)
  pub no_sign : mount_options (codes "errors") ≡ Err (UnknownOption 0)
  pub format : format_options (codes "aggr_cnv,uid=7,gid=8,perm=660") ≡ Ok (record { aggr_cnv = true; uid = 7; gid = 8; perm = 0o660 })
  pub format_default : format_options [] ≡ Ok (record { aggr_cnv = false; uid = 0; gid = 0; perm = 0o640 })
  pub big_permissions : format_options (codes "perm=1000") ≡ Err (BadValue 5)
  pub four_digits : format_options (codes "perm=0777") ≡ Ok (record { aggr_cnv = false; uid = 0; gid = 0; perm = 0o777 })
  pub leading_zero : format_options (codes "uid=07") ≡ Err (BadValue 4)
