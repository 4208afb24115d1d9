-- What a directory holds of a device besides the bytes of its zones. (own)
use Rattle.std.specs.Prelude.{◌≡◌, ℕ, ◌<◌, ◌≤◌, not, List, [], length, map, count_by, slice_index_or, Option, Some, None, IsTrue, IsSome, ⊤}
use Rattle.zn_truth.specs.declared.Kind.{Kind}
use Rattle.zn_truth.specs.declared.Kind.TheVariants.{Sequential}
use Rattle.zn_truth.specs.declared.Cond.{Cond}
use Rattle.zn_truth.specs.declared.Cond.TheVariants.{Good, ReadOnly, Offline}
use Rattle.zn_truth.specs.declared.Shape.{Shape}
use Rattle.zn_truth.specs.Truth.{is_sequential, is_offline}
use Rattle.zn_zone.specs.Facts.{ZoneFacts, Facts}
use Rattle.zn_stand.specs.declared.numbers.Geometry.{Geometry}
use Rattle.zn_stand.specs.File.{File, at_rest}
use Rattle.zn_stand.specs.Maps.{Name}
use Rattle.zn_stand.specs.Directory.{Directory, file_at}
use Rattle.zn_stand.specs.ZoneNames.{geometry_of_device, device_name, zone_name, read_only_name, offline_name, is_name_of}
use Rattle.zn_stand.specs.DeviceText.{device_text}
use Rattle.zn_stand.specs.Standing.{is_file_length}

-- the kind and the condition of a zone
pub record Label : Type 0 where
  pub kind : Kind
  pub cond : Cond

-- those of each zone
abbrev pub label_of : ZoneFacts → Label
label_of zone = record { kind = zone.kind; cond = zone.cond }

abbrev pub labels_of : Facts → List Label
labels_of f = map label_of f.zones

-- those of the zone with this number
abbrev pub label_at : List Label → ℕ → Label
label_at labels z = slice_index_or labels z (record { kind = Sequential; cond = Offline })

-- the numbers of a device with these zones
abbrev pub numbers_of : Shape → List Label → Geometry
numbers_of shape labels = record { zones = length labels; conv = count_by (λ (label : Label). not (is_sequential label.kind)) labels; shape = shape }

-- the marker of a zone that is read-only: empty and at rest; a zone that went offline keeps the one that it had, if any
abbrev pub IsReadOnlyAt : Cond → Option File → Type 0
IsReadOnlyAt Good file = file ≡ None
IsReadOnlyAt ReadOnly file = file ≡ Some (at_rest [])
IsReadOnlyAt Offline file = (f : File) → file ≡ Some f → f ≡ at_rest []

-- the marker of a zone that is offline: empty and at rest
abbrev pub IsOfflineAt : Cond → Option File → Type 0
IsOfflineAt Good file = file ≡ None
IsOfflineAt ReadOnly file = file ≡ None
IsOfflineAt Offline file = file ≡ Some (at_rest [])

-- the file of a zone that is offline has a length that may be
abbrev pub IsLengthAt : Shape → Label → Option File → Type 0
IsLengthAt shape label file = IsTrue (is_offline label.cond) → (f : File) → file ≡ Some f → IsTrue (is_file_length shape label.kind (length f.bytes))

-- The geometry's text, the markers of the zones that aren't good, and no other file, all at rest.
pub record Frames (shape : Shape) (labels : List Label) (d : Directory) : Type 0 where
  pub numbers : record { shape = shape; kinds = map (λ (label : Label). label.kind) labels } ≡ geometry_of_device (numbers_of shape labels)
  pub conv : (numbers_of shape labels).conv ≤ (numbers_of shape labels).zones
  pub device : file_at d device_name ≡ Some (at_rest (device_text (numbers_of shape labels)))
  pub read_only : (z : ℕ) → z < length labels → IsReadOnlyAt (label_at labels z).cond (file_at d (read_only_name (label_at labels z).kind z))
  pub offline : (z : ℕ) → z < length labels → IsOfflineAt (label_at labels z).cond (file_at d (offline_name (label_at labels z).kind z))
  pub lengths : (z : ℕ) → z < length labels → IsLengthAt shape (label_at labels z) (file_at d (zone_name (label_at labels z).kind z))
  pub others : (name : Name) → IsSome (file_at d name) → IsTrue (is_name_of (numbers_of shape labels) name)

-- the same where contents are told
abbrev pub FramesWhereTold : Shape → List Label → Option Directory → Type 0
FramesWhereTold shape labels None = ⊤
FramesWhereTold shape labels (Some d) = Frames shape labels d
