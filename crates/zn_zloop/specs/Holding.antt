-- What every device over files keeps to. (own)
use Rattle.std.specs.Prelude.{◌≡◌, ℕ, ◌<◌, Bool, true, false, ◌==◌, List, length, Option, Some, None, slice_index_or, IsTrue, ⊤}
use Rattle.std.specs.List.{list_any}
use Rattle.zn_truth.specs.Truth.{Truth, cleared, zone_at, IsSound}
use Rattle.zn_zone.specs.Facts.{Facts, facts_at}
use Rattle.zn_stand.specs.Directory.{Directory, file_at}
use Rattle.zn_zloop.specs.declared.kept.Kept.{Kept}
use Rattle.zn_zloop.specs.Kept.{is_listed, is_changed}
use Rattle.zn_stand.specs.ZoneNames.{zone_name}
use Rattle.zn_zloop.specs.Backing.{IsFileAt}
use Rattle.zn_zloop.specs.Framing.{labels_of, FramesWhereTold}
use Rattle.zn_zloop.specs.Seen.{truth_seen}

-- each zone has its file
pub record Holds (d : Directory) (t : Truth) : Type 0 where
  pub zones : (z : ℕ) → z < length t.zones → IsFileAt (zone_at t z) (file_at d (zone_name (zone_at t z).kind z))

-- the same where contents are told
abbrev pub HoldsWhereTold : Option Directory → Truth → Type 0
HoldsWhereTold None t = ⊤
HoldsWhereTold (Some d) t = Holds d t

-- whether a zone is in the list
abbrev pub has_zone : List ℕ → ℕ → Bool
has_zone listed z = list_any (λ k. k == z) listed

-- What is kept of a zone that holds so many blocks. Where its file didn't change since its last sync, all of it is
-- durable. One that is marked as listed is in the list of those that changed.
pub record IsKept (held : ℕ) (listed : List ℕ) (z : ℕ) (kept : Kept) : Type 0 where
  pub durable : is_changed kept.mark ≡ false → kept.durable ≡ held
  pub flushed : is_changed kept.mark ≡ false → kept.unflushed.items ≡ cleared kept.unflushed.items
  pub in_list : is_listed kept.mark ≡ true → IsTrue (has_zone listed z)

-- the same of all zones; the list names only these
pub record AreKept (f : Facts) (kepts : List Kept) (listed : List ℕ) : Type 0 where
  pub count : length kepts ≡ length f.zones
  pub each : (z : ℕ) (other : Kept) → z < length kepts → IsKept (facts_at f z).held listed z (slice_index_or kepts z other)
  pub numbers : (i : ℕ) → i < length listed → slice_index_or listed i 0 < length kepts

-- The truth that the device tells is sound, and the directory holds it, and no other file.
pub record IsSoundZloop (o : Option Directory) (f : Facts) (kepts : List Kept) (listed : List ℕ) : Type 0 where
  pub kept : AreKept f kepts listed
  pub sound : IsSound (truth_seen o f kepts)
  pub holds : HoldsWhereTold o (truth_seen o f kepts)
  pub frames : FramesWhereTold f.shape (labels_of f) o
