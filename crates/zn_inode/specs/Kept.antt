-- What is kept beside the files and what they show. (own)
use Rattle.std.specs.Prelude.{◌≡◌, ℕ, ◌<◌, Bool, false, List, length, slice_index_or, count_by}
use Rattle.std.specs.List.{range_with_len}
use Rattle.zn_truth.specs.declared.limits.TheConstants.{MAX_ZONES}
use Rattle.zn_truth.specs.declared.Shape.{Shape}
use Rattle.zn_model.specs.declared.files.Place.{Place}
use Rattle.zn_model.specs.declared.files.Place.TheVariants.{Unplaced}
use Rattle.zn_model.specs.declared.files.Shown.{Shown}
use Rattle.zn_model.specs.ZoneFiles.{Layout, files_of, place_of}
use Rattle.zn_model.specs.ShownStates.{showing}
use Rattle.zn_model.specs.Volume.{no_file}
use Rattle.zn_model.specs.Looks.{is_shown_active}

-- the places of the first zones of a layout, so many of them, by their numbers
pub record IsIndexTo (zones : ℕ) (layout : Layout) (places : List Place) : Type 0 where
  pub count : length places ≡ zones
  pub each : (z : ℕ) → z < zones → slice_index_or places z Unplaced ≡ place_of layout z

-- the file of a layout with this number is shown active, where the files show this
abbrev pub is_active_in : Layout → Shape → List Shown → ℕ → Bool
is_active_in layout shape shown f = is_shown_active shape (slice_index_or (files_of layout) f no_file) (slice_index_or shown f (showing 0 false false false))

-- how many files are so
abbrev pub active_among : Layout → Shape → List Shown → ℕ
active_among layout shape shown = count_by (is_active_in layout shape shown) (range_with_len 0 (length (files_of layout)))

-- There are fewer files than a device may have zones, each shows something, the index has the place of each zone
-- behind zone 0, also of one behind its last, and the count is that of the files that are shown active.
pub record IsKept (layout : Layout) (shape : Shape) (shown : List Shown) (places : List Place) (active : ℕ) : Type 0 where
  pub few : length (files_of layout) < MAX_ZONES
  pub files : length shown ≡ length (files_of layout)
  pub index : (z : ℕ) → 0 < z → slice_index_or places z Unplaced ≡ place_of layout z
  pub count : active ≡ active_among layout shape shown
