-- What loops keep. (own)
use Rattle.std.specs.Prelude.{◌≡◌, ◌≢◌, ℕ, ◌<◌, ◌≤◌, List, [], length, take, slice_index_or, Ok}
use Rattle.std.specs.declared.cmp.Ordering.TheVariants.{Less}
use Rattle.zn_stand.specs.Maps.{Name, name_cmp}
use Rattle.zn_files.specs.Names.{IsInOrder}
use Rattle.zn_files.specs.States.{FilesState}
use Rattle.zn_backing.specs.Steps.{Syncs, all_synced}

-- the names before one place are below the name, and those from another on aren't
pub record IsBetween (names : List Name) (name : Name) (low high : ℕ) : Type 0 where
  pub sorted : IsInOrder names
  pub order : low ≤ high
  pub most : high ≤ length names
  pub below : (k : ℕ) → k < low → name_cmp (slice_index_or names k []) name ≡ Less
  pub above : (k : ℕ) → high ≤ k → k < length names → name_cmp (slice_index_or names k []) name ≢ Less

-- so many files are synced
pub record AreSynced (names : List Name) (i : ℕ) (old new : FilesState) : Type 0 where
  pub syncs : Syncs {T = Unit {0}} (Ok tt) (λ d. all_synced d (take i names)) old new
