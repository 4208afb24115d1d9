use Rattle.std.proofs.Common.{◌≡◌, ℕ, ◌<◌, length}
use Rattle.std.specs.Prelude.{slice_index_or}
use Rattle.zn_model.specs.declared.files.Place.TheVariants.{Unplaced}
use Rattle.zn_model.specs.ZoneFiles.{place_of}
use Rattle.zn_inode.proofs.inodes.index_of.Given as goal

-- the zones so far have their places
abbrev pub invariant-loop-z : goal.invariant-loop-z
invariant-loop-z l = record {
  count : length l.places.items ≡ l.zones;
  each : (k : ℕ) → k < l.z → slice_index_or l.places.items k Unplaced ≡ place_of l.layout k;
}
