-- The limits of a device and of what a script may ask of it.
use Rattle.std.specs.Prelude.{◌⊎◌, ◌≡◌, ◌≤◌, length}
use Rattle.zn_truth.specs.declared.limits.TheConstants.{MAX_BLOCKS, MAX_ZONES}
use Rattle.zn_truth.specs.Truth.{Geometry}

-- The geometry that a device may have. Of two limits the open one is no greater than the active one.
-- (own)
pub record IsWithinLimits (g : Geometry) : Type 0 where
  pub some : 1 ≤ length g.kinds
  pub most : length g.kinds ≤ MAX_ZONES
  pub capacity : 2 ≤ g.shape.zone_capacity
  pub fits : g.shape.zone_capacity ≤ g.shape.zone_blocks
  pub size : g.shape.zone_blocks ≤ MAX_BLOCKS
  pub open_zones : g.shape.max_open ≤ MAX_ZONES
  pub active_zones : g.shape.max_active ≤ MAX_ZONES
  pub ordered : (g.shape.max_open ≡ 0) ⊎ ((g.shape.max_active ≡ 0) ⊎ (g.shape.max_open ≤ g.shape.max_active))
