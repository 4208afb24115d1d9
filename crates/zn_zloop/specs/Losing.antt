-- The device that a directory left by a stop stands for. (own)
use Rattle.std.specs.Prelude.{ℕ, ◌+◌, ◌/◌, false, List, [], ◌∷◌, length, unwrap_or, if◌then◌else◌}
use Rattle.zn_truth.specs.declared.limits.TheConstants.{BLOCK_SIZE}
use Rattle.zn_truth.specs.Truth.{Zone, Truth, cleared, is_offline}
use Rattle.zn_truth.specs.Loss.{IsLossOf}
use Rattle.zn_stand.specs.Directory.{Contents, bytes_at}
use Rattle.zn_stand.specs.ZoneNames.{zone_name}
use Rattle.zn_stand.specs.Standing.{StandsFor}

-- a zone that holds these bytes, all of them durable
abbrev pub zone_with : Zone → List ℕ → Zone
zone_with zone bytes = record zone {
  held = length bytes / BLOCK_SIZE;
  bytes = bytes;
  durable = length bytes / BLOCK_SIZE;
  unflushed = cleared zone.unflushed;
  explicit = false;
}

-- the bytes that are left of a zone
abbrev pub bytes_left : Contents → ℕ → Zone → List ℕ
bytes_left image z zone = if is_offline zone.cond then [] else unwrap_or (bytes_at image (zone_name zone.kind z)) []

-- what is left of zones, of which the first has the number `z`
abbrev pub zones_left : Contents → ℕ → List Zone → List Zone
zones_left image z [] = []
zones_left image z (zone ∷ zones) = zone_with zone (bytes_left image z zone) ∷ zones_left image (z + 1) zones

-- what is left of a device
abbrev pub truth_left : Contents → Truth → Truth
truth_left image t = record t { zones = zones_left image 0 t.zones }

-- Contents stand for a device after a loss of power.
pub record StandsLost (t : Truth) (image : Contents) : Type 0 where
  pub stands : StandsFor image (truth_left image t)
  pub loss : IsLossOf t (truth_left image t)
