-- What a device over files tells of itself, and what it keeps to. (own)
use Rattle.std.specs.Prelude.{◌≡◌, ℕ, Bool, true, false, List, Option, Some, None}
use Rattle.std.proofs.Props.{props}
use Rattle.zn_truth.specs.Truth.{Zone, Truth, Geometry, geometry, IsSound}
use Rattle.zn_truth.specs.Limits.{IsWithinLimits}
use Rattle.zn_truth.specs.Hush.{hushed}
use Rattle.zn_truth.specs.World.{calm}
use Rattle.zn_zone.specs.Machine.{Machine, facts, geometry_in}
use Rattle.zn_device.specs.Fresh.{fresh}
use Rattle.zn_device.specs.States.{DeviceState}
use Rattle.zn_stand.specs.Directory.{Directory}
use Rattle.zn_files.specs.States.{FilesState, directory}
use Rattle.zn_zloop.specs.declared.kept.Kept.{Kept}
use Rattle.zn_zloop.specs.Seen.{truth_seen}
use Rattle.zn_truth.specs.declared.Cond.{Cond}
use Rattle.zn_truth.specs.declared.Cond.TheVariants.{Good, ReadOnly, Offline}
use Rattle.zn_truth.specs.declared.Shape.{Shape}
use Rattle.zn_zloop.specs.Framing.{Label, IsReadOnlyAt, IsOfflineAt, FramesWhereTold}
use Rattle.zn_zloop.specs.Holding.{HoldsWhereTold, IsSoundZloop}
use Rattle.zn_zloop.specs.Backing.{Backs, IsFileAt}
use Rattle.zn_stand.specs.File.{File}
use Rattle.zn_truth.specs.declared.Kind.{Kind}
use Rattle.zn_truth.specs.declared.Kind.TheVariants.{Conventional, Sequential}

-- a device of which nothing is known any more but its geometry: it counts as new, and tells no bytes
abbrev pub unknown : Geometry → Truth
unknown g = hushed (fresh g.shape g.kinds)

-- what the device tells: once a call on its files failed, nothing
abbrev pub truth_told : Bool → Option Directory → Machine → List Kept → Truth
truth_told true o m kepts = unknown (geometry_in m)
truth_told false o m kepts = truth_seen o (facts m) kepts

-- The device: it has power, no fault waits, and it has none of its own; it breaks where its files do.
abbrev pub state_told : Bool → FilesState → Machine → List Kept → DeviceState
state_told spoilt s m kepts = record {
  world = calm (truth_told spoilt (directory s) m kepts);
  spoilt = spoilt;
  faults = 0;
  breaks = s.faults;
  takes_memory = true;
  keeps_conditions = true;
}

-- What the device tells is sound and within the limits. Unless it is spoilt, its directory holds it.
pub record IsZloop (spoilt : Bool) (o : Option Directory) (m : Machine) (kepts : List Kept) (listed : List ℕ) : Type 0 where
  pub limits : ∥ IsWithinLimits (geometry_in m) ∥₁
  pub within : ∥ IsWithinLimits (geometry (truth_told spoilt o m kepts)) ∥₁
  pub sound : IsSound (truth_told spoilt o m kepts)
  pub device : spoilt ≡ false → IsSoundZloop o (facts m) kepts listed

backs_prop : (kind : Kind) (f : File) (zone : Zone) → IsProp (Backs kind f zone)
backs_prop Conventional f zone = hlevel props
backs_prop Sequential f zone = hlevel props

file_prop : (zone : Zone) (o : Option File) → IsProp (IsFileAt zone o)
file_prop zone None = hlevel
file_prop zone (Some f) = hlevel (props, backs_prop)

holds_prop : (o : Option Directory) (t : Truth) → IsProp (HoldsWhereTold o t)
holds_prop None t = hlevel
holds_prop (Some d) t = hlevel (props, file_prop)

read_only_prop : (cond : Cond) (o : Option File) → IsProp (IsReadOnlyAt cond o)
read_only_prop Good o = hlevel props
read_only_prop ReadOnly o = hlevel props
read_only_prop Offline o = hlevel props

offline_prop : (cond : Cond) (o : Option File) → IsProp (IsOfflineAt cond o)
offline_prop Good o = hlevel props
offline_prop ReadOnly o = hlevel props
offline_prop Offline o = hlevel props

frames_prop : (shape : Shape) (labels : List Label) (o : Option Directory) → IsProp (FramesWhereTold shape labels o)
frames_prop shape labels None = hlevel
frames_prop shape labels (Some d) = hlevel (props, read_only_prop, offline_prop)

-- there is one proof of it
pub zloop_prop : (spoilt : Bool) (o : Option Directory) (m : Machine) (kepts : List Kept) (listed : List ℕ) → IsProp (IsZloop spoilt o m kepts listed)
zloop_prop spoilt o m kepts listed = hlevel (props, holds_prop, frames_prop)
