-- What harms a device from outside, and what that leaves. (own)
use Rattle.std.specs.Prelude.{◌≡◌, ℕ, ◌≤◌, Bool, true, false, not, map, Option, Ok, Err, IsErrOf}
use Rattle.zn_base.specs.Causes.{Rose}
use Rattle.zn_truth.specs.declared.InjectError.TheVariants.{Broken, Memory}
use Rattle.zn_truth.specs.Truth.{Zone, Truth, cleared}
use Rattle.zn_truth.specs.Orders.{Reply}
use Rattle.zn_truth.specs.Power.{with_fill_unflushed}
use Rattle.zn_truth.specs.World.{geometry_of}
use Rattle.zn_truth.specs.Inject.{InjectReply, Injected}
use Rattle.zn_truth.specs.Obeying.{IsAnswered}
use Rattle.zn_device.specs.States.{DeviceState, Caused}

-- ---- a device that is harmed

-- the unflushed blocks of a zone hold the byte, if one is given, and none is unflushed any more
abbrev pub scrubbed : Zone → Option ℕ → Zone
scrubbed zone fill = record zone { bytes = with_fill_unflushed fill zone.unflushed zone.bytes; unflushed = cleared zone.unflushed }

-- no zone is explicitly open
abbrev pub rested : Truth → Truth
rested t = record t { zones = map (λ (zone : Zone). record zone { explicit = false }) t.zones }

-- The device then holds this, unless it answers `Broken` or `Memory`: it answers no other error.
pub record Harmed (truth : Truth) (result : Reply) (old new : DeviceState) : Type 0 where
  pub done : IsAnswered result → result ≡ Ok tt
  pub world : IsAnswered result → new.world ≡ record old.world { truth = truth }
  pub geometry : geometry_of new.world ≡ geometry_of old.world
  pub caused : Caused result old new

-- ---- a device that takes scripted harm

-- any answer but that the device is broken, or that memory is wanting
abbrev pub is_told : InjectReply → Bool
is_told (Err Broken) = false
is_told (Err Memory) = false
is_told _ = true

-- The answer and the device after it are the ones meant, unless the device breaks or memory is wanting, and only then
-- the device is spoilt. These two come only with the power on before and after; `Broken` comes only where the count of
-- breaks rose, want of memory only over a device whose commands take some, and no fault is counted.
pub record Injecting (meant : Injected) (result : InjectReply) (old new : DeviceState) : Type 0 where
  pub reply : is_told result ≡ true → result ≡ meant.reply
  pub world : is_told result ≡ true → new.world ≡ meant.world
  pub spoilt : new.spoilt ≡ not (is_told result)
  pub faults : new.faults ≡ old.faults
  pub no_fewer : old.breaks ≤ new.breaks
  pub broken : IsErrOf result Broken → Rose old.breaks new.breaks
  pub whole : is_told result ≡ true → new.breaks ≡ old.breaks
  pub powered : is_told result ≡ false → old.world.powered ≡ true
  pub still_powered : is_told result ≡ false → new.world.powered ≡ true
  pub memory : old.takes_memory ≡ false → IsErrOf result Memory → ⊥
  pub same : new.takes_memory ≡ old.takes_memory
  pub keeps : new.keeps_conditions ≡ old.keeps_conditions
  pub geometry : geometry_of new.world ≡ geometry_of old.world
