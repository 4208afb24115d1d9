-- A loss that waits, and power that comes back, change nothing of what the device is.
use Rattle.std.proofs.Common.{◌≡◌, Bool, true, false, Some, refl}
use Rattle.std.specs.Prelude.{◌&&◌, ◌||◌, not, is_some}
use Rattle.zn_truth.specs.declared.Armed.{Armed}
use Rattle.zn_truth.specs.Inject.{unless_bad, is_misplaced, are_bad_cuts, is_done_or_not, arm_loss, power_on}
use Rattle.zn_truth.specs.Truth.{geometry}
use Rattle.zn_truth.specs.World.{World, geometry_of}

pub armed_geometry : (w : World) (armed : Armed) → geometry_of (arm_loss w armed).world ≡ geometry_of w
unfolding arm_loss geometry_of
armed_geometry w armed =
    by_test (is_misplaced w.truth armed.zone.0 armed.command || are_bad_cuts w.truth armed.loss.cuts || (armed.carried_out && not (is_done_or_not armed.command)) || is_some w.armed)
  where
    by_test : (bad : Bool) → geometry (unless_bad bad w (record w { armed = Some armed })).world.truth ≡ geometry w.truth
    by_test true = refl
    by_test false = refl

pub powered_geometry : (w : World) → geometry_of (power_on w) ≡ geometry_of w
unfolding power_on geometry_of
powered_geometry w = refl
