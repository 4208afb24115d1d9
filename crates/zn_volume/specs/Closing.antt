-- What follows the end of a handle.
use Rattle.std.specs.Prelude.{◌≡◌, ℕ, ◌&&◌, ◌==◌, Result, if◌then◌else◌}
use Rattle.zn_truth.specs.declared.ZoneOp.TheVariants.{Close}
use Rattle.zn_truth.specs.Orders.{Manage}
use Rattle.zn_truth.specs.World.{issue}
use Rattle.zn_model.specs.declared.answers.Refusal.{Refusal}
use Rattle.zn_model.specs.Access.{writes}
use Rattle.zn_model.specs.Volume.{Mounted, file_at, shown_at, writers_of}
use Rattle.zn_model.specs.CallAnswers.{Answer, answered}
use Rattle.zn_model.specs.OpenClose.{after_close, unheld}
use Rattle.zn_handle.specs.declared.handles.Open.{Open}

-- the zone's close: the file isn't held open any more
unfoldable pub held_closed : Mounted → ℕ → Answer (Unit {0})
held_closed m f =
    let order = Manage (file_at m.volume.inodes f).first Close in
    after_close (issue m.world order).reply (record (unheld m f) { world = (issue m.world order).world }) f

-- the same, where the handle that ended was the file's last writer and the file is held open
abbrev pub zone_closed : Open → Mounted → Answer (Unit {0})
zone_closed live m =
    if writes live.mode && (writers_of m.volume.handles live.file == 0) && (shown_at m.volume.inodes live.file).held_open
    then held_closed m live.file
    else answered tt m

-- the result is the reply of that, and what is then mounted is what it leaves
pub record Closes (live : Open) (result : Result (Unit {0}) Refusal) (old new : Mounted) : Type 0 where
  pub reply : result ≡ (zone_closed live old).reply
  pub mounted : new ≡ (zone_closed live old).mounted
