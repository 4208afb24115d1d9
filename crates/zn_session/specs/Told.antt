-- What the zones of a device are told as. (own)
use Rattle.std.specs.Prelude.{◌≡◌, ℕ, false, List, Result}
use Rattle.zn_truth.specs.declared.ZoneInfo.{ZoneInfo}
use Rattle.zn_truth.specs.Truth.{room, kind_at}
use Rattle.zn_truth.specs.World.{geometry_of}
use Rattle.zn_model.specs.declared.answers.Refusal.{Refusal}
use Rattle.zn_lines.specs.Session.{place_by}
use Rattle.zn_volume.specs.Means.{spoils}
use Rattle.zn_volume.specs.Reports.{Reports}
use Rattle.zn_session.specs.SessionState.{HeldState}
use Rattle.zn_session.specs.declared.room.ZoneTold.{ZoneTold}

-- what is told of a zone, with its number, of which a report told this
abbrev pub told_of : HeldState → ℕ × ZoneInfo → ZoneTold
told_of held entry =
    let g = geometry_of held.device.world in
    record {
      kind = kind_at g entry.0;
      info = entry.1;
      room = room g.shape (kind_at g entry.0);
      place = place_by held.volume entry.0;
    }

-- One report of all zones of the device that is held. A volume on it stays as it is, unless the device is broken or
-- memory is wanting.
pub record ReportsOn (result : Result (Unit {0}) Refusal) (infos : List ZoneInfo) (old new : HeldState) : Type 0 where
  pub device : Reports result infos old.device new.device
  pub volume : spoils result ≡ false → new.volume ≡ old.volume
