-- The truth of a device over files: conditions and lengths as the machine has them, bytes as the files have them. (own)
use Rattle.std.specs.Prelude.{ℕ, ◌+◌, List, [], ◌∷◌, Option, Some, None, is_some, if◌then◌else◌}
use Rattle.zn_truth.specs.Truth.{Zone, Truth, is_offline}
use Rattle.zn_zone.specs.Facts.{ZoneFacts, Facts}
use Rattle.zn_stand.specs.File.{File}
use Rattle.zn_stand.specs.Directory.{Directory, file_at}
use Rattle.zn_zloop.specs.declared.kept.Kept.{Kept}
use Rattle.zn_stand.specs.ZoneNames.{zone_name}

-- the bytes of a file, if it is there
abbrev pub bytes_in : Option File → List ℕ
bytes_in None = []
bytes_in (Some f) = f.bytes

-- the bytes of a zone, where contents are told: those of its file; an offline zone has none
abbrev pub bytes_seen : Option Directory → ZoneFacts → ℕ → List ℕ
bytes_seen None zone z = []
bytes_seen (Some d) zone z = if is_offline zone.cond then [] else bytes_in (file_at d (zone_name zone.kind z))

-- the zone with this number
abbrev pub zone_seen : Option Directory → ℕ → ZoneFacts → Kept → Zone
zone_seen o z zone kept = record {
  kind = zone.kind;
  cond = zone.cond;
  held = zone.held;
  bytes = bytes_seen o zone z;
  durable = kept.durable;
  unflushed = kept.unflushed.items;
  explicit = zone.explicit;
}

-- the zones from a number on, with what is kept of each
abbrev pub zones_seen : Option Directory → ℕ → List ZoneFacts → List Kept → List Zone
zones_seen o z [] kepts = []
zones_seen o z (zone ∷ zones) [] = []
zones_seen o z (zone ∷ zones) (kept ∷ kepts) = zone_seen o z zone kept ∷ zones_seen o (z + 1) zones kepts

-- the device
abbrev pub truth_seen : Option Directory → Facts → List Kept → Truth
truth_seen o f kepts = record { told = is_some o; shape = f.shape; zones = zones_seen o 0 f.zones kepts }
