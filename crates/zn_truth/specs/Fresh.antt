-- A new device. (own)
use Rattle.std.specs.Prelude.{◌*◌, true, false, List, [], map, replicate}
use Rattle.zn_truth.specs.declared.limits.TheConstants.{BLOCK_SIZE}
use Rattle.zn_truth.specs.declared.Cond.TheVariants.{Good}
use Rattle.zn_truth.specs.declared.Kind.{Kind}
use Rattle.zn_truth.specs.declared.Kind.TheVariants.{Conventional, Sequential}
use Rattle.zn_truth.specs.declared.Shape.{Shape}
use Rattle.zn_truth.specs.Truth.{Truth, Zone}

-- a new zone: a conventional one holds zeros, a sequential one nothing
abbrev pub fresh_zone : Shape → Kind → Zone
fresh_zone shape Conventional = record {
  kind = Conventional;
  cond = Good;
  held = shape.zone_blocks;
  bytes = replicate (BLOCK_SIZE * shape.zone_blocks) 0;
  durable = shape.zone_blocks;
  unflushed = replicate shape.zone_blocks false;
  explicit = false;
}
fresh_zone shape Sequential = record { kind = Sequential; cond = Good; held = 0; bytes = []; durable = 0; unflushed = []; explicit = false }

-- a new device in memory, which tells its bytes
unfoldable pub fresh_truth : Shape → List Kind → Truth
fresh_truth shape kinds = record { told = true; shape = shape; zones = map (fresh_zone shape) kinds }
