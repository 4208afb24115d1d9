-- What conditions and refusals depend on: of each zone its kind, its condition, the blocks that it holds and
-- whether it is explicitly open. Bytes, and which of them are durable, are left out. (own)
use Rattle.std.specs.Prelude.{◌≡◌, ◌<◌, ◌≤◌, IsTrue, ℕ, ◌*◌, ◌+◌, ◌/◌, Bool, false, List, [], length, map, replicate, Option, slice_index_or, slice_set}
use Rattle.std.specs.List.{zip}
use Rattle.zn_truth.specs.declared.limits.TheConstants.{BLOCK_SIZE}
use Rattle.zn_truth.specs.declared.Kind.{Kind}
use Rattle.zn_truth.specs.declared.Cond.{Cond}
use Rattle.zn_truth.specs.declared.Shape.{Shape}
use Rattle.zn_truth.specs.declared.ZoneInfo.{ZoneInfo}
use Rattle.zn_truth.specs.declared.DevError.{DevError}
use Rattle.zn_truth.specs.Truth.{Zone, Truth, no_zone, is_sequential, is_offline, active}
use Rattle.zn_truth.specs.Orders.{Order, ReadAt, WriteAt, Manage, FlushAll, ReportFrom, refusal, done}

-- what is known of a zone
pub record ZoneFacts : Type 0 where
  pub kind : Kind
  pub cond : Cond
  pub held : ℕ
  pub explicit : Bool

-- what is known of a device
pub record Facts : Type 0 where
  pub shape : Shape
  pub zones : List ZoneFacts

-- the facts of a zone
abbrev pub zone_facts : Zone → ZoneFacts
zone_facts zone = record { kind = zone.kind; cond = zone.cond; held = zone.held; explicit = zone.explicit }

-- the facts of a truth
abbrev pub facts_of : Truth → Facts
facts_of t = record { shape = t.shape; zones = map zone_facts t.zones }

-- the facts of the zone with this number, or of one that no device has
abbrev pub facts_at : Facts → ℕ → ZoneFacts
facts_at f z = slice_index_or f.zones z (zone_facts no_zone)

-- the facts with these of a zone in place
abbrev pub with_facts : Facts → ℕ → ZoneFacts → Facts
with_facts f z zone = record f { zones = slice_set f.zones z zone }

-- the facts with so many blocks held by a zone
abbrev pub with_held : Facts → ℕ → ℕ → Facts
with_held f z len = with_facts f z (record (facts_at f z) { held = len })

-- the facts with no zone explicitly open
abbrev pub rested : Facts → Facts
rested f = record f { zones = map (λ (zone : ZoneFacts). record zone { explicit = false }) f.zones }

-- a zone of this kind with what a report tells of it
abbrev pub reported_zone : Kind × ZoneInfo → ZoneFacts
reported_zone (kind, info) = record { kind = kind; cond = info.cond; held = info.held; explicit = info.explicit }

-- what a report tells of a zone
abbrev pub info_of : ZoneFacts → ZoneInfo
info_of zone = record { cond = zone.cond; held = zone.held; explicit = zone.explicit }

-- a zone with these facts, of which nothing else is told
abbrev pub bare_zone : ZoneFacts → Zone
bare_zone zone = record {
  kind = zone.kind;
  cond = zone.cond;
  held = zone.held;
  bytes = [];
  durable = zone.held;
  unflushed = [];
  explicit = zone.explicit;
}

-- a truth with these facts, of which nothing else is told
abbrev pub bare : Facts → Truth
bare f = record { told = false; shape = f.shape; zones = map bare_zone f.zones }

-- the facts of zones of these kinds with what a report tells of them
abbrev pub reported : Shape → List Kind → List ZoneInfo → Facts
reported shape kinds infos = record { shape = shape; zones = map reported_zone (zip kinds infos) }

-- ---- where a machine may begin

-- What each zone keeps to: it isn't explicitly open, a conventional one that isn't offline holds its size, a
-- sequential one at most its capacity, and an offline one nothing.
pub record IsStartZone (shape : Shape) (zone : ZoneFacts) : Type 0 where
  pub closed : zone.explicit ≡ false
  pub conventional : ¬ IsTrue (is_sequential zone.kind) → ¬ IsTrue (is_offline zone.cond) → zone.held ≡ shape.zone_blocks
  pub sequential : IsTrue (is_sequential zone.kind) → zone.held ≤ shape.zone_capacity
  pub offline : IsTrue (is_offline zone.cond) → zone.held ≡ 0

-- each zone is as it may be at the start, and no more are active than the limit allows
pub record IsStart (f : Facts) : Type 0 where
  pub zones : (z : ℕ) → z < length f.zones → IsStartZone f.shape (facts_at f z)
  pub active : 0 < f.shape.max_active → active (bare f) ≤ f.shape.max_active

-- ---- what orders make of the facts

-- a write of so many blocks, whatever their bytes
abbrev pub write_of : ℕ → ℕ → ℕ → Order
write_of z at blocks = WriteAt z at (replicate (BLOCK_SIZE * blocks) 0)

-- the order without its bytes; of a read only its end counts
abbrev pub outline : Order → Order
outline (ReadAt z at n) = ReadAt z 0 (at + n)
outline (WriteAt z at bytes) = write_of z at (length bytes / BLOCK_SIZE)
outline (Manage z op) = Manage z op
outline FlushAll = FlushAll
outline (ReportFrom first n) = ReportFrom first n

-- the first refusal that fits, by the facts alone
unfoldable pub refusal_by : Facts → Order → Option DevError
refusal_by f order = refusal (bare f) order

-- the facts after the order, by the facts alone
unfoldable pub after : Facts → Order → Facts
after f order = facts_of (done (bare f) order).truth
