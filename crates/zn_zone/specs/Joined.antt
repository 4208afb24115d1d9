-- A truth as its facts and the rest: what a device keeps beside the machine. (own)
use Rattle.std.specs.Prelude.{ℕ, Bool, List, map}
use Rattle.std.specs.List.{zip}
use Rattle.zn_truth.specs.Truth.{Zone, Truth}
use Rattle.zn_zone.specs.Facts.{ZoneFacts, Facts}

-- what a zone holds besides its facts
pub record Store : Type 0 where
  pub bytes : List ℕ
  pub durable : ℕ
  pub unflushed : List Bool

-- the bytes of a zone, and what of them is durable
abbrev pub store_of : Zone → Store
store_of zone = record { bytes = zone.bytes; durable = zone.durable; unflushed = zone.unflushed }

-- the same of each zone of a truth
abbrev pub stores_of : Truth → List Store
stores_of t = map store_of t.zones

-- the zone with these facts and this store
abbrev pub joined_zone : ZoneFacts × Store → Zone
joined_zone (zone, store) = record {
  kind = zone.kind;
  cond = zone.cond;
  held = zone.held;
  bytes = store.bytes;
  durable = store.durable;
  unflushed = store.unflushed;
  explicit = zone.explicit;
}

-- the truth with these facts and these stores, whose bytes are told or not
abbrev pub joined : Bool → Facts → List Store → Truth
joined told f stores = record { told = told; shape = f.shape; zones = map joined_zone (zip f.zones stores) }
