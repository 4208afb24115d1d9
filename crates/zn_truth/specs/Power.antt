-- What a scripted loss of power makes of a truth, at rest or inside a command. (own)
use Rattle.std.specs.Prelude.{ℕ, ◌+◌, ◌-◌, ◌*◌, min, max, Bool, true, false, ◌==◌, nat_lt, List, [], ◌∷◌, ◌++◌, length, take, drop, replicate, if◌then◌else◌, Option, Some, None, unwrap_or}
use Rattle.zn_truth.specs.declared.limits.TheConstants.{BLOCK_SIZE}
use Rattle.zn_truth.specs.declared.Kind.{Kind}
use Rattle.zn_truth.specs.declared.Kind.TheVariants.{Conventional, Sequential}
use Rattle.zn_truth.specs.declared.ZoneNo.{ZoneNo}
use Rattle.zn_truth.specs.declared.ZoneOp.TheVariants.{Open, Close, Reset, Finish}
use Rattle.zn_truth.specs.declared.LossSpec.{LossSpec}
use Rattle.zn_truth.specs.Truth.{Zone, Truth, zone_at, with_zone, seen, is_sequential, cleared}
use Rattle.zn_truth.specs.Orders.{Order, ReadAt, WriteAt, Manage, FlushAll, ReportFrom, done}

-- the bytes with this one in place of each from block `from` on, if one is given
abbrev pub with_fill : Option ℕ → ℕ → List ℕ → List ℕ
with_fill None from bytes = bytes
with_fill (Some byte) from bytes = take (BLOCK_SIZE * from) bytes ++ replicate (length bytes - BLOCK_SIZE * from) byte

-- the zone holds this many blocks, filled from a block on, and all of it is durable
abbrev pub settled : Zone → ℕ → ℕ → Option ℕ → Zone
settled zone from len fill = record zone { held = len; bytes = with_fill fill from (take (BLOCK_SIZE * len) zone.bytes); durable = len }

-- a length raised to the durable one or lowered to the blocks held
abbrev pub clamped : Zone → ℕ → ℕ
clamped zone len = min (max len zone.durable) zone.held

-- the blocks that the list says a zone is cut to: its first pair for the zone
abbrev pub cut_of : List (ZoneNo × ℕ) → ℕ → Option ℕ
cut_of [] z = None
cut_of (cut ∷ cuts) z = if cut.0.0 == z then Some cut.1 else cut_of cuts z

-- the blocks with the byte in place of each that has a flag
abbrev pub with_filled_blocks : ℕ → List Bool → List ℕ → List ℕ
with_filled_blocks byte [] bytes = bytes
with_filled_blocks byte (flag ∷ flags) bytes =
    (if flag then replicate (min BLOCK_SIZE (length bytes)) byte else take BLOCK_SIZE bytes) ++ with_filled_blocks byte flags (drop BLOCK_SIZE bytes)

-- the same, if a byte is given; else the bytes stay
abbrev pub with_fill_unflushed : Option ℕ → List Bool → List ℕ → List ℕ
with_fill_unflushed None flags bytes = bytes
with_fill_unflushed (Some byte) flags bytes = with_filled_blocks byte flags bytes

-- A zone after the power went. A sequential one is cut to its stated length or its durable one, and filled
-- from its durable length on; a conventional one is filled where it is unflushed. All is then durable and
-- closed.
abbrev pub zone_lost : Kind → Zone → ℕ → LossSpec → Zone
zone_lost Conventional zone z loss = record zone {
  bytes = with_fill_unflushed loss.fill zone.unflushed zone.bytes;
  unflushed = cleared zone.unflushed;
  explicit = false;
}
zone_lost Sequential zone z loss =
    record (settled zone zone.durable (clamped zone (unwrap_or (cut_of loss.cuts z) zone.durable)) loss.fill) { explicit = false }

-- the zones after the power went, of which the first has the number `z`; bytes only where they are told
abbrev pub zones_lost : Bool → ℕ → List Zone → LossSpec → List Zone
zones_lost told z [] loss = []
zones_lost told z (zone ∷ zones) loss = seen told (zone_lost zone.kind zone z loss) ∷ zones_lost told (z + 1) zones loss

-- the truth after the power went
unfoldable pub lost : Truth → LossSpec → Truth
lost t loss = record t { zones = zones_lost t.told 0 t.zones loss }

-- the bytes as a write stores them that the loss fills
abbrev pub stored : Option ℕ → List ℕ → List ℕ
stored None bytes = bytes
stored (Some byte) bytes = replicate (length bytes) byte

-- A sequential write that is cut short: the blocks past the durable length are settled at the cut, or at the
-- blocks held; where the cut lies further, the write is carried out up to it, and settled.
abbrev pub cut_write : Truth → ℕ → ℕ → List ℕ → LossSpec → Truth
cut_write t z at bytes loss =
    let cut = unwrap_or (cut_of loss.cuts z) (zone_at t z).durable in
    let before = with_zone t z (settled (zone_at t z) (zone_at t z).durable (clamped (zone_at t z) cut) loss.fill) in
    if nat_lt (zone_at t z).held cut
    then (let after = (done before (WriteAt z at (stored loss.fill (take (BLOCK_SIZE * (cut - (zone_at t z).held)) bytes)))).truth in
    with_zone after z (settled (zone_at after z) (zone_at after z).held (zone_at after z).held None))
    else before

-- a write to a sequential zone (true) is cut short, one to a conventional zone is whole
abbrev pub write_during : Bool → Truth → ℕ → ℕ → List ℕ → LossSpec → Truth
write_during true t z at bytes loss = cut_write t z at bytes loss
write_during false t z at bytes loss = (done t (WriteAt z at bytes)).truth

-- What an order has done when the power goes inside it, before all zones lose what they lose: a sequential
-- write is cut short, a conventional one is whole, a reset or finish is done or not, all else is not begun.
unfoldable pub during : Truth → Order → Bool → LossSpec → Truth
during t (WriteAt z at bytes) carried_out loss = write_during (is_sequential (zone_at t z).kind) t z at bytes loss
during t (Manage z Reset) carried_out loss = if carried_out then (done t (Manage z Reset)).truth else t
during t (Manage z Finish) carried_out loss = if carried_out then (done t (Manage z Finish)).truth else t
during t (Manage z Open) carried_out loss = t
during t (Manage z Close) carried_out loss = t
during t (ReadAt z at n) carried_out loss = t
during t FlushAll carried_out loss = t
during t (ReportFrom first n) carried_out loss = t
