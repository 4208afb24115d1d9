-- Losses of power, by what the device within is asked to do. (own)
use Rattle.std.specs.Prelude.{◌≡◌, ℕ, zero, suc, ◌+◌, ◌*◌, ◌/◌, ◌<◌, ◌≤◌, Bool, false, ◌||◌, List, ◌++◌, length, replicate, Option, Some, None, unwrap_or, Ok, Err, IsTrue}
use Rattle.std.specs.List.{list_any}
use Rattle.zn_truth.specs.declared.limits.TheConstants.{BLOCK_SIZE}
use Rattle.zn_truth.specs.declared.Kind.{Kind}
use Rattle.zn_truth.specs.declared.Kind.TheVariants.{Conventional, Sequential}
use Rattle.zn_truth.specs.declared.Command.{Command}
use Rattle.zn_truth.specs.declared.Span.{Span}
use Rattle.zn_truth.specs.declared.DevError.TheVariants.{PowerLost, Broken, Memory}
use Rattle.zn_truth.specs.declared.ZoneOp.{ZoneOp}
use Rattle.zn_truth.specs.declared.ZoneOp.TheVariants.{Open, Close, Reset, Finish}
use Rattle.zn_truth.specs.declared.LossSpec.{LossSpec}
use Rattle.zn_truth.specs.declared.Armed.{Armed}
use Rattle.zn_truth.specs.Truth.{Zone, Truth, zone_at, with_zone}
use Rattle.zn_truth.specs.Orders.{Order, WriteAt, Reply, done}
use Rattle.zn_truth.specs.Power.{settled, clamped, cut_of, lost, during}
use Rattle.zn_truth.specs.World.{meets}
use Rattle.zn_truth.specs.Inject.{are_bad_cuts, is_outside}
use Rattle.zn_truth.specs.Obeying.{IsWhole}
use Rattle.zn_device.specs.Harms.{scrubbed, rested}

-- ---- zones, one after another

-- What is left of a zone, which is open or closed as it was: a sequential one is settled at its stated length or its
-- durable one, and a conventional one is scrubbed.
abbrev pub left_of : Kind → Zone → ℕ → LossSpec → Zone
left_of Conventional zone z loss = scrubbed zone loss.fill
left_of Sequential zone z loss = settled zone zone.durable (clamped zone (unwrap_or (cut_of loss.cuts z) zone.durable)) loss.fill

-- the truth in which this zone lost what isn't durable
abbrev pub lost_at : Truth → ℕ → LossSpec → Truth
lost_at t z loss = with_zone t z (left_of (zone_at t z).kind (zone_at t z) z loss)

-- the truth in which so many of the first zones did, one after another in rising order
unfoldable pub lost_below : ℕ → Truth → LossSpec → Truth
lost_below zero t loss = t
lost_below (suc n) t loss = lost_at (lost_below n t loss) n loss

-- all zones lose what isn't durable one after another, and are then closed: that is what a loss leaves
abbrev pub LossIsZoneByZone : Type 0
LossIsZoneByZone = (t : Truth) (loss : LossSpec) → rested (lost_below (length t.zones) t loss) ≡ lost t loss

-- ---- refusals

-- the cuts of a loss at rest are bad, or one of them is to a length that isn't between what is durable and what is held
abbrev pub is_bad_loss : Truth → LossSpec → Bool
is_bad_loss t loss = are_bad_cuts t loss.cuts || list_any (is_outside t) loss.cuts

-- ---- a command inside which the power goes

-- success in place of a refusal, of which nothing is carried out; a break, and want of memory, are the answer
abbrev pub unrefused : Reply → Reply
unrefused (Err Broken) = Err Broken
unrefused (Err Memory) = Err Memory
unrefused _ = Ok tt

-- what the device within holds after the power went inside the order
abbrev pub lost_inside : Truth → Order → Armed → Truth
lost_inside t order armed = lost (during t order armed.carried_out armed.loss) armed.loss

-- the loss is told, but a break, and want of memory, are the answer
abbrev pub as_loss : Reply → Reply
as_loss (Ok unit) = Err PowerLost
as_loss (Err error) = Err error

-- so many blocks, each byte of them this one
unfoldable pub filled_with : ℕ → ℕ → List ℕ
filled_with blocks byte = replicate (BLOCK_SIZE * blocks) byte

-- whether the command that manages a zone is carried out before the power goes inside it, where that is said
abbrev pub is_carried_out : ZoneOp → Bool → Bool
is_carried_out Reset carried_out = carried_out
is_carried_out Finish carried_out = carried_out
is_carried_out Open carried_out = false
is_carried_out Close carried_out = false

-- a write of more behind one that is done does what one write of both does
abbrev pub WritesJoin : Type 0
WritesJoin = (t : Truth) (z at : ℕ) (first second : List ℕ) → (zone_at t z).kind ≡ Sequential → z < length t.zones → IsWhole first → IsWhole second
    → at + (length first / BLOCK_SIZE + length second / BLOCK_SIZE) ≤ t.shape.zone_capacity → (done t (WriteAt z at first)).reply ≡ Ok tt
    → done t (WriteAt z at (first ++ second)) ≡ done (done t (WriteAt z at first)).truth (WriteAt z (at + length first / BLOCK_SIZE) second)

-- ---- the loss that waits

-- whether a loss waits, and a command of this kind on these zones is what it waits for
abbrev pub is_met : Command → Span → Option Armed → Bool
is_met command zones None = false
is_met command zones (Some armed) = meets command zones armed.command armed.zone.0

-- this loss waits, and the command meets it
pub record Meets (command : Command) (zones : Span) (waits : Option Armed) (armed : Armed) : Type 0 where
  pub waiting : waits ≡ Some armed
  pub met : IsTrue (meets command zones armed.command armed.zone.0)
