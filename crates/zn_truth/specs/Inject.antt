-- Scripted faults, turns of condition, and losses and return of power: what refuses each, and what it does. (own)
use Rattle.std.specs.Prelude.{ℕ, Bool, true, false, ◌&&◌, ◌||◌, not, ◌==◌, nat_lt, nat_le, List, [], ◌∷◌, ◌++◌, length, if◌then◌else◌, Some, is_some, Result, Ok, Err}
use Rattle.std.specs.List.{list_any}
use Rattle.zn_truth.specs.declared.limits.TheConstants.{MAX_FAULTS}
use Rattle.zn_truth.specs.declared.Cond.{Cond}
use Rattle.zn_truth.specs.declared.Cond.TheVariants.{Good, ReadOnly, Offline}
use Rattle.zn_truth.specs.declared.ZoneNo.{ZoneNo}
use Rattle.zn_truth.specs.declared.Command.{Command}
use Rattle.zn_truth.specs.declared.Command.TheVariants.{Read, Write, Reset, Finish, Flush, Open, Close, Report}
use Rattle.zn_truth.specs.declared.FaultSpec.{FaultSpec}
use Rattle.zn_truth.specs.declared.LossSpec.{LossSpec}
use Rattle.zn_truth.specs.declared.Armed.{Armed}
use Rattle.zn_truth.specs.declared.InjectError.{InjectError}
use Rattle.zn_truth.specs.declared.InjectError.TheVariants.{BadFault, TooManyFaults, PowerLost}
use Rattle.zn_truth.specs.Truth.{Truth, zone_at, is_sequential}
use Rattle.zn_truth.specs.Loss.{turned}
use Rattle.zn_truth.specs.Power.{lost}
use Rattle.zn_truth.specs.World.{World}

-- the answer to a fault, turn or loss: success without a value, or why it is refused
abbrev pub InjectReply : Type 0
InjectReply = Result (Unit {0}) InjectError

-- the reply and the world after it
pub record Injected : Type 0 where
  pub reply : InjectReply
  pub world : World

-- the first test that holds refuses, and nothing changes
abbrev pub unless_bad : Bool → World → World → Injected
unless_bad bad w new = if bad then record { reply = Err BadFault; world = w } else record { reply = Ok tt; world = new }

-- ---- tests

-- the number is below the number of zones
abbrev pub is_zone : Truth → ℕ → Bool
is_zone t z = nat_lt z (length t.zones)

-- the commands that manage a zone, which a conventional one doesn't take
abbrev pub manages : Command → Bool
manages Reset = true
manages Finish = true
manages Open = true
manages Close = true
manages Read = false
manages Write = false
manages Flush = false
manages Report = false

-- the commands that may be done in part
abbrev pub may_keep : Command → Bool
may_keep Write = true
may_keep Flush = true
may_keep Read = false
may_keep Reset = false
may_keep Finish = false
may_keep Open = false
may_keep Close = false
may_keep Report = false

-- the commands that are done or not done
abbrev pub is_done_or_not : Command → Bool
is_done_or_not Reset = true
is_done_or_not Finish = true
is_done_or_not Read = false
is_done_or_not Write = false
is_done_or_not Flush = false
is_done_or_not Open = false
is_done_or_not Close = false
is_done_or_not Report = false

-- a command of this kind can't come on this zone
abbrev pub is_misplaced : Truth → ℕ → Command → Bool
is_misplaced t z command = not (is_zone t z) || (manages command && not (is_sequential (zone_at t z).kind))

-- a cut names a zone that isn't there, or a conventional one
abbrev pub is_bad_cut : Truth → ZoneNo × ℕ → Bool
is_bad_cut t cut = not (is_zone t cut.0.0) || not (is_sequential (zone_at t cut.0.0).kind)

-- a zone is named twice
abbrev pub repeats : List (ZoneNo × ℕ) → Bool
repeats [] = false
repeats (cut ∷ cuts) = list_any (λ other. other.0.0 == cut.0.0) cuts || repeats cuts

-- one of the cuts is bad, or two of them name the same zone
abbrev pub are_bad_cuts : Truth → List (ZoneNo × ℕ) → Bool
are_bad_cuts t cuts = list_any (is_bad_cut t) cuts || repeats cuts

-- a length below what is durable, or above what is held
abbrev pub is_outside : Truth → ZoneNo × ℕ → Bool
is_outside t cut = nat_lt cut.1 (zone_at t cut.0.0).durable || nat_lt (zone_at t cut.0.0).held cut.1

-- ---- faults

-- a command that can't come on the zone, or blocks kept by one that isn't done in part
abbrev pub is_bad_fault : Truth → FaultSpec → Bool
is_bad_fault t fault = is_misplaced t fault.zone.0 fault.command || (is_some fault.keep && not (may_keep fault.command))

-- A fault waits behind those that wait. `BadFault` for a zone that isn't there, a command that manages zones
-- on a conventional one, or a number of blocks for a command that isn't done in part; then `TooManyFaults`.
unfoldable pub inject : World → FaultSpec → Injected
inject w fault =
    if is_bad_fault w.truth fault then record { reply = Err BadFault; world = w }
    else if nat_le MAX_FAULTS (length w.pending) then record { reply = Err TooManyFaults; world = w }
    else record { reply = Ok tt; world = record w { pending = w.pending ++ fault ∷ [] } }

-- ---- turns of condition

-- the rank of a condition: a turn is to a higher one
abbrev pub severity : Cond → ℕ
severity Good = 0
severity ReadOnly = 1
severity Offline = 2

-- A zone turns to a worse condition. `PowerLost` without power; `BadFault` for a zone that isn't there, or a
-- condition that is no worse.
unfoldable pub turn : World → ℕ → Cond → Injected
turn w z to =
    if not w.powered then record { reply = Err PowerLost; world = w }
    else unless_bad (not (is_zone w.truth z) || nat_le (severity to) (severity (zone_at w.truth z).cond)) w (record w { truth = turned w.truth z to })

-- ---- power

-- The power goes. `PowerLost` without power; `BadFault` for a cut on a zone that isn't there, is conventional
-- or was named before, or to a length that isn't between what is durable and what is held.
unfoldable pub lose_power : World → LossSpec → Injected
lose_power w loss =
    if not w.powered then record { reply = Err PowerLost; world = w }
    else unless_bad (are_bad_cuts w.truth loss.cuts || list_any (is_outside w.truth) loss.cuts) w
    (record w { truth = lost w.truth loss; powered = false })

-- A loss waits for a command. `BadFault` for a zone that isn't there, a command that manages zones on a
-- conventional one, cuts as above but for their lengths, `done` with a command other than reset and finish,
-- or where a loss waits already.
unfoldable pub arm_loss : World → Armed → Injected
arm_loss w armed =
    unless_bad (is_misplaced w.truth armed.zone.0 armed.command || are_bad_cuts w.truth armed.loss.cuts || (armed.carried_out && not (is_done_or_not armed.command)) || is_some w.armed)
    w (record w { armed = Some armed })

-- the power comes back
unfoldable pub power_on : World → World
power_on w = record w { powered = true }
