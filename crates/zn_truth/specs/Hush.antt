-- A device as one sees it that isn't told its bytes. (own)
use Rattle.std.specs.Prelude.{◌≡◌, false, [], map}
use Rattle.zn_truth.specs.Truth.{Zone, Truth}
use Rattle.zn_truth.specs.Orders.{Order}
use Rattle.zn_truth.specs.World.{World, Outcome, issue}

-- the zone without its bytes
abbrev pub hushed_zone : Zone → Zone
hushed_zone zone = record zone { bytes = [] }

-- the truth with no zone's bytes told
abbrev pub hushed : Truth → Truth
hushed t = record { told = false; shape = t.shape; zones = map hushed_zone t.zones }

-- the device on which bytes aren't told
abbrev pub hushed_world : World → World
hushed_world w = record w { truth = hushed w.truth }

-- the same reply, from such a device
abbrev pub hushed_outcome : Outcome → Outcome
hushed_outcome o = record { reply = o.reply; world = hushed_world o.world }

-- A device that doesn't tell its bytes answers each order, and becomes of it, just what it would if it told them.
abbrev pub HushedIssue : Type 0
HushedIssue = (w : World) (order : Order) → issue (hushed_world w) order ≡ hushed_outcome (issue w order)
