-- The eight conditions of a zone, and how commands move a sequential zone from one to the next. Conditions
-- and moves are those of zoned block devices. (own: which zone is closed where no place to open one is free)
use Rattle.std.specs.Prelude.{Bool, true, false, if◌then◌else◌}
use Rattle.zn_truth.specs.declared.Cond.{Cond}
use Rattle.zn_truth.specs.declared.Cond.TheVariants.{Good, ReadOnly as read_only, Offline as offline}
use Rattle.zn_zone.specs.declared.Raw.{Raw}
use Rattle.zn_zone.specs.declared.Raw.TheVariants.{NotWp, Empty, ImplicitOpen, ExplicitOpen, Closed, Full, ReadOnly, Offline}
use Rattle.zn_zone.specs.declared.table.Step.{Step}
use Rattle.zn_zone.specs.declared.table.Step.TheVariants.{Write, Open, Close, Reset, Finish}
use Rattle.zn_zone.specs.declared.table.Places.{Places}
use Rattle.zn_zone.specs.declared.table.Places.TheVariants.{NoPlace, OpenPlace, BothPlaces}

-- ---- kinds of conditions

-- opened by a write
abbrev pub is_implicit : Raw → Bool
is_implicit ImplicitOpen = true
is_implicit NotWp = false
is_implicit Empty = false
is_implicit ExplicitOpen = false
is_implicit Closed = false
is_implicit Full = false
is_implicit ReadOnly = false
is_implicit Offline = false

-- opened by a command
abbrev pub is_explicit : Raw → Bool
is_explicit ExplicitOpen = true
is_explicit NotWp = false
is_explicit Empty = false
is_explicit ImplicitOpen = false
is_explicit Closed = false
is_explicit Full = false
is_explicit ReadOnly = false
is_explicit Offline = false

-- opened, by a write or by a command
abbrev pub is_open : Raw → Bool
is_open ImplicitOpen = true
is_open ExplicitOpen = true
is_open NotWp = false
is_open Empty = false
is_open Closed = false
is_open Full = false
is_open ReadOnly = false
is_open Offline = false

-- open, or closed while partly written
abbrev pub is_active : Raw → Bool
is_active ImplicitOpen = true
is_active ExplicitOpen = true
is_active Closed = true
is_active NotWp = false
is_active Empty = false
is_active Full = false
is_active ReadOnly = false
is_active Offline = false

-- the condition that a report tells
abbrev pub cond_of : Raw → Cond
cond_of NotWp = Good
cond_of Empty = Good
cond_of ImplicitOpen = Good
cond_of ExplicitOpen = Good
cond_of Closed = Good
cond_of Full = Good
cond_of ReadOnly = read_only
cond_of Offline = offline

-- ---- the table

-- The next condition. No write fits a full zone, and what is offline or read-only takes no command.
abbrev pub next : Raw → Step → Raw
next Empty (Write fills) = if fills then Full else ImplicitOpen
next Empty Open = ExplicitOpen
next Empty (Close written) = Empty
next Empty Reset = Empty
next Empty Finish = Full
next ImplicitOpen (Write fills) = if fills then Full else ImplicitOpen
next ImplicitOpen Open = ExplicitOpen
next ImplicitOpen (Close written) = Closed
next ImplicitOpen Reset = Empty
next ImplicitOpen Finish = Full
next ExplicitOpen (Write fills) = if fills then Full else ExplicitOpen
next ExplicitOpen Open = ExplicitOpen
next ExplicitOpen (Close written) = if written then Closed else Empty
next ExplicitOpen Reset = Empty
next ExplicitOpen Finish = Full
next Closed (Write fills) = if fills then Full else ImplicitOpen
next Closed Open = ExplicitOpen
next Closed (Close written) = Closed
next Closed Reset = Empty
next Closed Finish = Full
next Full (Write fills) = Full
next Full Open = Full
next Full (Close written) = Full
next Full Reset = Empty
next Full Finish = Full
next NotWp step = NotWp
next ReadOnly step = ReadOnly
next Offline step = Offline

-- the places that the step needs: one among the active zones, one among the open zones
abbrev pub needs : Raw → Step → Places
needs Empty (Write fills) = BothPlaces
needs Empty Open = BothPlaces
needs Closed (Write fills) = OpenPlace
needs Closed Open = OpenPlace
needs raw step = NoPlace
