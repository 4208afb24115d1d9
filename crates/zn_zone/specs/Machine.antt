-- The condition machine: of each zone its kind, its condition and the blocks that it holds. (own: the choice
-- of the zone that is closed where no place to open one is free)
use Rattle.std.specs.Prelude.{ℕ, ◌+◌, ◌<◌, ◌≤◌, Bool, false, ◌&&◌, not, ◌==◌, nat_lt, nat_le, List, length, map, count_by, position, if◌then◌else◌, Option, Some, None, is_none, Result, Ok, Err, slice_index_or, slice_set, IsTrue}
use Rattle.zn_truth.specs.declared.Kind.{Kind}
use Rattle.zn_truth.specs.declared.Kind.TheVariants.{Conventional, Sequential}
use Rattle.zn_truth.specs.declared.Cond.{Cond}
use Rattle.zn_truth.specs.declared.Cond.TheVariants.{Good, ReadOnly as read_only, Offline as offline}
use Rattle.zn_truth.specs.declared.Shape.{Shape}
use Rattle.std.specs.List.{zip}
use Rattle.zn_truth.specs.declared.limits.TheConstants.{MAX_ZONES}
use Rattle.zn_truth.specs.declared.ZoneInfo.{ZoneInfo}
use Rattle.zn_truth.specs.declared.ZoneOp.{ZoneOp}
use Rattle.zn_truth.specs.declared.ZoneOp.TheVariants.{Open as do_open, Close as do_close, Reset as do_reset, Finish as do_finish}
use Rattle.zn_truth.specs.declared.DevError.{DevError}
use Rattle.zn_truth.specs.declared.DevError.TheVariants.{ReadOnly as dev_read_only, Offline as dev_offline, Unaligned as dev_unaligned, BeyondWp as dev_beyond_wp, TooManyActive as dev_too_many_active, TooManyOpen as dev_too_many_open}
use Rattle.zn_truth.specs.Truth.{Geometry, is_sequential, is_reached}
use Rattle.zn_zone.specs.declared.ZoneError.{ZoneError}
use Rattle.zn_zone.specs.declared.ZoneError.TheVariants.{ReadOnly as zone_read_only, Offline as zone_offline, Unaligned, BeyondWp, TooManyActive, TooManyOpen}
use Rattle.zn_zone.specs.declared.Raw.{Raw}
use Rattle.zn_zone.specs.declared.Raw.TheVariants.{NotWp, Empty, ImplicitOpen, ExplicitOpen, Closed, Full, ReadOnly, Offline}
use Rattle.zn_zone.specs.declared.table.Step.{Step}
use Rattle.zn_zone.specs.declared.table.Step.TheVariants.{Write, Open, Close, Reset, Finish}
use Rattle.zn_zone.specs.declared.table.Places.{Places}
use Rattle.zn_zone.specs.declared.table.Places.TheVariants.{NoPlace, OpenPlace, BothPlaces}
use Rattle.zn_zone.specs.declared.state.State.{State}
use Rattle.zn_zone.specs.Facts.{ZoneFacts, Facts}
use Rattle.zn_zone.specs.Table.{is_implicit, is_explicit, is_open, is_active, cond_of, next, needs}

-- The machine, as contracts see it.
pub record Machine : Type 0 where
  pub shape : Shape
  pub zones : List State

-- a zone that no device has
abbrev pub no_state : State
no_state = record { kind = Sequential; raw = Offline; held = 0 }

-- the state of the zone with this number, or of one that no device has
abbrev pub state_in : List State → ℕ → State
state_in zones z = slice_index_or zones z no_state

-- the same, in a machine
abbrev pub state_at : Machine → ℕ → State
state_at m z = state_in m.zones z

-- a machine of these zones, with this shape
abbrev pub machine : Shape → List State → Machine
machine shape zones = record { shape = shape; zones = zones }

-- the machine with this state of a zone in place
abbrev pub with_state : Machine → ℕ → State → Machine
with_state m z zone = record m { zones = slice_set m.zones z zone }

-- ---- what a machine tells

-- the facts of a zone
abbrev pub facts_in : State → ZoneFacts
facts_in zone = record { kind = zone.kind; cond = cond_of zone.raw; held = zone.held; explicit = is_explicit zone.raw }

-- the facts of the device
abbrev pub facts : Machine → Facts
facts m = record { shape = m.shape; zones = map facts_in m.zones }

-- what no move changes
abbrev pub geometry_in : Machine → Geometry
geometry_in m = record { shape = m.shape; kinds = map (λ zone. zone.kind) m.zones }

-- the error as a device answers it
abbrev pub dev_error : ZoneError → DevError
dev_error zone_read_only = dev_read_only
dev_error zone_offline = dev_offline
dev_error Unaligned = dev_unaligned
dev_error BeyondWp = dev_beyond_wp
dev_error TooManyActive = dev_too_many_active
dev_error TooManyOpen = dev_too_many_open

-- the refusal that a result tells, if it does
abbrev pub refusal_in : Result (Unit {0}) ZoneError → Option DevError
refusal_in (Ok unit) = None
refusal_in (Err error) = Some (dev_error error)

-- the reply that this refusal, if there is one, makes
abbrev pub unless : Option ZoneError → Result (Unit {0}) ZoneError
unless None = Ok tt
unless (Some error) = Err error

-- ---- places

-- how many zones are open, explicitly or implicitly, or closed
abbrev pub active_in : List State → ℕ
active_in zones = count_by (λ zone. is_active zone.raw) zones

-- how many zones are open, explicitly or implicitly
abbrev pub open_in : List State → ℕ
open_in zones = count_by (λ zone. is_open zone.raw) zones

-- one more zone may be active
abbrev pub HasActivePlace : Machine → Type 0
HasActivePlace m = 0 < m.shape.max_active → active_in m.zones < m.shape.max_active

-- the lowest-numbered implicitly open zone
abbrev pub first_implicit : List State → Option ℕ
first_implicit zones = position (λ zone. is_implicit zone.raw) zones

-- the zone in condition `Closed`, with what it holds
abbrev pub closed : State → State
closed zone = record zone { raw = Closed }

-- the zones with that one closed
abbrev pub closed_at : List State → Option ℕ → List State
closed_at zones None = zones
closed_at zones (Some i) = slice_set zones i (closed (state_in zones i))

-- whether this is the place, if one is given
abbrev pub is_at : Option ℕ → ℕ → Bool
is_at None k = false
is_at (Some i) k = i == k

-- the zones with an open place free, where one can be freed
abbrev pub with_open_place : Shape → List State → List State
with_open_place shape zones = if is_reached shape.max_open (open_in zones) then closed_at zones (first_implicit zones) else zones

-- what refuses an open place
abbrev pub no_open_place : Shape → List State → Option ZoneError
no_open_place shape zones = if is_reached shape.max_open (open_in zones) && is_none (first_implicit zones) then Some TooManyOpen else None

-- the zones with an open place free, where one is needed and can be freed
abbrev pub with_places : Shape → List State → Places → List State
with_places shape zones NoPlace = zones
with_places shape zones OpenPlace = with_open_place shape zones
with_places shape zones BothPlaces = with_open_place shape zones

-- what refuses the places
abbrev pub no_places : Shape → List State → Places → Option ZoneError
no_places shape zones NoPlace = None
no_places shape zones OpenPlace = no_open_place shape zones
no_places shape zones BothPlaces = if is_reached shape.max_active (active_in zones) then Some TooManyActive else no_open_place shape zones

-- whether a zone gives its open place
abbrev pub gives_place : Machine → Places → ℕ → Bool
gives_place m NoPlace k = false
gives_place m OpenPlace k = is_reached m.shape.max_open (open_in m.zones) && is_at (first_implicit m.zones) k
gives_place m BothPlaces k = is_reached m.shape.max_open (open_in m.zones) && is_at (first_implicit m.zones) k

-- ---- steps

-- the zones after a step of a zone, which then holds so many blocks
abbrev pub stepped : Shape → List State → ℕ → Step → ℕ → List State
stepped shape zones z step held =
    slice_set (with_places shape zones (needs (state_in zones z).raw step)) z (record (state_in zones z) { raw = next (state_in zones z).raw step; held = held })

-- the machine after a write of so many blocks that isn't refused
abbrev pub written_by : Kind → Machine → ℕ → ℕ → Machine
written_by Conventional m z blocks = m
written_by Sequential m z blocks = record m {
  zones = stepped m.shape m.zones z (Write ((state_at m z).held + blocks == m.shape.zone_capacity)) ((state_at m z).held + blocks);
}

-- the same, by the kind of the zone itself
abbrev pub written : Machine → ℕ → ℕ → Machine
written m z blocks = written_by (state_at m z).kind m z blocks

-- the step of a command on a zone that holds so many blocks
abbrev pub step_of : ZoneOp → ℕ → Step
step_of do_open held = Open
step_of do_close held = Close (nat_lt 0 held)
step_of do_reset held = Reset
step_of do_finish held = Finish

-- the blocks that the zone then holds
abbrev pub held_after : ZoneOp → Shape → ℕ → ℕ
held_after do_open shape held = held
held_after do_close shape held = held
held_after do_reset shape held = 0
held_after do_finish shape held = shape.zone_capacity

-- the machine after a command that manages the zone and isn't refused
abbrev pub managed : Machine → ℕ → ZoneOp → Machine
managed m z op = record m { zones = stepped m.shape m.zones z (step_of op (state_at m z).held) (held_after op m.shape (state_at m z).held) }

-- ---- refusals

-- the condition's refusal of what changes the zone, or the next
abbrev pub changing : Cond → Option ZoneError → Option ZoneError
changing Good other = other
changing read_only other = Some zone_read_only
changing offline other = Some zone_offline

-- the condition's refusal of what only reads, or the next
abbrev pub reading : Cond → Option ZoneError → Option ZoneError
reading Good other = other
reading read_only other = other
reading offline other = Some zone_offline

-- what refuses a write at this block of a zone of this kind
abbrev pub appending : Kind → Shape → List State → ℕ → ℕ → Option ZoneError
appending Conventional shape zones z at = None
appending Sequential shape zones z at =
    if (state_in zones z).held == at then no_places shape zones (needs (state_in zones z).raw (Write false)) else Some Unaligned

-- what refuses a write at this block
abbrev pub write_refusal : Machine → ℕ → ℕ → Option ZoneError
write_refusal m z at = changing (cond_of (state_at m z).raw) (appending (state_at m z).kind m.shape m.zones z at)

-- what refuses a command that manages the zone
abbrev pub manage_refusal : Machine → ℕ → ZoneOp → Option ZoneError
manage_refusal m z op =
    changing (cond_of (state_at m z).raw) (no_places m.shape m.zones (needs (state_at m z).raw (step_of op (state_at m z).held)))

-- what refuses a read up to this block
abbrev pub read_refusal : Machine → ℕ → ℕ → Option ZoneError
read_refusal m z end = reading (cond_of (state_at m z).raw) (if nat_lt (state_at m z).held end then Some BeyondWp else None)

-- ---- other moves

-- the zone in a worse condition
abbrev pub turned_to : Cond → State → State
turned_to Good zone = zone
turned_to read_only zone = record zone { raw = ReadOnly }
turned_to offline zone = record zone { raw = Offline; held = 0 }

-- the condition of a zone that isn't open and holds so many blocks
abbrev pub resting : Shape → ℕ → Raw
resting shape held = if held == 0 then Empty else if held == shape.zone_capacity then Full else Closed

-- the condition of a zone that is cut to so many blocks
abbrev pub raw_cut : Shape → Raw → ℕ → Raw
raw_cut shape ImplicitOpen len = if len == 0 then Empty else ImplicitOpen
raw_cut shape Closed len = if len == 0 then Empty else Closed
raw_cut shape Full len = resting shape len
raw_cut shape raw len = raw

-- the zone cut to so many blocks, with the condition that it then has
abbrev pub cut_to : Shape → State → ℕ → State
cut_to shape zone len = record zone { raw = raw_cut shape zone.raw len; held = len }

-- the condition of an open zone that is closed
abbrev pub raw_at_rest : Raw → ℕ → Raw
raw_at_rest ImplicitOpen held = Closed
raw_at_rest ExplicitOpen held = if held == 0 then Empty else Closed
raw_at_rest raw held = raw

-- the zone as a close leaves it, if it is open
abbrev pub at_rest : State → State
at_rest zone = record zone { raw = raw_at_rest zone.raw zone.held }

-- ---- the start

-- the condition of a good zone that isn't open
abbrev pub raw_good : Kind → Shape → ℕ → Raw
raw_good Conventional shape held = NotWp
raw_good Sequential shape held = resting shape held

-- the condition of a zone that isn't open, by what a report tells of it
abbrev pub raw_at_start : Cond → Kind → Shape → ℕ → Raw
raw_at_start Good kind shape held = raw_good kind shape held
raw_at_start read_only kind shape held = ReadOnly
raw_at_start offline kind shape held = Offline

-- a zone of this kind with what a report tells of it, where it isn't open
abbrev pub state_at_start : Shape → Kind × ZoneInfo → State
state_at_start shape (kind, info) = record { kind = kind; raw = raw_at_start info.cond kind shape info.held; held = info.held }

-- the machine of zones that aren't open: partly written ones are closed
abbrev pub started : Shape → List Kind → List ZoneInfo → Machine
started shape kinds infos = machine shape (map (state_at_start shape) (zip kinds infos))

-- ---- soundness

-- the condition fits the kind and the blocks held
abbrev pub fits : Shape → Kind → Raw → ℕ → Bool
fits shape kind NotWp held = not (is_sequential kind) && held == shape.zone_blocks
fits shape kind Empty held = is_sequential kind && held == 0
fits shape kind ImplicitOpen held = is_sequential kind && nat_lt 0 held && nat_lt held shape.zone_capacity
fits shape kind ExplicitOpen held = is_sequential kind && nat_lt held shape.zone_capacity
fits shape kind Closed held = is_sequential kind && nat_lt 0 held && nat_lt held shape.zone_capacity
fits shape kind Full held = is_sequential kind && held == shape.zone_capacity
fits shape kind ReadOnly held = if is_sequential kind then nat_le held shape.zone_capacity else held == shape.zone_blocks
fits shape kind Offline held = held == 0

-- What every machine keeps to.
pub record IsSoundMachine (m : Machine) : Type 0 where
  pub capacity : 0 < m.shape.zone_capacity
  pub count : length m.zones ≤ MAX_ZONES
  pub zones : (z : ℕ) → z < length m.zones → IsTrue (fits m.shape (state_at m z).kind (state_at m z).raw (state_at m z).held)
  pub active : 0 < m.shape.max_active → active_in m.zones ≤ m.shape.max_active
  pub opened : 0 < m.shape.max_open → open_in m.zones ≤ m.shape.max_open
