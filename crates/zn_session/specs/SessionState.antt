-- What a clause sees of a session. (own)
use Rattle.std.specs.Prelude.{◌≡◌, ◌≤◌, ◌+◌, ℕ, Bool, true, false, List, [], length, map, vec_capacity}
use Rattle.std.specs.Prelude.{Option, Some, None, option_map, slice_index_or, IsSome}
use Rattle.zn_truth.specs.Truth.{Truth}
use Rattle.zn_truth.specs.World.{calm, geometry_of}
use Rattle.zn_device.specs.States.{DeviceState}
use Rattle.zn_model.specs.declared.handles.Handle.{Handle}
use Rattle.zn_io.specs.declared.reading.TheConstants.{SCRATCH}
use Rattle.zn_model.specs.Keys.{unkeyed_handle, unkeyed_volume, IsUsedOnce}
use Rattle.zn_model.specs.Volume.{Volume, Mounted, live_at}
use Rattle.zn_lines.specs.declared.limits.TheConstants.{MAX_NUMBERS}
use Rattle.zn_lines.specs.Table.{Table, no_numbers}
use Rattle.zn_run.specs.States.{MachineState}
use Rattle.zn_volume.specs.VolumeState.{VolumeState}
use Rattle.zn_session.specs.declared.held.Held.{Held}
use Rattle.zn_session.specs.declared.held.Held.TheVariants.{Bare, Mounted as OnVolume}
use Rattle.zn_session.specs.declared.room.Room.{Room}

-- ---- what a session holds

-- What a session holds: a device, and the volume on it, where one is mounted.
pub record HeldState : Type 0 where
  pub device : DeviceState
  pub volume : Option Volume

-- a device without a volume
abbrev pub bare_held : DeviceState → HeldState
bare_held device = record { device = device; volume = None }

-- a volume and its device
abbrev pub mounted_held : VolumeState → HeldState
mounted_held seen = record { device = seen.device; volume = Some seen.volume }

-- no zones
abbrev pub no_truth : Truth
no_truth = record { told = false; shape = record { zone_blocks = 0; zone_capacity = 0; max_open = 0; max_active = 0 }; zones = [] }

-- no device: this stands only where a line has the device in hand
abbrev pub no_device : DeviceState
no_device =
    record { world = calm no_truth; spoilt = false; faults = 0; breaks = 0; takes_memory = false; keeps_conditions = false }

-- what is held, by what a device is
abbrev pub held_by : {D : Type 0} → (D → DeviceState) → Option (Held D) → HeldState
held_by state None = bare_held no_device
held_by state (Some (Bare dev)) = bare_held (state dev)
held_by state (Some (OnVolume seen)) = mounted_held seen

-- ---- the session

-- A session: what it holds, the handle of each number, the sixteen bytes that an identifier is made of, whether no
-- further line may come, and how many lines it was given.
pub record SessionState : Type 0 where
  pub held : HeldState
  pub numbers : List (Option Handle)
  pub entropy : List ℕ
  pub over : Bool
  pub steps : ℕ

-- a session by its parts
abbrev pub session_of : HeldState → List (Option Handle) → List ℕ → Bool → ℕ → SessionState
session_of held numbers entropy over steps =
    record { held = held; numbers = numbers; entropy = entropy; over = over; steps = steps }

-- a new session: nothing is mounted, no number has a handle, and no line was given
abbrev pub begun : DeviceState → List ℕ → SessionState
begun device entropy = session_of (bare_held device) no_numbers entropy false 0

-- ---- the table

-- The handles of a table have no keys, since no call depends on them.
abbrev pub unkeyed_numbers : List (Option Handle) → List (Option Handle)
unkeyed_numbers numbers = map (option_map unkeyed_handle) numbers

-- the table of what is held
abbrev pub table_by : List ℕ → HeldState → List (Option Handle) → Table
table_by entropy held numbers = record {
  world = held.device.world;
  volume = option_map unkeyed_volume held.volume;
  numbers = unkeyed_numbers numbers;
  entropy = entropy;
}

-- the table of a mounted volume, where no identifier is made
abbrev pub table_of : Mounted → List (Option Handle) → Table
table_of m numbers =
    record { world = m.world; volume = Some (unkeyed_volume m.volume); numbers = unkeyed_numbers numbers; entropy = [] }

-- the table that the session is
abbrev pub table_in : SessionState → Table
table_in session = table_by session.entropy session.held session.numbers

-- the session as what carries out lines
abbrev pub machine_of : SessionState → MachineState
machine_of session = record {
  table = table_in session;
  over = session.over;
  spoilt = session.held.device.spoilt;
  breaks = session.held.device.breaks;
  takes_memory = session.held.device.takes_memory;
  steps = session.steps;
}

-- ---- what a session keeps to

-- the handle of a number
abbrev pub number_at : List (Option Handle) → ℕ → Option Handle
number_at numbers n = slice_index_or numbers n None

-- each number's handle is live, and is that of no other number
pub record IsNumbered (m : Mounted) (numbers : List (Option Handle)) : Type 0 where
  pub count : length numbers ≡ MAX_NUMBERS
  pub once : IsUsedOnce m.volume
  pub live : (n : ℕ) (h : Handle) → number_at numbers n ≡ Some h → IsSome (live_at m.volume.handles h)
  pub apart : (a b : ℕ) (h : Handle) → number_at numbers a ≡ Some h → number_at numbers b ≡ Some h → a ≡ b

-- the handles of a volume are numbered so; without a volume no number has a handle
abbrev pub numbered_on : Option Volume → DeviceState → List (Option Handle) → Type 0
numbered_on None device numbers = numbers ≡ no_numbers
numbered_on (Some volume) device numbers = IsNumbered (record { world = device.world; volume = volume }) numbers

-- the same of what is held
abbrev pub AreNumbered : HeldState → List (Option Handle) → Type 0
AreNumbered held numbers = numbered_on held.volume held.device numbers

-- how many handles were opened on a volume, and tickets given: it numbers no two of them alike
abbrev pub used_by : Volume → ℕ
used_by volume = volume.handles.opened + volume.queue.last_ticket

-- the same of what is mounted, if something is
abbrev pub used_on : Option Volume → ℕ
used_on None = 0
used_on (Some volume) = used_by volume

-- how many zones the device has
abbrev pub zones_in : HeldState → ℕ
zones_in held = length (geometry_of held.device.world).kinds

-- There is room for the bytes of one call, and for a report of so many zones.
pub record HasRoom (count : ℕ) (room : Room) : Type 0 where
  pub bytes : SCRATCH ≤ vec_capacity room.bytes
  pub infos : length room.infos.items ≡ count
  pub zones : length room.zones.items ≡ count

-- The device is there, with room for the bytes of one call and a report of its zones. As long as lines may come, it is
-- not spoilt, the numbers are those of the volume's handles, and no more handles were opened and tickets given than
-- lines came.
pub record IsSession (session : SessionState) (is_there : Bool) (room : Room) : Type 0 where
  pub there : is_there ≡ true
  pub has_room : HasRoom (zones_in session.held) room
  pub unspoilt : session.over ≡ false → session.held.device.spoilt ≡ false
  pub numbered : session.over ≡ false → AreNumbered session.held session.numbers
  pub few : session.over ≡ false → used_on session.held.volume ≤ session.steps
