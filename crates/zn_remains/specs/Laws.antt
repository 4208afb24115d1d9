-- Laws over whole scripts: what sequential zones hold after losses of power. (own)
use Rattle.std.specs.Prelude.{◌≡◌, ℕ, ◌*◌, ◌≤◌, true, false, List, [], ◌∷◌, ◌++◌, length, take, fold, Some, None}
use Rattle.std.specs.List.{All}
use Rattle.zn_truth.specs.declared.limits.TheConstants.{BLOCK_SIZE}
use Rattle.zn_truth.specs.Limits.{IsWithinLimits}
use Rattle.zn_truth.specs.Truth.{Zone, IsSound, zone_at}
use Rattle.zn_truth.specs.World.{World, geometry_of}
use Rattle.zn_lines.specs.declared.runs.Tail.{Tail}
use Rattle.zn_lines.specs.declared.words.Scratch.{Scratch}
use Rattle.zn_lines.specs.Lines.{Line, SyncFile}
use Rattle.zn_lines.specs.ReplyTexts.{ok_text}
use Rattle.zn_lines.specs.Scratch.{command_of, scratch_table}
use Rattle.zn_lines.specs.Table.{Table}
use Rattle.zn_lines.specs.Session.{line_step}
use Rattle.zn_remains.specs.Events.{Event, PowerBack, after_events, FitsIn, PowerGoes}
use Rattle.zn_remains.specs.Histories.{Carried, after_lines, events_of, History}
use Rattle.zn_remains.specs.Remaining.{AllRemain, StaysDurable, IsSequentialZone, IsAllDurable, spares, is_dark}

-- Nothing is mounted, the device is sound and its geometry one that a device may have, and the session was given sixteen
-- bytes for identifiers.
pub record MayBegin (table : Table) : Type 0 where
  pub unmounted : table.volume ≡ None
  pub sound : IsSound table.world.truth
  pub limits : IsWithinLimits (geometry_of table.world)
  pub entropy : length table.entropy ≡ 16

-- the table after lines, each with what its reads gave
abbrev pub led_by : Table → List (List ℕ × Line) → Table
led_by table lines = fold (λ table line. (line_step line.0 table line.1).table) table lines

-- A session that lines have led to, if any, from one that may begin.
pub record IsSession (table : Table) : Type 0 where
  pub begun : Table
  pub may : MayBegin begun
  pub lines : List (List ℕ × Line)
  pub led : table ≡ led_by begun lines

-- All that a script does to the device is a list of events, line by line.
abbrev pub ScriptsAreEvents : Type 0
ScriptsAreEvents = (givens : List (List ℕ)) (tail : Tail) (table : Table) (n : ℕ) (bytes : List ℕ) → IsSession table → History givens tail table n bytes

-- ---- events one after another

-- a zone that holds all that another held, with the same bytes
pub record HoldsAll (old new : Zone) : Type 0 where
  pub blocks : old.held ≤ new.held
  pub bytes : take (BLOCK_SIZE * old.held) new.bytes ≡ take (BLOCK_SIZE * old.held) old.bytes

-- What becomes of sequential zones while events come one after another.
pub record KeepThrough (w : World) (events : List Event) : Type 0 where
  -- at each event at which the power goes, each keeps what was durable and ends no later than its last issued append
  pub losses : (before : List Event) (event : Event) (after : List Event) → events ≡ before ++ (event ∷ after) → PowerGoes (after_events w before) event
      → AllRemain (after_events w before).truth event (after_events w (before ++ event ∷ [])).truth
  -- until the power is back nothing changes in the device
  pub dark : (before dark after : List Event) → events ≡ before ++ (dark ++ after) → (after_events w before).powered ≡ false → All (λ event. is_dark event ≡ true) dark
      → (after_events w (before ++ dark)).truth ≡ (after_events w before).truth
  -- so when it is back each holds what the loss left
  pub returns : (before : List Event) (event : Event) (dark after : List Event) → events ≡ before ++ (event ∷ (dark ++ (PowerBack ∷ after))) → PowerGoes (after_events w before) event
      → All (λ event. is_dark event ≡ true) dark → AllRemain (after_events w before).truth event (after_events w (before ++ (event ∷ (dark ++ PowerBack ∷ [])))).truth
  -- what is durable in one stays so as long as no event empties it or turns it offline
  pub stays : (before between after : List Event) (z : ℕ) → events ≡ before ++ (between ++ after) → IsSequentialZone w.truth z → All (λ event. spares z event ≡ true) between
      → StaysDurable (zone_at (after_events w before).truth z) (zone_at (after_events w (before ++ between)).truth z)

-- Whatever fitting events come to a sound device, one after another, each sequential zone is kept so.
abbrev pub EventsKeep : Type 0
EventsKeep = (w : World) (events : List Event) → IsSound w.truth → All (FitsIn (geometry_of w)) events → KeepThrough w events

-- ---- whole scripts

-- A line that syncs and says `ok` leaves every zone durable as a whole.
abbrev pub SyncMakesDurable : Type 0
SyncMakesDurable = (given : List ℕ) (table : Table) (n : ℕ) → (line_step given table (SyncFile n)).text ≡ ok_text → IsAllDurable (line_step given table (SyncFile n)).table.world.truth

-- a line that syncs, which began from this table and says `ok`
abbrev pub Synced : Table → Carried → Type 0
Synced table carried = (n : ℕ) × (carried.line ≡ SyncFile n) × ((line_step carried.given table carried.line).text ≡ ok_text)

-- What a run leaves of what the device held.
pub record ScriptKeeps (givens : List (List ℕ)) (tail : Tail) (table : Table) (n : ℕ) (bytes : List ℕ) : Type 0 where
  -- what it did, line by line and event by event
  pub history : History givens tail table n bytes
  -- what its losses of power leave of each sequential zone
  pub keeps : KeepThrough table.world (events_of history.carried)
  -- What a sequential zone held when a sync said `ok` it holds as long as no event empties it or turns it offline,
  -- whatever losses of power come.
  pub synced : (before : List Carried) (sync : Carried) (behind : List Carried) (events after : List Event) (z : ℕ) → history.carried ≡ before ++ (sync ∷ behind) → events_of behind ≡ events ++ after
      → Synced (after_lines table before) sync → IsSequentialZone table.world.truth z → All (λ event. spares z event ≡ true) events
      → HoldsAll (zone_at (after_lines table (before ++ sync ∷ [])).world.truth z) (zone_at (after_events table.world (events_of (before ++ sync ∷ []) ++ events)).truth z)

-- What a sequential file holds after power returns is, from its start to its durable length, what it held, and no longer
-- than its last issued append: over every script.
abbrev pub PowerLossesKeep : Type 0
PowerLossesKeep = (givens : List (List ℕ)) (tail : Tail) (table : Table) (n : ℕ) (bytes : List ℕ) → IsSession table → ScriptKeeps givens tail table n bytes

-- so too of every script that the command `scratch` runs
abbrev pub ScratchKeeps : Type 0
ScratchKeeps = (words : List (List ℕ)) (s : Scratch) (entropy : List ℕ) (givens : List (List ℕ)) (tail : Tail) (n : ℕ) (bytes : List ℕ)
    → command_of words ≡ Some s → length entropy ≡ 16 → ScriptKeeps givens tail (scratch_table s entropy) n bytes
