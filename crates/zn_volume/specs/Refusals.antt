-- Which refusal a call's checks give: the first whose cause holds. Behind the checks only what a device's command
-- answered is told. (own)
use Rattle.std.specs.Prelude.{◌≡◌, ℕ, Bool, true, false, List, [], ◌∷◌, Option, Some, None, Result, Ok, Err, if◌then◌else◌}
use Rattle.zn_model.specs.declared.answers.Refusal.{Refusal}
use Rattle.zn_model.specs.declared.answers.Refusal.TheVariants.{NoSuchFile, BadHandle, NothingQueued, NothingDone, TooManyActive, TooManyOpen, IoError, PowerLost, Broken, Memory}
use Rattle.zn_model.specs.declared.handles.Handle.{Handle}
use Rattle.zn_model.specs.declared.handles.Mode.{Mode}
use Rattle.zn_model.specs.declared.handles.Who.{Who}
use Rattle.zn_model.specs.ZoneFiles.{file_named, listing_of}
use Rattle.zn_model.specs.Volume.{Mounted, Live, live_at, is_queued_through}
use Rattle.zn_model.specs.CallAnswers.{busy_refusal}
use Rattle.zn_model.specs.OpenClose.{opening_refusal}
use Rattle.zn_model.specs.Reading.{reading_refusal}
use Rattle.zn_model.specs.Requests.{submitting_refusal}
use Rattle.zn_model.specs.Truncating.{truncate_at_once, syncing_refusal}
use Rattle.zn_model.specs.Writing.{write_at_once}

-- a refusal that tells what a device's command answered
abbrev pub is_failure : Refusal → Bool
is_failure IoError = true
is_failure TooManyActive = true
is_failure TooManyOpen = true
is_failure PowerLost = true
is_failure Broken = true
is_failure Memory = true
is_failure _ = false

-- the result is such a refusal
abbrev pub fails : {X : Type 0} → Result X Refusal → Bool
fails (Ok value) = false
fails (Err refusal) = is_failure refusal

-- The checks' refusal is the answer; where they give none, only failures of the device are refusals.
pub record IsRefusedBy {X : Type 0} (check : Option Refusal) (result : Result X Refusal) : Type 0 where
  pub refused : (refusal : Refusal) → check ≡ Some refusal → result ≡ Err refusal
  pub passed : check ≡ None → (refusal : Refusal) → result ≡ Err refusal → is_failure refusal ≡ true

-- ---- the checks, in their order

-- without power, nothing else is checked
abbrev pub power_first : Mounted → Option Refusal → Option Refusal
power_first m check = if m.world.powered then check else Some PowerLost

-- then the handle must be live
abbrev pub live_first : Option Live → (Live → Option Refusal) → Option Refusal
live_first None check = Some BadHandle
live_first (Some live) check = check live

-- or the path that of a file
abbrev pub file_first : Option ℕ → (ℕ → Option Refusal) → Option Refusal
file_first None check = Some NoSuchFile
file_first (Some f) check = check f

-- the refusal of checks that may also answer at once
abbrev pub refusal_in : {X : Type 0} → Option (Result X Refusal) → Option Refusal
refusal_in None = None
refusal_in (Some (Ok value)) = None
refusal_in (Some (Err refusal)) = Some refusal

-- the refusal of an open by its checks
abbrev pub open_refusal : Mounted → List ℕ → Mode → Who → Option Refusal
open_refusal m path mode who =
    power_first m (file_first (file_named m.volume.inodes.layout path) (λ f. opening_refusal m.world.truth.shape.max_open m.volume f mode who))

-- of a close
abbrev pub close_refusal : Mounted → Handle → Option Refusal
close_refusal m h = power_first m (live_first (live_at m.volume.handles h) (λ live. busy_refusal (is_queued_through m.volume.queue live.handle)))

-- of a size
abbrev pub size_refusal : Mounted → Handle → Option Refusal
size_refusal m h = power_first m (live_first (live_at m.volume.handles h) (λ live. None))

-- of a read
abbrev pub read_refusal : Mounted → Handle → ℕ → Option Refusal
read_refusal m h offset = power_first m (live_first (live_at m.volume.handles h) (λ live. reading_refusal m.volume live offset))

-- of a write of so many bytes
abbrev pub write_refusal : Mounted → Handle → ℕ → ℕ → Option Refusal
write_refusal m h offset len = power_first m (live_first (live_at m.volume.handles h) (λ live. refusal_in (write_at_once m.volume live offset len)))

-- of a truncation to so many bytes
abbrev pub truncate_refusal : Mounted → Handle → ℕ → Option Refusal
truncate_refusal m h size = power_first m (live_first (live_at m.volume.handles h) (λ live. refusal_in (truncate_at_once m.volume live size)))

-- of a sync
abbrev pub sync_refusal : Mounted → Handle → Option Refusal
sync_refusal m h = power_first m (live_first (live_at m.volume.handles h) (λ live. syncing_refusal m.volume live))

-- of a submit of so many bytes
abbrev pub submit_refusal : Mounted → Handle → ℕ → ℕ → Option Refusal
submit_refusal m h offset len = power_first m (live_first (live_at m.volume.handles h) (λ live. submitting_refusal m.volume live offset len))

-- something must be there, or this is the refusal
abbrev pub some_first : {X : Type 0} → List X → Refusal → Option Refusal
some_first [] refusal = Some refusal
some_first (first ∷ rest) refusal = None

-- of a complete
abbrev pub complete_refusal : Mounted → Option Refusal
complete_refusal m = power_first m (some_first m.volume.queue.queued NothingQueued)

-- of a reap
abbrev pub reap_refusal : Mounted → Option Refusal
reap_refusal m = power_first m (some_first m.volume.queue.finished NothingDone)

-- a path must be that of a directory or a file
abbrev pub named_first : Option (List (List ℕ)) → Option ℕ → Option Refusal
named_first (Some names) file = None
named_first None (Some f) = None
named_first None None = Some NoSuchFile

-- of a look at a path
abbrev pub stat_refusal : Mounted → List ℕ → Option Refusal
stat_refusal m path = power_first m (named_first (listing_of m.volume.inodes.layout path) (file_named m.volume.inodes.layout path))

-- of a count of entries
abbrev pub entries_refusal : Mounted → List ℕ → Option Refusal
entries_refusal m path = power_first m (named_first (listing_of m.volume.inodes.layout path) None)

-- of a look at the attributes
abbrev pub attr_refusal : Mounted → Option Refusal
attr_refusal m = power_first m None
