-- Where nothing stands against a call, it is refused by its checks alone, or for a limit of the device. (own)
use Rattle.std.specs.Prelude.{◌≡◌, ◌⊎◌, ℕ, ◌+◌, ◌*◌, ◌<◌, Bool, true, false, ◌&&◌, not, ◌==◌, List, [], ◌∷◌, ◌++◌, length, All, if◌then◌else◌, Option, Some, None, Ok, Err}
use Rattle.zn_truth.specs.declared.limits.TheConstants.{BLOCK_SIZE}
use Rattle.zn_truth.specs.declared.ZoneOp.TheVariants.{Open, Close}
use Rattle.zn_truth.specs.Truth.{Truth, zone_at, is_good, IsSound}
use Rattle.zn_truth.specs.Orders.{Order, Manage, FlushAll}
use Rattle.zn_truth.specs.World.{World, geometry_of, met, command_of, zones_of}
use Rattle.zn_model.specs.declared.answers.Refusal.{Refusal}
use Rattle.zn_model.specs.declared.answers.Refusal.TheVariants.{TooManyActive, TooManyOpen}
use Rattle.zn_model.specs.declared.files.FileZones.{FileZones}
use Rattle.zn_model.specs.declared.answers.Outcome.{Outcome}
use Rattle.zn_model.specs.declared.answers.Outcome.TheVariants.{IoError as had_io_error}
use Rattle.zn_model.specs.declared.handles.Done.{Done}
use Rattle.zn_model.specs.declared.handles.Handle.{Handle}
use Rattle.zn_model.specs.declared.handles.Mode.{Mode}
use Rattle.zn_model.specs.declared.handles.Who.{Who}
use Rattle.zn_model.specs.ZoneFiles.{files_of, file_named}
use Rattle.zn_model.specs.Access.{writes}
use Rattle.zn_model.specs.Volume.{Volume, Mounted, Live, Request, file_at, shown_at, capacity_at, live_at, without_live, writers_of}
use Rattle.zn_model.specs.Reading.{read_call, read_end, read_orders}
use Rattle.zn_model.specs.Writing.{write_call, write_orders}
use Rattle.zn_model.specs.Truncating.{truncate_call, truncate_orders, sync_call}
use Rattle.zn_model.specs.OpenClose.{open_call, close_call, begins_writing}
use Rattle.zn_model.specs.CallAnswers.{Answer}
use Rattle.zn_model.specs.Requests.{submit_call, complete_call}
use Rattle.zn_inode.specs.Sizes.{IsWithinRoom}
use Rattle.zn_io.specs.Files.{IsFile, shape_of}
use Rattle.zn_volume.specs.InFlight.{AreInFlight}
use Rattle.zn_volume.specs.Refusals.{read_refusal, write_refusal, truncate_refusal, sync_refusal, submit_refusal, open_refusal, close_refusal}

-- ---- what a volume keeps to

-- The device is sound, the files are of its zones, one zone each for those of `seq`, and each shows something: no more
-- than it has room for. The requests that wait can be carried out one after another.
pub record LiesOnDevice (m : Mounted) : Type 0 where
  pub sound : IsSound m.world.truth
  pub files : (f : ℕ) → f < length (files_of m.volume.inodes.layout) → IsFile (geometry_of m.world) (file_at m.volume.inodes f)
  pub single : (f : ℕ) → f < length (files_of m.volume.inodes.layout) → (file_at m.volume.inodes f).seq ≡ true → (file_at m.volume.inodes f).zones ≡ 1
  pub shape : m.volume.inodes.shape ≡ shape_of m.world
  pub shown : length m.volume.inodes.shown ≡ length (files_of m.volume.inodes.layout)
  pub sizes : IsWithinRoom m.volume.inodes
  pub flight : AreInFlight m.volume.inodes m.volume.queue.queued

-- ---- nothing stands against a call

-- Nothing strikes these commands: the power is on, no loss waits, and none of them meets a fault that waits.
pub record IsUnstruck (w : World) (orders : List Order) : Type 0 where
  pub powered : w.powered ≡ true
  pub no_loss : w.armed ≡ None
  pub unmet : All (λ order. met (command_of order) (zones_of order) w.pending ≡ None) orders

-- all zones of the file are good
pub record HasGoodZones (t : Truth) (file : FileZones) : Type 0 where
  pub good : (i : ℕ) → i < file.zones → is_good (zone_at t (file.first + i)).cond ≡ true

-- nothing strikes the commands of a call on a file, and the file's zones are good
pub record IsUntroubled (m : Mounted) (f : ℕ) (orders : List Order) : Type 0 where
  pub unstruck : IsUnstruck m.world orders
  pub zones : HasGoodZones m.world.truth (file_at m.volume.inodes f)

-- the file, if it is sequential, shows what its zone holds
pub record ShowsHeld (m : Mounted) (f : ℕ) : Type 0 where
  pub held : (file_at m.volume.inodes f).seq ≡ true → BLOCK_SIZE * (zone_at m.world.truth (file_at m.volume.inodes f).first).held ≡ (shown_at m.volume.inodes f).size

-- ---- the refusals that are left

-- a refusal for a limit of the device
abbrev pub tells_limit : Refusal → Bool
tells_limit TooManyActive = true
tells_limit TooManyOpen = true
tells_limit _ = false

-- the checks give the refusal, or it is for a limit
abbrev pub IsCheckedOrLimit : Option Refusal → Refusal → Type 0
IsCheckedOrLimit check refusal = (check ≡ Some refusal) ⊎ (tells_limit refusal ≡ true)

-- ---- the commands of each call

-- the commands of a read
abbrev pub reading_orders : Volume → ℕ → ℕ → ℕ → List Order
reading_orders v f offset len = read_orders v.inodes.shape (file_at v.inodes f) offset (read_end (shown_at v.inodes f) offset len)

-- the commands of a truncation
abbrev pub truncating_orders : Volume → ℕ → ℕ → List Order
truncating_orders v f size = truncate_orders (file_at v.inodes f) (shown_at v.inodes f) size

-- the zone command of an open, where it issues one
abbrev pub opening_orders : Volume → ℕ → Mode → List Order
opening_orders v f mode =
    if begins_writing v f mode && not ((shown_at v.inodes f).size == capacity_at v.inodes f) then Manage (file_at v.inodes f).first Open ∷ [] else []

-- the zone command of a close, where it issues one
abbrev pub closing_orders : Volume → Live → List Order
closing_orders v live =
    if writes live.mode && (writers_of (without_live v.handles live.handle) live.file == 0) && (shown_at v.inodes live.file).held_open
    then Manage (file_at v.inodes live.file).first Close ∷ []
    else []

-- ---- the laws, where nothing stands against the call

-- a read is refused by its checks alone
abbrev pub ReadAnswers : Mounted → Type 0
ReadAnswers m = (given : List ℕ) (h : Handle) (offset len : ℕ) (live : Live) (refusal : Refusal) → live_at m.volume.handles h ≡ Some live
    → IsUntroubled m live.file (reading_orders m.volume live.file offset len) → ShowsHeld m live.file
    → (read_call given m h offset len).reply ≡ Err refusal → read_refusal m h offset ≡ Some refusal

-- a write is refused by its checks, or for a limit
abbrev pub WriteAnswers : Mounted → Type 0
WriteAnswers m = (h : Handle) (offset : ℕ) (bytes : List ℕ) (live : Live) (refusal : Refusal) → live_at m.volume.handles h ≡ Some live
    → IsUntroubled m live.file (write_orders m.volume live.file offset bytes) → ShowsHeld m live.file
    → (write_call m h offset bytes).reply ≡ Err refusal → IsCheckedOrLimit (write_refusal m h offset (length bytes)) refusal

-- a truncation is refused by its checks, or for a limit, whatever the file shows
abbrev pub TruncateAnswers : Mounted → Type 0
TruncateAnswers m = (h : Handle) (size : ℕ) (live : Live) (refusal : Refusal) → live_at m.volume.handles h ≡ Some live
    → IsUntroubled m live.file (truncating_orders m.volume live.file size)
    → (truncate_call m h size).reply ≡ Err refusal → IsCheckedOrLimit (truncate_refusal m h size) refusal

-- on every mounted volume a sync is refused by its checks alone, whatever the conditions of the zones
abbrev pub SyncAnswers : Type 0
SyncAnswers = (m : Mounted) (h : Handle) (refusal : Refusal) → IsUnstruck m.world (FlushAll ∷ [])
    → (sync_call m h).reply ≡ Err refusal → sync_refusal m h ≡ Some refusal

-- on every mounted volume a submit is refused by its checks alone, whatever the device
abbrev pub SubmitAnswers : Type 0
SubmitAnswers = (m : Mounted) (h : Handle) (offset : ℕ) (bytes : List ℕ) (refusal : Refusal)
    → (submit_call m h offset bytes).reply ≡ Err refusal → submit_refusal m h offset (length bytes) ≡ Some refusal

-- an outcome that is done, or a limit of the device
abbrev pub is_done_or_limit : Outcome → Bool
is_done_or_limit had_io_error = false
is_done_or_limit _ = true

-- The oldest request was carried out: its ticket is answered, and its outcome, which is done or a limit, stands behind
-- those that were there, before those of requests that it ends.
pub record IsCarriedOut (m : Mounted) (oldest : Request) (answer : Answer ℕ) : Type 0 where
  pub outcome : Outcome
  pub others : List Done
  pub reply : answer.reply ≡ Ok oldest.ticket
  pub finished : answer.mounted.volume.queue.finished ≡ m.volume.queue.finished ++ (record { ticket = oldest.ticket; outcome = outcome }) ∷ others
  pub done : is_done_or_limit outcome ≡ true

-- a complete carries out the oldest request
abbrev pub CompleteAnswers : Mounted → Type 0
CompleteAnswers m = (oldest : Request) (waiting : List Request) → m.volume.queue.queued ≡ oldest ∷ waiting
    → IsUntroubled m oldest.file (write_orders m.volume oldest.file oldest.offset oldest.bytes) → ShowsHeld m oldest.file
    → IsCarriedOut m oldest (complete_call m)

-- an open of a file is refused by its checks, or for a limit, whatever the file shows
abbrev pub OpenAnswers : Mounted → Type 0
OpenAnswers m = (key : ℕ) (path : List ℕ) (mode : Mode) (who : Who) (f : ℕ) (refusal : Refusal) → file_named m.volume.inodes.layout path ≡ Some f
    → IsUntroubled m f (opening_orders m.volume f mode)
    → (open_call m key path mode who).reply ≡ Err refusal → IsCheckedOrLimit (open_refusal m path mode who) refusal

-- a close is refused by its checks alone, whatever the file shows
abbrev pub CloseAnswers : Mounted → Type 0
CloseAnswers m = (h : Handle) (live : Live) (refusal : Refusal) → live_at m.volume.handles h ≡ Some live
    → IsUntroubled m live.file (closing_orders m.volume live)
    → (close_call m h).reply ≡ Err refusal → close_refusal m h ≡ Some refusal
