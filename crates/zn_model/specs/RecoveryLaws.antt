-- What a recovery of a file does, and what it leaves.
use Rattle.std.specs.Prelude.{◌≡◌, ◌≢◌, ◌<◌, ℕ, ◌*◌, Bool, true, false, ◌&&◌, ◌||◌, not, ◌==◌, List, ◌++◌, length, map, filter, Ok, Err}
use Rattle.zn_truth.specs.declared.limits.TheConstants.{BLOCK_SIZE}
use Rattle.zn_truth.specs.declared.Cond.{Cond}
use Rattle.zn_truth.specs.declared.Cond.TheVariants.{Good, ReadOnly, Offline}
use Rattle.zn_truth.specs.declared.DevError.{DevError}
use Rattle.zn_truth.specs.declared.Shape.{Shape}
use Rattle.zn_truth.specs.Truth.{is_good}
use Rattle.zn_truth.specs.World.{Outcome, issue, calm}
use Rattle.zn_model.specs.declared.files.FileZones.{FileZones}
use Rattle.zn_model.specs.declared.files.Found.{Found}
use Rattle.zn_model.specs.declared.files.Policy.{Policy}
use Rattle.zn_model.specs.declared.files.Policy.TheVariants.{RemountRo, ZoneRo, ZoneOffline, Repair}
use Rattle.zn_model.specs.declared.files.Shown.{Shown}
use Rattle.zn_model.specs.declared.answers.Refusal.{Refusal}
use Rattle.zn_model.specs.ZoneFiles.{room_of}
use Rattle.zn_model.specs.ShownStates.{showing, infos_of, worst, holds, policy_row, makes_read_only}
use Rattle.zn_model.specs.Volume.{Inodes, Queue, Request, Mounted, file_at, shown_at, is_queued, failed_request, failed}
use Rattle.zn_model.specs.Recovery.{refusal_of, is_passed_on, report_of, finding_of, agrees, told_after, recovered_inodes, recovered_shown, recovered}

-- A recovery sets the file's state to the policy's row of what was found.
abbrev pub RecoveryIsRow : Type 0
RecoveryIsRow = (policy : Policy) (found : Found) (inodes : Inodes) (f : ℕ) → f < length inodes.shown
    → shown_at (recovered_inodes policy found inodes f) f
    ≡ policy_row policy found.cond (BLOCK_SIZE * found.held) (shown_at inodes f).size
    ((shown_at inodes f).held_open && is_good found.cond && not (found.held == room_of inodes.shape (file_at inodes f)))

-- It changes no other file, nor which files there are and what they have room for.
pub record OthersStay (before after : Inodes) (f : ℕ) : Type 0 where
  pub layout : after.layout ≡ before.layout
  pub shape : after.shape ≡ before.shape
  pub count : length after.shown ≡ length before.shown
  pub others : (g : ℕ) → g ≢ f → shown_at after g ≡ shown_at before g

-- whatever was found, and by any policy, a recovery changes no other file, and not which files there are
abbrev pub RecoveryLeavesOthers : Type 0
RecoveryLeavesOthers = (policy : Policy) (found : Found) (inodes : Inodes) (f : ℕ) → OthersStay inodes (recovered_inodes policy found inodes f) f

-- It makes the file system read-only exactly where the policy says so, and never writable.
abbrev pub RecoveryMayRemount : Type 0
RecoveryMayRemount = (policy : Policy) (found : Found) (inodes : Inodes) (f : ℕ)
    → (recovered_inodes policy found inodes f).read_only ≡ (inodes.read_only || makes_read_only policy)

-- ---- the whole of a failed call's recovery

-- the report of the file's zones
abbrev pub reported : Mounted → ℕ → Outcome
reported m f = issue m.world (report_of (file_at m.volume.inodes f))

-- what the file's zones are in truth
abbrev pub truly_found : Mounted → ℕ → Found
truly_found m f = record {
  cond = worst (infos_of m.world.truth (file_at m.volume.inodes f));
  held = holds (infos_of m.world.truth (file_at m.volume.inodes f));
}

-- an offline file, of which nothing is held
abbrev pub found_offline : Found
found_offline = record { cond = Offline; held = 0 }

-- The file is set to the row of what was found, and its requests end. The device is as the report left it; other
-- files, the handles, the super block and the options of the mount stay.
pub record IsRecovered (found : Found) (before after : Mounted) (f : ℕ) : Type 0 where
  pub world : after.world ≡ (reported before f).world
  pub inodes : after.volume.inodes ≡ recovered_inodes before.volume.policy found before.volume.inodes f
  pub others : OthersStay before.volume.inodes after.volume.inodes f
  pub queue : after.volume.queue ≡ failed before.volume.queue f
  pub handles : after.volume.handles ≡ before.volume.handles
  pub super_block : after.volume.super_block ≡ before.volume.super_block
  pub policy : after.volume.policy ≡ before.volume.policy
  pub explicit_open : after.volume.explicit_open ≡ before.volume.explicit_open

-- With power and no faults the report tells the truth of the file's zones, and the device stays as it is; and so do
-- handles and other files.
pub record RecoveryOfMounted : Type 0 where
  pub recovers : (m : Mounted) (f : ℕ) → m.world ≡ calm m.world.truth → IsRecovered (truly_found m f) m (recovered false m f) f
  pub device : (after_read : Bool) (m : Mounted) (f : ℕ) → m.world ≡ calm m.world.truth → (recovered after_read m f).world ≡ m.world

-- A report that fails finds the file offline. But a failure that is passed on (want of power, what the device is kept
-- in, or want of memory) changes nothing but the device, and is what the call answers.
pub record RecoveryOfFailedReport : Type 0 where
  pub offline : (after_read : Bool) (m : Mounted) (f : ℕ) (error : DevError) → (reported m f).reply ≡ Err error
      → is_passed_on error ≡ false → IsRecovered found_offline m (recovered after_read m f) f
  pub passed_on : (after_read : Bool) (m : Mounted) (f : ℕ) (error : DevError) → (reported m f).reply ≡ Err error
      → is_passed_on error ≡ true → recovered after_read m f ≡ record m { world = (reported m f).world }
  pub told : (m : Mounted) (f : ℕ) (error : DevError) (refusal : Refusal) → (reported m f).reply ≡ Err error
      → is_passed_on error ≡ true → told_after (finding_of m f) refusal ≡ refusal_of error

-- After a failed read whose report finds good zones that hold just what the file shows, nothing changes but the
-- device; else a recovery does the same after a read as after any other command.
pub record RecoveryAfterRead : Type 0 where
  pub agreeing : (m : Mounted) (f : ℕ) → (reported m f).reply ≡ Ok tt
      → (truly_found m f).cond ≡ Good → BLOCK_SIZE * (truly_found m f).held ≡ (shown_at m.volume.inodes f).size
      → recovered true m f ≡ record m { world = (reported m f).world }
  pub differing : (m : Mounted) (f : ℕ) → (reported m f).reply ≡ Ok tt
      → agrees (truly_found m f) (shown_at m.volume.inodes f) ≡ false → recovered true m f ≡ recovered false m f

-- the requests that wait for a file, oldest first
abbrev pub waiting_for : ℕ → Queue → List Request
waiting_for f queue = filter (λ request. request.file == f) queue.queued

-- The requests of a file that wait end, in their order, behind those that ended before; those of other files wait on,
-- in their order.
pub record RequestsEnd : Type 0 where
  pub none_waits : (queue : Queue) (f : ℕ) → is_queued (failed queue f) f ≡ false
  pub ended : (queue : Queue) (f : ℕ) → (failed queue f).finished ≡ queue.finished ++ map failed_request (waiting_for f queue)
  pub others : (queue : Queue) (f g : ℕ) → g ≢ f → waiting_for g (failed queue f) ≡ waiting_for g queue
  pub tickets : (queue : Queue) (f : ℕ) → (failed queue f).last_ticket ≡ queue.last_ticket

-- ---- the table, computed

-- zones of two blocks
abbrev pub two_blocks : Shape
two_blocks = record { zone_blocks = 2; zone_capacity = 2; max_open = 0; max_active = 0 }

-- a file of one sequential zone
abbrev pub one_zone : FileZones
one_zone = record { first = 1; zones = 1; seq = true }

-- it shows 8,192 bytes, may be read and written, and is held open
abbrev pub shows_two : Shown
shows_two = showing 8192 true true true

-- the zone is found in a condition, holding one block
abbrev pub one_found : Cond → Found
one_found cond = record { cond = cond; held = 1 }

-- what it shows after a recovery
abbrev pub row : Policy → Cond → Shown
row policy cond = recovered_shown policy (one_found cond) two_blocks one_zone shows_two

-- Each row of the table of policies, for a file that shows 8,192 bytes and whose zone holds 4,096.
pub record PolicyTable : Type 0 where
  pub remount_ro_good : row RemountRo Good ≡ showing 4096 true false true
  pub remount_ro_read_only : row RemountRo ReadOnly ≡ showing 8192 true false false
  pub remount_ro_offline : row RemountRo Offline ≡ showing 0 false false false
  pub zone_ro_good : row ZoneRo Good ≡ showing 4096 true false true
  pub zone_ro_read_only : row ZoneRo ReadOnly ≡ showing 8192 true false false
  pub zone_ro_offline : row ZoneRo Offline ≡ showing 0 false false false
  pub zone_offline_good : row ZoneOffline Good ≡ showing 0 false false true
  pub zone_offline_read_only : row ZoneOffline ReadOnly ≡ showing 0 false false false
  pub zone_offline_offline : row ZoneOffline Offline ≡ showing 0 false false false
  pub repair_good : row Repair Good ≡ showing 4096 true true true
  pub repair_read_only : row Repair ReadOnly ≡ showing 8192 true false false
  pub repair_offline : row Repair Offline ≡ showing 0 false false false
