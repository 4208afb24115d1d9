-- What a report of a file's zones, and a recovery of a file, owe. (own)
use Rattle.std.specs.Prelude.{◌≡◌, ℕ, Bool, true, false, Option, is_some, Result, Ok, Err, IsErr, IsErrOf, IfErr}
use Rattle.zn_truth.specs.declared.DevError.{DevError}
use Rattle.zn_truth.specs.Orders.{Reply}
use Rattle.zn_truth.specs.World.{World, issue, geometry_of}
use Rattle.zn_truth.specs.Obeying.{is_answered, IsAnswered}
use Rattle.zn_device.specs.States.{DeviceState, Caused}
use Rattle.zn_model.specs.declared.files.FileZones.{FileZones}
use Rattle.zn_model.specs.declared.files.Found.{Found}
use Rattle.zn_model.specs.declared.files.Policy.{Policy}
use Rattle.zn_model.specs.declared.answers.Refusal.{Refusal}
use Rattle.zn_model.specs.Volume.{Inodes, file_at, shown_at}
use Rattle.zn_model.specs.Recovery.{is_passed_on, report_of, Finding, finding, applied, inodes_after, told_after, refusal_of}
use Rattle.zn_model.specs.RecoveryLaws.{OthersStay}
use Rattle.zn_io.specs.Files.{as_reply}

-- A report has its causes, whatever is made of its reply: the result is answered just where the report is, tells no
-- error that the report doesn't, and fails only by what is passed on.
pub record Reported (result : Reply) (old new : DeviceState) : Type 0 where
  pub reply : Reply
  pub caused : Caused reply old new
  pub alike : is_answered result ≡ is_answered reply
  pub told : (error : DevError) → IsErrOf result error → IsErrOf reply error
  pub passed_on : IfErr result (λ error. is_passed_on error ≡ true)

-- A report of a file's zones, where it is answered, finds what they tell.
pub record Finds (file : FileZones) (result : Finding) (old new : DeviceState) : Type 0 where
  pub found : IsAnswered (as_reply result) → result ≡ finding old.world file
  pub world : IsAnswered (as_reply result) → new.world ≡ (issue old.world (report_of file)).world
  pub geometry : geometry_of new.world ≡ geometry_of old.world
  pub reported : Reported (as_reply result) old new

-- what of a file's finding is applied to it
abbrev pub applied_to : Bool → World → Inodes → ℕ → Option Found
applied_to after_read w inodes f = applied after_read (finding w (file_at inodes f)) (shown_at inodes f)

-- whether a recovery says that it changed the file
abbrev pub is_applied : Result Bool DevError → Bool
is_applied (Ok changed) = changed
is_applied (Err error) = false

-- the refusal that was to be told, after a recovery
abbrev pub told_by : Result Bool DevError → Refusal → Refusal
told_by (Ok changed) refusal = refusal
told_by (Err error) refusal = refusal_of error

-- A recovery of a file, where it is answered, finds what the file's zones tell, says whether that is applied,
-- and applies it. Other files stay in any case, and all files where it fails.
pub record Recovers (after_read : Bool) (policy : Policy) (f : ℕ) (result : Result Bool DevError)
    (old new : DeviceState) (before after : Inodes) : Type 0 where
  pub reply : IsAnswered (as_reply result) → as_reply result ≡ as_reply (finding old.world (file_at before f))
  pub tells : (refusal : Refusal) → IsAnswered (as_reply result)
      → told_by result refusal ≡ told_after (finding old.world (file_at before f)) refusal
  pub applies : IsAnswered (as_reply result) → is_applied result ≡ is_some (applied_to after_read old.world before f)
  pub inodes : IsAnswered (as_reply result)
      → after ≡ inodes_after (applied_to after_read old.world before f) policy before f
  pub world : IsAnswered (as_reply result) → new.world ≡ (issue old.world (report_of (file_at before f))).world
  pub geometry : geometry_of new.world ≡ geometry_of old.world
  pub others : OthersStay before after f
  pub failed : IsErr result → after ≡ before
  pub reported : Reported (as_reply result) old new
