-- What a call on a volume answers, and the checks that several calls share.
use Rattle.std.specs.Prelude.{Bool, not, if◌then◌else◌, Option, Some, None, Result, Ok, Err}
use Rattle.zn_model.specs.declared.files.Shown.{Shown}
use Rattle.zn_model.specs.declared.answers.Refusal.{Refusal}
use Rattle.zn_model.specs.declared.answers.Refusal.TheVariants.{FileOffline, FileReadOnly, FsReadOnly, Busy, PowerLost}
use Rattle.zn_model.specs.Volume.{Mounted}
use Rattle.zn_model.specs.Recovery.{Failed}

-- What a call answers, and what it leaves.
pub record Answer (X : Type 0) : Type 0 where
  pub reply : Result X Refusal
  pub mounted : Mounted

-- a refusal, and what is left
abbrev pub refused : {X : Type 0} → Refusal → Mounted → Answer X
refused refusal m = record { reply = Err refusal; mounted = m }

-- a value, and what is left
abbrev pub answered : {X : Type 0} → X → Mounted → Answer X
answered value m = record { reply = Ok value; mounted = m }

-- what follows a failed command, as a call's answer
abbrev pub as_answer : {X : Type 0} → Failed → Answer X
as_answer after = refused after.refusal after.mounted

-- the reply if a check gave one, or else what is done
abbrev pub unless : {X : Type 0} → Option (Result X Refusal) → Mounted → Answer X → Answer X
unless (Some reply) m answer = record { reply = reply; mounted = m }
unless None m answer = answer

-- without power every call on a mounted volume is refused
abbrev pub with_power : {X : Type 0} → Mounted → Answer X → Answer X
with_power m answer = if m.world.powered then answer else refused PowerLost m

-- ---- checks

-- the rights of a file, as a call that changes it needs them
abbrev pub rights_refusal : Bool → Shown → Option Refusal
rights_refusal read_only shown =
    if read_only then Some FsReadOnly
    else if not shown.may_read then Some FileOffline
    else if not shown.may_write then Some FileReadOnly
    else None

-- the first of two checks that refuses
abbrev pub or_else : Option Refusal → Option Refusal → Option Refusal
or_else (Some refusal) second = Some refusal
or_else None second = second

-- a check's refusal as a reply that ends the call; none where the check passed
abbrev pub as_refused : {X : Type 0} → Option Refusal → Option (Result X Refusal)
as_refused None = None
as_refused (Some refusal) = Some (Err refusal)

-- refused as busy while a request waits
abbrev pub busy_refusal : Bool → Option Refusal
busy_refusal queued = if queued then Some Busy else None
