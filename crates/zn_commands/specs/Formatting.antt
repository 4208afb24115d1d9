-- What the command `mkfs` does, by its status. (own)
use Rattle.std.specs.Prelude.{◌≡◌, ◌≢◌, ◌↔◌, ◌⊎◌, Bool, ◌||◌, not, Some, Ok, Err, IsTrue}
use Rattle.zn_base.specs.States.{SinkState}
use Rattle.zn_truth.specs.Truth.{Truth, zone_at, geometry, is_good}
use Rattle.zn_model.specs.declared.answers.FormatError.{FormatError}
use Rattle.zn_model.specs.declared.answers.FormatError.TheVariants.{IoError, PowerLost}
use Rattle.zn_model.specs.SuperBlock.{SuperBlock}
use Rattle.zn_model.specs.Formatting.{IsFormatted}
use Rattle.zn_lines.specs.ReplyTexts.{error_text, ok_text, format_error_name}
use Rattle.zn_device.specs.States.{DeviceState}
use Rattle.zn_mkfs.specs.Commands.{FormatReply}
use Rattle.zn_mkfs.specs.Formats.{IsUntried, IsFormat, FormatCause}
use Rattle.zn_run.specs.Headline.{Closed}
use Rattle.zn_run.specs.States.{Added}
use Rattle.zn_run.specs.declared.status.Status.{Status}
use Rattle.zn_run.specs.declared.status.Status.TheVariants.{Done, Directory as BadDirectory, Memory}
use Rattle.zn_stand.specs.Directory.{Directory, Contents, contents, rested}
use Rattle.zn_stand.specs.Standing.{StandsFor}
use Rattle.zn_stand.specs.AtRest.{Cause, at_rest}
use Rattle.zn_files.specs.States.{FilesState, directory}
use Rattle.zn_backing.specs.declared.error.OpenError.{OpenError}
use Rattle.zn_zloop.specs.Opening.{Opened, LeftShut}
use Rattle.zn_commands.specs.Lines.{cause_name, open_status, open_line, format_status, format_line}
use Rattle.zn_commands.specs.Devices.{LiesIn}
use Rattle.zn_commands.specs.Refusing.{holds_super_block, Refuses}
use Rattle.zn_commands.specs.Causes.{IsQuiet, EndCauses}

-- A device that was opened was to be formatted, with this reply, and its directory is given back. A device in a
-- directory has power and no faults of its own, so that two replies never come.
pub record Formatted (s : SuperBlock) (force : Bool) (reply : FormatReply) (device : DeviceState) (new : FilesState)
    : Type 0 where
  pub after : DeviceState
  pub done : IsUntried reply device after ⊎ IsFormat s force reply device after
  pub formatted : reply ≡ Ok tt → IsFormatted after.world.truth s
  pub cause : FormatCause reply device after
  pub faultless : reply ≢ Err IoError
  pub powered : reply ≢ Err PowerLost
  pub left : LiesIn after new

-- the directory isn't opened as a device, and the last line tells why
pub record IsShut (status : Status) (old new : FilesState) (before after : SinkState) : Type 0 where
  pub why : OpenError
  pub shut : LeftShut why old new
  pub closed : Closed status (open_status why) (open_line why) before after

-- it is opened as a device, this is formatted, and the last line tells the reply
pub record IsOpened (s : SuperBlock) (force : Bool) (status : Status) (old new : FilesState) (before after : SinkState)
    : Type 0 where
  pub device : DeviceState
  pub middle : FilesState
  pub opened : Opened device old middle
  pub reply : FormatReply
  pub formatted : Formatted s force reply device new
  pub closed : Closed status (format_status reply) (format_line reply) before after

-- one of the two
pub record Formats (s : SuperBlock) (force : Bool) (status : Status) (old new : FilesState) (before after : SinkState)
    : Type 0 where
  pub means : IsShut status old new before after ⊎ IsOpened s force status old new before after

-- ---- causes

-- The contents stood for a device at rest, and stand for one with the same zones that is formatted.
pub record IsFormattedIn (s : SuperBlock) (c : Contents) (new : FilesState) : Type 0 where
  pub t : Truth
  pub rest : at_rest c ≡ Ok t
  pub d : Directory
  pub there : directory new ≡ Some d
  pub u : Truth
  pub stands : StandsFor (contents d) u
  pub geometry : geometry u ≡ geometry t
  pub formatted : IsFormatted u s

-- The device was formatted, and no count rose.
pub record HasFormatted (s : SuperBlock) (old new : FilesState) (before after : SinkState) : Type 0 where
  pub line : Added ok_text before after
  pub kept : new.faults ≡ old.faults
  pub stood : (d : Directory) → directory old ≡ Some d → IsFormattedIn s (contents d) new

-- The directory is no device, for this cause, and its files hold what they held, synced.
pub record IsNoDevice (old new : FilesState) (before after : SinkState) : Type 0 where
  pub cause : Cause
  pub line : Added (error_text (cause_name cause)) before after
  pub first : (d : Directory) → directory old ≡ Some d → at_rest (contents d) ≡ Err cause
  pub same : (d : Directory) → directory old ≡ Some d → directory new ≡ Some (rested (contents d))

-- The contents stood for a device at rest, which a format refuses, and stand for that very device.
pub record IsRefusedIn (force : Bool) (error : FormatError) (c : Contents) (new : FilesState) : Type 0 where
  pub t : Truth
  pub rest : at_rest c ≡ Ok t
  pub refuses : Refuses force error t
  pub d : Directory
  pub there : directory new ≡ Some d
  pub stands : StandsFor (contents d) t

-- The device wasn't formatted, for what its zone 0 is or holds.
pub record IsUnformatted (force : Bool) (old new : FilesState) (before after : SinkState) : Type 0 where
  pub error : FormatError
  pub line : Added (error_text (format_error_name error)) before after
  pub stood : (d : Directory) → directory old ≡ Some d → IsRefusedIn force error (contents d) new

-- the contents stand for a device at rest whose zone 0 is good, and has no super block unless that is forced
pub record IsReady (force : Bool) (c : Contents) : Type 0 where
  pub t : Truth
  pub rest : at_rest c ≡ Ok t
  pub good : IsTrue (is_good (zone_at t 0).cond)
  pub free : IsTrue (force || not (holds_super_block t))

-- When each status comes.
pub record FormatCauses (s : SuperBlock) (force : Bool) (status : Status) (old new : FilesState)
    (before after : SinkState) : Type 0 where
  pub done : status ≡ Done → HasFormatted s old new before after
  pub refused : status ≡ BadDirectory → IsNoDevice old new before after ⊎ IsUnformatted force old new before after
  pub others : EndCauses status old new before after
  -- where no call failed and memory sufficed, a directory is formatted exactly where it is ready for that
  pub exact : (d : Directory) → directory old ≡ Some d → IsQuiet old new before after → status ≢ Memory
      → (status ≡ Done) ↔ IsReady force (contents d)
