-- The last line of a command on a directory, and its status. (own)
use Rattle.std.specs.Prelude.{ℕ, List, [], Option, Some, None, Result, Ok, Err, codes}
use Rattle.std.specs.Fmt.{decimal}
use Rattle.zn_base.specs.Texts.{◌⧺◌}
use Rattle.zn_model.specs.declared.answers.FormatError.{FormatError}
use Rattle.zn_model.specs.declared.answers.FormatError.TheVariants.{Broken, Memory as format_memory}
use Rattle.zn_lines.specs.ReplyTexts.{error_text, ok_text, format_error_name}
use Rattle.zn_run.specs.Endings.{out_of_memory, host_fault}
use Rattle.zn_run.specs.declared.status.Status.{Status}
use Rattle.zn_run.specs.declared.status.Status.TheVariants.{Done, Usage, Directory, HostFault, Memory}
use Rattle.zn_stand.specs.Maps.{Name}
use Rattle.zn_stand.specs.ZoneNames.{zone_name}
use Rattle.zn_stand.specs.AtRest.{Cause, NotADevice, BadGeometry, MissingFile, BadZoneFile, ExtraName, TooManyActive}
use Rattle.zn_backing.specs.declared.error.OpenError.{OpenError}
use Rattle.zn_backing.specs.declared.error.OpenError.TheVariants.{Memory as open_memory}
use Rattle.zn_backing.specs.declared.error.CreateError.{CreateError}
use Rattle.zn_backing.specs.declared.error.CreateError.TheVariants.{BadGeometry as over_limit, Exists}
use Rattle.zn_backing.specs.declared.error.CreateError.TheVariants.{Fault as create_fault, Memory as create_memory}
use Rattle.zn_backing.specs.Failures.{cause_of}

-- ---- a directory that isn't opened

-- why a directory is no device, in lower case words, with the line, the file, its length or the count that is told
abbrev pub cause_name : Cause → List ℕ
cause_name NotADevice = codes "not-a-device"
cause_name (BadGeometry line) = codes "bad-geometry " ⧺ decimal line
cause_name (MissingFile kind z) = codes "missing-file " ⧺ zone_name kind z
cause_name (BadZoneFile kind z len) = codes "bad-zone-file " ⧺ zone_name kind z ⧺ codes " " ⧺ decimal len
cause_name (ExtraName name) = codes "extra-name " ⧺ name
cause_name (TooManyActive count) = codes "too-many-active " ⧺ decimal count

-- the status by the cause that lies in the directory, if one does; else memory was wanting, or a call on a file failed
abbrev pub shut_status : Option Cause → OpenError → Status
shut_status (Some cause) why = Directory
shut_status None open_memory = Memory
shut_status None why = HostFault

-- the line, in the same way
abbrev pub shut_line : Option Cause → OpenError → List ℕ
shut_line (Some cause) why = error_text (cause_name cause)
shut_line None open_memory = out_of_memory
shut_line None why = host_fault 0

-- the status of a command whose directory isn't opened as a device
abbrev pub open_status : OpenError → Status
open_status why = shut_status (cause_of why) why

-- its last line
abbrev pub open_line : OpenError → List ℕ
open_line why = shut_line (cause_of why) why

-- ---- a new device

-- the line of a directory that holds this name, and should be empty
abbrev pub not_empty : Name → List ℕ
not_empty name = error_text (codes "not-empty " ⧺ name)

-- The status of `add`. A limit that is broken is a bad command line, and is told before a directory is looked at.
abbrev pub add_status : Result (Unit {0}) CreateError → Status
add_status (Ok unit) = Done
add_status (Err over_limit) = Usage
add_status (Err (Exists name)) = Directory
add_status (Err create_fault) = HostFault
add_status (Err create_memory) = Memory

-- its last line
abbrev pub add_line : Result (Unit {0}) CreateError → List ℕ
add_line (Ok unit) = ok_text
add_line (Err over_limit) = []
add_line (Err (Exists name)) = not_empty name
add_line (Err create_fault) = host_fault 0
add_line (Err create_memory) = out_of_memory

-- ---- a format

-- the status of `mkfs`, once the directory is opened as a device
abbrev pub format_status : Result (Unit {0}) FormatError → Status
format_status (Ok unit) = Done
format_status (Err Broken) = HostFault
format_status (Err format_memory) = Memory
format_status (Err error) = Directory

-- its last line
abbrev pub format_line : Result (Unit {0}) FormatError → List ℕ
format_line (Ok unit) = ok_text
format_line (Err Broken) = host_fault 0
format_line (Err format_memory) = out_of_memory
format_line (Err error) = error_text (format_error_name error)
