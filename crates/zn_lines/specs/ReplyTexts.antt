-- The texts of replies. (own)
use Rattle.std.specs.Prelude.{ℕ, ◌+◌, ◌/◌, ◌%◌, List, [], ◌∷◌, length, if◌then◌else◌, Result, Ok, Err, codes}
use Rattle.std.specs.List.{flat_map, enumerate_from}
use Rattle.std.specs.Fmt.{decimal}
use Rattle.zn_base.specs.Runs.{data_text}
use Rattle.zn_base.specs.Texts.{◌⧺◌}
use Rattle.zn_truth.specs.declared.InjectError.{InjectError}
use Rattle.zn_truth.specs.declared.InjectError.TheVariants.{BadFault, TooManyFaults, PowerLost as inject_power_lost, Broken as inject_broken, Memory as inject_memory}
use Rattle.zn_truth.specs.declared.ZoneInfo.{ZoneInfo}
use Rattle.zn_truth.specs.Truth.{Geometry, room, kind_at}
use Rattle.zn_model.specs.declared.answers.FormatError.{FormatError}
use Rattle.zn_model.specs.declared.answers.FormatError.TheVariants.{AlreadyFormatted, BadZone0, IoError as format_io_error, PowerLost as format_power_lost, Broken as format_broken, Memory as format_memory}
use Rattle.zn_model.specs.declared.answers.MountError.{MountError}
use Rattle.zn_model.specs.declared.answers.MountError.TheVariants.{NotFormatted, IoError as mount_io_error, PowerLost as mount_power_lost, Broken as mount_broken, Memory as mount_memory}
use Rattle.zn_model.specs.declared.answers.OptError.{OptError}
use Rattle.zn_model.specs.declared.answers.OptError.TheVariants.{UnknownOption, Repeated, BadValue}
use Rattle.zn_model.specs.declared.answers.Outcome.{Outcome}
use Rattle.zn_model.specs.declared.answers.Outcome.TheVariants.{Ok as had_done, IoError as had_io_error, TooManyActive as had_too_many_active, TooManyOpen as had_too_many_open}
use Rattle.zn_model.specs.declared.answers.Refusal.{Refusal}
use Rattle.zn_model.specs.declared.answers.Refusal.TheVariants.{NoSuchFile, NotAllowed, Denied, FileOffline, FileReadOnly, FsReadOnly, BadHandle, BadMode, TooManyHandles, TooManyWriters, TooManyActive, TooManyOpen, Unaligned, TooBig, BadOffset, Busy, QueueFull, PoolEmpty, NothingQueued, NothingDone, IoError, PowerLost, Broken, Memory}
use Rattle.zn_model.specs.declared.answers.Why.{Why}
use Rattle.zn_model.specs.declared.answers.Why.TheVariants.{BadMagic, CopiesDiffer, BadVersion, BadField, Zone0NotFull, Zone0Offline}
use Rattle.zn_model.specs.declared.files.Attr.{Attr}
use Rattle.zn_model.specs.declared.files.Place.{Place}
use Rattle.zn_model.specs.declared.files.Stat.{Stat}
use Rattle.zn_model.specs.declared.handles.Done.{Done}
use Rattle.zn_model.specs.ZoneTexts.{cond_name, zone_text}

-- ---- names

-- each refusal of a call in lower case words, joined by hyphens
abbrev pub refusal_name : Refusal → List ℕ
refusal_name NoSuchFile = codes "no-such-file"
refusal_name NotAllowed = codes "not-allowed"
refusal_name Denied = codes "denied"
refusal_name FileOffline = codes "file-offline"
refusal_name FileReadOnly = codes "file-read-only"
refusal_name FsReadOnly = codes "fs-read-only"
refusal_name BadHandle = codes "bad-handle"
refusal_name BadMode = codes "bad-mode"
refusal_name TooManyHandles = codes "too-many-handles"
refusal_name TooManyWriters = codes "too-many-writers"
refusal_name TooManyActive = codes "too-many-active"
refusal_name TooManyOpen = codes "too-many-open"
refusal_name Unaligned = codes "unaligned"
refusal_name TooBig = codes "too-big"
refusal_name BadOffset = codes "bad-offset"
refusal_name Busy = codes "busy"
refusal_name QueueFull = codes "queue-full"
refusal_name PoolEmpty = codes "pool-empty"
refusal_name NothingQueued = codes "nothing-queued"
refusal_name NothingDone = codes "nothing-done"
refusal_name IoError = codes "io-error"
refusal_name PowerLost = codes "power-lost"
-- these two end the run, and are never told as a reply
refusal_name Broken = codes "broken"
refusal_name Memory = codes "memory"

-- why a device isn't formatted, with the byte place or the version that is at fault
abbrev pub why_name : Why → List ℕ
why_name BadMagic = codes "bad-magic"
why_name (CopiesDiffer place) = codes "copies-differ " ⧺ decimal place
why_name (BadVersion version) = codes "bad-version " ⧺ decimal version
why_name (BadField place) = codes "bad-field " ⧺ decimal place
why_name Zone0NotFull = codes "zone0-not-full"
why_name Zone0Offline = codes "zone0-offline"

-- why a mount failed; where the device isn't formatted, the reason is told
abbrev pub mount_error_name : MountError → List ℕ
mount_error_name (NotFormatted why) = codes "not-formatted " ⧺ why_name why
mount_error_name mount_io_error = codes "io-error"
mount_error_name mount_power_lost = codes "power-lost"
mount_error_name mount_broken = codes "broken"
mount_error_name mount_memory = codes "memory"

-- why a format failed; where zone 0 is bad, its condition is told
abbrev pub format_error_name : FormatError → List ℕ
format_error_name AlreadyFormatted = codes "already-formatted"
format_error_name (BadZone0 cond) = codes "bad-zone0 " ⧺ cond_name cond
format_error_name format_io_error = codes "io-error"
format_error_name format_power_lost = codes "power-lost"
format_error_name format_broken = codes "broken"
format_error_name format_memory = codes "memory"

-- what is wrong with an option, and the byte place of the item or of its value
abbrev pub option_error_name : OptError → List ℕ
option_error_name (UnknownOption place) = codes "unknown-option " ⧺ decimal place
option_error_name (Repeated place) = codes "repeated-option " ⧺ decimal place
option_error_name (BadValue place) = codes "bad-value " ⧺ decimal place

-- why a fault, a turn of a zone or a loss of power was refused
abbrev pub inject_error_name : InjectError → List ℕ
inject_error_name BadFault = codes "bad-fault"
inject_error_name TooManyFaults = codes "too-many-faults"
inject_error_name inject_power_lost = codes "power-lost"
inject_error_name inject_broken = codes "broken"
inject_error_name inject_memory = codes "memory"

-- a request ended well, or with one of three failures
abbrev pub outcome_name : Outcome → List ℕ
outcome_name had_done = codes "ok"
outcome_name had_io_error = codes "io-error"
outcome_name had_too_many_active = codes "too-many-active"
outcome_name had_too_many_open = codes "too-many-open"

-- ---- lines

-- `error` and a name, which may have several words, on a line
abbrev pub error_text : List ℕ → List ℕ
error_text name = codes "error " ⧺ name ⧺ codes "\n"

-- the line of a call that has nothing to tell
abbrev pub ok_text : List ℕ
ok_text = codes "ok\n"

-- `ok` and a decimal number, on a line
abbrev pub number_text : ℕ → List ℕ
number_text n = codes "ok " ⧺ decimal n ⧺ codes "\n"

-- a reply, or the refusal's name
abbrev pub reply_text : {X E : Type 0} → (X → List ℕ) → (E → List ℕ) → Result X E → List ℕ
reply_text told name (Ok value) = told value
reply_text told name (Err refusal) = error_text (name refusal)

-- success without a value is told as `ok` alone
abbrev pub plain : Unit {0} → List ℕ
plain unit = ok_text

-- the bytes of a read: how many, and what they are
abbrev pub read_text : List ℕ → List ℕ
read_text [] = codes "ok 0\n"
read_text (b ∷ bytes) = codes "ok " ⧺ decimal (length (b ∷ bytes)) ⧺ codes " " ⧺ data_text (b ∷ bytes) ⧺ codes "\n"

-- a request's ticket, and how it ended
abbrev pub done_text : Done → List ℕ
done_text done = codes "ok " ⧺ decimal done.ticket ⧺ codes " " ⧺ outcome_name done.outcome ⧺ codes "\n"

-- three octal digits
abbrev pub octal_text : ℕ → List ℕ
octal_text mode = (48 + mode / 64 % 8) ∷ (48 + mode / 8 % 8) ∷ (48 + mode % 8) ∷ []

-- a file on one line: its path and zones, size and capacity, permissions and owner, and its writers
abbrev pub file_text : List ℕ → Stat → List ℕ
file_text path stat =
    codes "ok file " ⧺ path ⧺ codes " zone " ⧺ decimal stat.zone ⧺ codes " zones " ⧺ decimal stat.zones ⧺ codes " size " ⧺ decimal stat.size
    ⧺ codes " blocks " ⧺ decimal stat.blocks ⧺ codes " mode " ⧺ octal_text stat.mode ⧺ codes " uid " ⧺ decimal stat.uid
    ⧺ codes " gid " ⧺ decimal stat.gid ⧺ codes " writers " ⧺ decimal stat.writers ⧺ codes "\n"

-- a directory on one line: its path, and how many entries it has
abbrev pub directory_text : List ℕ → Stat → List ℕ
directory_text path stat = codes "ok dir " ⧺ path ⧺ codes " size " ⧺ decimal stat.size ⧺ codes "\n"

-- directories and files have lines of different forms
abbrev pub stat_text : List ℕ → Stat → List ℕ
stat_text path stat = if stat.dir then directory_text path stat else file_text path stat

-- a name alone on its line
abbrev pub name_line : List ℕ → List ℕ
name_line name = name ⧺ codes "\n"

-- how many names, and each on a line
abbrev pub list_text : List (List ℕ) → List ℕ
list_text names = number_text (length names) ⧺ flat_map name_line names

-- each limit before its count, all on one line: files open for writing, then active ones
abbrev pub attr_text : Attr → List ℕ
attr_text attr =
    codes "ok max_wro_seq_files=" ⧺ decimal attr.max_wro ⧺ codes " nr_wro_seq_files=" ⧺ decimal attr.nr_wro
    ⧺ codes " max_active_seq_files=" ⧺ decimal attr.max_active ⧺ codes " nr_active_seq_files=" ⧺ decimal attr.nr_active ⧺ codes "\n"

-- ---- zones

-- a zone of a report, with its number
abbrev pub zone_line : Geometry → (ℕ → Place) → ℕ × ZoneInfo → List ℕ
zone_line g place_of entry =
    zone_text entry.0 (kind_at g entry.0) entry.1 (room g.shape (kind_at g entry.0)) (place_of entry.0)

-- how many zones, and each on a line
abbrev pub zones_text : Geometry → (ℕ → Place) → List ZoneInfo → List ℕ
zones_text g place_of infos = number_text (length infos) ⧺ flat_map (zone_line g place_of) (enumerate_from 0 infos)
