-- What one line of a script does to a session: its reply, and the table after it. (own)
use Rattle.std.specs.Prelude.{ℕ, Bool, true, false, List, [], if◌then◌else◌, Option, Some, None, is_some, Result, Ok, Err, codes}
use Rattle.std.specs.Result.{result_ok}
use Rattle.zn_truth.specs.Orders.{Reply}
use Rattle.zn_truth.specs.World.{World, issue, geometry_of}
use Rattle.zn_truth.specs.Inject.{Injected, inject, turn, lose_power, arm_loss, power_on}
use Rattle.uuid.specs.Parts.{with_variant, with_version}
use Rattle.uuid.specs.Text.{parsed}
use Rattle.uuid.specs.declared.Variant.TheVariants.{RFC4122}
use Rattle.uuid.specs.declared.Version.TheVariants.{Random}
use Rattle.zn_model.specs.declared.answers.OptError.{OptError}
use Rattle.zn_model.specs.declared.answers.Refusal.{Refusal}
use Rattle.zn_model.specs.declared.answers.Refusal.TheVariants.{Busy}
use Rattle.zn_model.specs.declared.files.FormatOpts.{FormatOpts}
use Rattle.zn_model.specs.declared.files.MountOpts.{MountOpts}
use Rattle.zn_model.specs.declared.files.Place.{Place}
use Rattle.zn_model.specs.declared.files.Place.TheVariants.{Unplaced}
use Rattle.zn_model.specs.declared.handles.Handle.{Handle}
use Rattle.zn_model.specs.declared.handles.Mode.{Mode}
use Rattle.zn_model.specs.declared.handles.Who.{Who}
use Rattle.zn_model.specs.SuperBlock.{is_label}
use Rattle.zn_model.specs.ZoneFiles.{listing_of}
use Rattle.zn_model.specs.Volume.{Volume, Mounted}
use Rattle.zn_model.specs.CallAnswers.{Answer}
use Rattle.zn_model.specs.Recovery.{refusal_of}
use Rattle.zn_model.specs.Writing.{write_call}
use Rattle.zn_model.specs.Reading.{read_call, size_call}
use Rattle.zn_model.specs.Truncating.{truncate_call, sync_call}
use Rattle.zn_model.specs.Requests.{submit_call, complete_call, reap_call}
use Rattle.zn_model.specs.OpenClose.{open_call, close_call}
use Rattle.zn_model.specs.Looks.{stat_call, entries_call, attr_call, change_refusal, all_infos, report_all, place_in}
use Rattle.zn_model.specs.Mounting.{MountAnswer, mount_call, unmount_refusal}
use Rattle.zn_model.specs.Formatting.{FormatAnswer, super_block_by, format_call}
use Rattle.zn_model.specs.Options.{mount_options, format_options}
use Rattle.zn_lines.specs.Table.{Table, no_numbers, with_mounted, handle_of, with_number, without_number}
use Rattle.zn_lines.specs.Lines.{FormatWords, Line, Mkfs, Mount, Umount, OpenFile, CloseFile, SizeOf, ReadFrom, WriteTo, TruncateTo, SyncFile, SubmitTo, Complete, Reap, StatOf, ListOf, Attributes, Changes, Zones, FaultOn, TurnTo, PowerLoss, PowerLossIn, PowerOn, bytes_of}
use Rattle.zn_lines.specs.ReplyTexts.{refusal_name, mount_error_name, format_error_name, option_error_name, inject_error_name, error_text, ok_text, number_text, reply_text, plain, read_text, done_text, stat_text, list_text, attr_text, zones_text}

-- a line's reply, and the table after it
pub record Stepped : Type 0 where
  pub text : List ℕ
  pub table : Table

-- a reply of this text, with this table after it
abbrev pub says : List ℕ → Table → Stepped
says text table = record { text = text; table = table }

-- a reply of `error` and a name, with this table after it
abbrev pub says_error : List ℕ → Table → Stepped
says_error name table = says (error_text name) table

-- ---- lines on the volume

-- a line on a volume is refused where none is mounted
abbrev pub on_volume : Option Volume → Table → (Mounted → Stepped) → Stepped
on_volume None table step = says_error (codes "not-mounted") table
on_volume (Some v) table step = step (record { world = table.world; volume = v })

-- a step that needs a mounted volume, which is the session's
abbrev pub mounted_then : Table → (Mounted → Stepped) → Stepped
mounted_then table step = on_volume table.volume table step

-- a line on a handle is refused where its number has none
abbrev pub on_handle : Option Handle → Table → (Handle → Stepped) → Stepped
on_handle None table step = says_error (codes "bad-handle") table
on_handle (Some h) table step = step h

-- a step that needs a mounted volume first, and then a handle for its number
abbrev pub handle_then : Table → ℕ → (Mounted → Handle → Stepped) → Stepped
handle_then table n step = mounted_then table (λ m. on_handle (handle_of table n) table (step m))

-- the answer of a call on the volume, as a text
abbrev pub tells : {X : Type 0} → (X → List ℕ) → Table → Answer X → Stepped
tells told table answer = says (reply_text told refusal_name answer.reply) (with_mounted table answer.mounted)

-- a handle that was opened gets the number; a refusal is told, and no number changes
abbrev pub opens : Answer Handle → Result Handle Refusal → Table → ℕ → Stepped
opens answer (Ok h) table n = says ok_text (with_number (with_mounted table answer.mounted) n h)
opens answer (Err refusal) table n = says_error (refusal_name refusal) (with_mounted table answer.mounted)

-- An open: its number must be free, before the volume's checks. The model's handles all have the key 0, since
-- no call depends on keys.
abbrev pub open_line : Table → ℕ → List ℕ → Mode → Who → Mounted → Stepped
open_line table n path mode who m =
    if is_some (handle_of table n) then says_error (codes "handle-in-use") table
    else opens (open_call m 0 path mode who) (open_call m 0 path mode who).reply table n

-- of all refusals, only this one lets a number keep its handle after a close
abbrev pub is_busy : Refusal → Bool
is_busy Busy = true
is_busy _ = false

-- after a close the number has no handle, unless the file is busy
abbrev pub freed_by : Result (Unit {0}) Refusal → Table → ℕ → Table
freed_by (Ok unit) table n = without_number table n
freed_by (Err refusal) table n = if is_busy refusal then table else without_number table n

-- the handle is closed, and the reply of that decides whether its number becomes free
abbrev pub close_line : Table → ℕ → Mounted → Handle → Stepped
close_line table n m h =
    let answer = close_call m h in
    says (reply_text plain refusal_name answer.reply) (freed_by answer.reply (with_mounted table answer.mounted) n)

-- a refusal is told and changes nothing; else the volume is dropped and every number becomes free
abbrev pub unmounts : Option Refusal → Table → Stepped
unmounts (Some refusal) table = says_error (refusal_name refusal) table
unmounts None table = says ok_text (record table { volume = None; numbers = no_numbers })

-- the names that a listing has, and none where there is no directory
abbrev pub names_in : Option (List (List ℕ)) → List (List ℕ)
names_in None = []
names_in (Some names) = names

-- the names in a directory; what refuses to count them is told instead
abbrev pub list_line : Table → List ℕ → Mounted → Stepped
list_line table path m = tells (λ n. list_text (names_in (listing_of m.volume.inodes.layout path))) table (entries_call m path)

-- ---- mkfs

-- no label means the empty one, and a given one must be one
abbrev pub label_in : Option (List ℕ) → Option (List ℕ)
label_in None = Some []
label_in (Some text) = if is_label text then Some text else None

-- the identifier of version 4 that sixteen bytes make
abbrev pub uuid_from : List ℕ → List ℕ
uuid_from entropy = with_version (with_variant entropy RFC4122) Random

-- a given identifier must be readable; where none is given, the sixteen bytes make one
abbrev pub uuid_in : Option (List ℕ) → List ℕ → Option (List ℕ)
uuid_in None entropy = Some (uuid_from entropy)
uuid_in (Some text) entropy = parsed text

-- the features that a text asks for; no text is as an empty one
abbrev pub features_in : Option (List ℕ) → Result FormatOpts OptError
features_in None = format_options []
features_in (Some text) = format_options text

-- the reply of a format, and the device as that left it
abbrev pub formats : FormatAnswer → Table → Stepped
formats answer table = says (reply_text plain format_error_name answer.reply) (record table { world = answer.world })

-- the label, then the identifier, then the features are read, before any command
abbrev pub format_with : List ℕ → Option (List ℕ) → Option (List ℕ) → Result FormatOpts OptError → Bool → Table → Stepped
format_with given None uuid opts force table = says_error (codes "bad-label") table
format_with given (Some label) None opts force table = says_error (codes "bad-uuid") table
format_with given (Some label) (Some uuid) (Err error) force table = says_error (option_error_name error) table
format_with given (Some label) (Some uuid) (Ok opts) force table = formats (format_call given table.world (super_block_by label uuid opts) force) table

-- where something is mounted, nothing is formatted or mounted
abbrev pub unless_mounted : Option Volume → Table → Stepped → Stepped
unless_mounted (Some v) table step = says_error (codes "already-mounted") table
unless_mounted None table step = step

-- a format from the words of a line, refused where something is mounted
abbrev pub mkfs_line : List ℕ → Table → FormatWords → Stepped
mkfs_line given table words =
    unless_mounted table.volume table (format_with given (label_in words.label) (uuid_in words.uuid table.entropy) (features_in words.features) words.force table)

-- ---- mount

-- the mount options that a text asks for; no text is as an empty one
abbrev pub options_in : Option (List ℕ) → Result MountOpts OptError
options_in None = mount_options []
options_in (Some text) = mount_options text

-- a mount that succeeds is told as `ok`, and leaves its volume; one that fails leaves none
abbrev pub mounts : MountAnswer → Table → Stepped
mounts answer table = says (reply_text (λ volume. ok_text) mount_error_name answer.reply)
    (record table { world = answer.world; volume = result_ok answer.reply })

-- the options are read before any command
abbrev pub mount_with : List ℕ → Result MountOpts OptError → Table → Stepped
mount_with given (Err error) table = says_error (option_error_name error) table
mount_with given (Ok opts) table = mounts (mount_call given table.world opts) table

-- a mount with the options of a line, refused where something is mounted
abbrev pub mount_line : List ℕ → Table → Option (List ℕ) → Stepped
mount_line given table text = unless_mounted table.volume table (mount_with given (options_in text) table)

-- ---- lines on the device

-- where the volume shows a zone; nowhere while none is mounted
abbrev pub place_by : Option Volume → ℕ → Place
place_by None z = Unplaced
place_by (Some v) z = place_in v z

-- a report that succeeds is told zone by zone, and one that fails as a call would tell it
abbrev pub zones_told : Reply → World → Option Volume → List ℕ
zones_told (Ok unit) w volume = zones_text (geometry_of w) (place_by volume) (all_infos w.truth)
zones_told (Err error) w volume = error_text (refusal_name (refusal_of error))

-- one report of all zones
abbrev pub zones_line : Table → Stepped
zones_line table =
    let reported = issue table.world (report_all table.world.truth) in
    says (zones_told reported.reply table.world table.volume) (record table { world = reported.world })

-- the reply of what was done to the device, and the device as that left it
abbrev pub injects : Table → Injected → Stepped
injects table injected = says (reply_text plain inject_error_name injected.reply) (record table { world = injected.world })

-- ---- all lines

-- A line's reply and the table after it, but that lost power has not yet dropped the volume. `given` is what a read
-- of the line gave, and counts only where the device doesn't tell its bytes.
unfoldable pub line_now : List ℕ → Table → Line → Stepped
line_now given table (Mkfs words) = mkfs_line given table words
line_now given table (Mount text) = mount_line given table text
line_now given table Umount = mounted_then table (λ m. unmounts (unmount_refusal m) table)
line_now given table (OpenFile n path mode who) = mounted_then table (open_line table n path mode who)
line_now given table (CloseFile n) = handle_then table n (close_line table n)
line_now given table (SizeOf n) = handle_then table n (λ m h. tells number_text table (size_call m h))
line_now given table (ReadFrom n offset len) = handle_then table n (λ m h. tells read_text table (read_call given m h offset len))
line_now given table (WriteTo n offset runs) = handle_then table n (λ m h. tells plain table (write_call m h offset (bytes_of runs)))
line_now given table (TruncateTo n size) = handle_then table n (λ m h. tells plain table (truncate_call m h size))
line_now given table (SyncFile n) = handle_then table n (λ m h. tells plain table (sync_call m h))
line_now given table (SubmitTo n offset runs) = handle_then table n (λ m h. tells number_text table (submit_call m h offset (bytes_of runs)))
line_now given table Complete = mounted_then table (λ m. tells number_text table (complete_call m))
line_now given table Reap = mounted_then table (λ m. tells done_text table (reap_call m))
line_now given table (StatOf path) = mounted_then table (λ m. tells (stat_text path) table (stat_call m path))
line_now given table (ListOf path) = mounted_then table (list_line table path)
line_now given table Attributes = mounted_then table (λ m. tells attr_text table (attr_call m))
line_now given table (Changes change) = mounted_then table (λ m. says_error (refusal_name change_refusal) table)
line_now given table Zones = zones_line table
line_now given table (FaultOn z command keep) = injects table (inject table.world (record { zone = record { 0 = z }; command = command; keep = keep }))
line_now given table (TurnTo z to) = injects table (turn table.world z to)
line_now given table (PowerLoss fill cuts) = injects table (lose_power table.world (record { cuts = cuts; fill = fill }))
line_now given table (PowerLossIn z command carried_out fill cuts) =
    injects table (arm_loss table.world (record { zone = record { 0 = z }; command = command; carried_out = carried_out; loss = record { cuts = cuts; fill = fill } }))
line_now given table PowerOn = says ok_text (record table { world = power_on table.world })

-- without power the volume is gone, and all numbers are free
abbrev pub dropped_unless : Bool → Table → Table
dropped_unless true table = table
dropped_unless false table = record table { volume = None; numbers = no_numbers }

-- A line, and what its end does.
unfoldable pub line_step : List ℕ → Table → Line → Stepped
line_step given table line =
    let after = line_now given table line in
    says after.text (dropped_unless after.table.world.powered after.table)
