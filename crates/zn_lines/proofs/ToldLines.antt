-- Over a device that tells its bytes nothing that was given counts, and it goes on telling them.
use Rattle.std.proofs.Common.{◌≡◌, ℕ, ◌+◌, Bool, true, false, List, [], ◌∷◌, length, Option, Some, None, Result, Ok, Err, refl, ap, ◌∙◌, nat_lt}
use Rattle.std.specs.Prelude.{codes, if◌then◌else◌, is_some, is_ok, not, ◌&&◌}
use Rattle.zn_truth.specs.declared.Cond.{Cond}
use Rattle.zn_truth.specs.declared.Cond.TheVariants.{Good, ReadOnly, Offline}
use Rattle.zn_truth.specs.World.{World, Outcome, issue}
use Rattle.zn_truth.specs.Orders.{Reply, ReadAt}
use Rattle.zn_truth.specs.Truth.{Truth, zone_at}
use Rattle.zn_truth.specs.OrderLists.{issue_all}
use Rattle.zn_truth.specs.Inject.{power_on}
use Rattle.zn_truth.proofs.Telling.{issue_told, inject_told, turn_told, lose_power_told, arm_loss_told}
use Rattle.zn_model.specs.declared.answers.Refusal.{Refusal}
use Rattle.zn_model.specs.declared.answers.OptError.{OptError}
use Rattle.zn_model.specs.declared.handles.Handle.{Handle}
use Rattle.zn_model.specs.declared.files.FormatOpts.{FormatOpts}
use Rattle.zn_model.specs.declared.files.MountOpts.{MountOpts}
use Rattle.zn_lines.specs.declared.limits.TheConstants.{LINE_LIMIT}
use Rattle.zn_lines.specs.declared.runs.Tail.{Tail}
use Rattle.zn_lines.specs.declared.runs.Tail.TheVariants.{End, Fault, Over, More}
use Rattle.zn_lines.specs.declared.runs.Ending.TheVariants.{Finished, LineTooLong}
use Rattle.zn_model.specs.CallAnswers.{Answer, as_refused, unless, with_power}
use Rattle.zn_model.specs.Formatting.{FormatAnswer, may_hold_copies, format_refused, format_writes, format_read, format_by, format_reported, format_call}
use Rattle.zn_model.specs.Given.{told_or, copies_in}
use Rattle.zn_lines.specs.Grammar.{reading_of}
use Rattle.zn_lines.specs.Lines.{Line, Mkfs, Mount, Umount, OpenFile, CloseFile, SizeOf, ReadFrom, WriteTo, TruncateTo, SyncFile, SubmitTo, Complete, Reap, StatOf, ListOf, Attributes, Changes, Zones, FaultOn, TurnTo, PowerLoss, PowerLossIn, PowerOn, bytes_of}
use Rattle.zn_model.specs.Looks.{report_all}
use Rattle.zn_model.specs.Mounting.{MountAnswer, is_zone0_unfull, super_block_of, not_formatted, mount_decoded, mount_read, mount_reported, mount_call, unmount_refusal}
use Rattle.zn_model.specs.OpenClose.{open_call, close_call}
use Rattle.zn_model.specs.Reading.{read_end, read_orders, read_bytes, after_read, read_now, read_by, read_call, reading_refusal}
use Rattle.zn_model.specs.declared.answers.FormatError.TheVariants.{AlreadyFormatted}
use Rattle.zn_model.specs.declared.answers.Why.TheVariants.{Zone0NotFull}
use Rattle.zn_model.specs.SuperBlock.{SuperBlock}
use Rattle.zn_lines.specs.ReplyTexts.{read_text}
use Rattle.zn_lines.specs.Table.{Table, handle_of, with_mounted, without_number}
use Rattle.zn_model.specs.Formatting.{super_block_by}
use Rattle.zn_lines.specs.Session.{Stepped, line_now, line_step, says, says_error, on_volume, on_handle, handle_then, opens, open_line, close_line, freed_by, is_busy, unmounts, unless_mounted, format_with, label_in, uuid_in, features_in, mount_with, mounts, options_in, formats, tells, dropped_unless}
use Rattle.zn_model.specs.Volume.{Live, Volume, Mounted, file_at, shown_at, live_at}
use Rattle.zn_lines.specs.Transcript.{Transcript, stop, with_text, first_given, more_given, line_then, last_piece, transcript_from, pieces, transcript_at}
use Rattle.zn_model.proofs.KeysKeptQueue.{complete_keeps, reap_keeps}
use Rattle.zn_model.proofs.KeysKeptCalls.{size_keeps, read_keeps, write_keeps, truncate_keeps, sync_keeps, stat_keeps, entries_keeps, attr_keeps}
use Rattle.zn_model.proofs.ToldCalls.{open_told, close_told, submit_told, mount_told, format_told}

-- the table after this is one of a device that tells its bytes exactly where the other does
abbrev Still : Table → Stepped → Type 0
Still table s = s.table.world.truth.told ≡ table.world.truth.told

-- ---- the device goes on telling

on_volume_still : (volume : Option Volume) (table : Table) (step : Mounted → Stepped) → ((v : Volume) → Still table (step (record { world = table.world; volume = v }))) → Still table (on_volume volume table step)
on_volume_still None table step each = refl
on_volume_still (Some v) table step each = each v

on_handle_still : (found : Option Handle) (table : Table) (step : Handle → Stepped) → ((h : Handle) → Still table (step h)) → Still table (on_handle found table step)
on_handle_still None table step each = refl
on_handle_still (Some h) table step each = each h

handle_then_still : (table : Table) (n : ℕ) (step : Mounted → Handle → Stepped) → ((v : Volume) (h : Handle) → Still table (step (record { world = table.world; volume = v }) h)) → Still table (handle_then table n step)
handle_then_still table n step each =
    on_volume_still table.volume table (λ m. on_handle (handle_of table n) table (step m)) (λ v. on_handle_still (handle_of table n) table (step (record { world = table.world; volume = v })) (λ h. each v h))

opens_still : (answer : Answer Handle) (reply : Result Handle Refusal) (table : Table) (n : ℕ) → answer.mounted.world.truth.told ≡ table.world.truth.told → Still table (opens answer reply table n)
opens_still answer (Ok h) table n same = same
opens_still answer (Err refusal) table n same = same

chosen_still : (table : Table) (b : Bool) (one other : Stepped) → Still table one → Still table other → Still table (if b then one else other)
chosen_still table true one other holds holds' = holds
chosen_still table false one other holds holds' = holds'

freed_chosen : (busy : Bool) (table : Table) (n : ℕ) → (if busy then table else without_number table n).world.truth.told ≡ table.world.truth.told
freed_chosen true table n = refl
freed_chosen false table n = refl

freed_still : (reply : Result (Unit {0}) Refusal) (table : Table) (n : ℕ) → (freed_by reply table n).world.truth.told ≡ table.world.truth.told
freed_still (Ok unit) table n = refl
freed_still (Err refusal) table n = freed_chosen (is_busy refusal) table n

unmounts_still : (refusal : Option Refusal) (table : Table) → Still table (unmounts refusal table)
unmounts_still (Some refusal) table = refl
unmounts_still None table = refl

unless_still : (volume : Option Volume) (table : Table) (step : Stepped) → Still table step → Still table (unless_mounted volume table step)
unless_still (Some v) table step still = refl
unless_still None table step still = still

format_still : (given : List ℕ) (label uuid : Option (List ℕ)) (opts : Result FormatOpts OptError) (force : Bool) (table : Table) → Still table (format_with given label uuid opts force table)
format_still given None uuid opts force table = refl
format_still given (Some label) None opts force table = refl
format_still given (Some label) (Some uuid) (Err error) force table = refl
format_still given (Some label) (Some uuid) (Ok opts) force table = format_told given table.world (super_block_by label uuid opts) force

mount_still : (given : List ℕ) (opts : Result MountOpts OptError) (table : Table) → Still table (mount_with given opts table)
mount_still given (Err error) table = refl
mount_still given (Ok opts) table = mount_told given table.world opts

now_still : (given : List ℕ) (table : Table) (line : Line) → Still table (line_now given table line)
unfolding line_now power_on
now_still given table (Mkfs words) = unless_still table.volume table _ (format_still given (label_in words.label) (uuid_in words.uuid table.entropy) (features_in words.features) words.force table)
now_still given table (Mount text) = unless_still table.volume table _ (mount_still given (options_in text) table)
now_still given table Umount = on_volume_still table.volume table (λ m. unmounts (unmount_refusal m) table) (λ v. unmounts_still (unmount_refusal (record { world = table.world; volume = v })) table)
now_still given table (OpenFile n path mode who) = on_volume_still table.volume table (open_line table n path mode who)
    (λ v. let m : Mounted = record { world = table.world; volume = v } in
    chosen_still table (is_some (handle_of table n)) (says_error (codes "handle-in-use") table) (opens (open_call m 0 path mode who) (open_call m 0 path mode who).reply table n) refl
    (opens_still (open_call m 0 path mode who) (open_call m 0 path mode who).reply table n (open_told m 0 path mode who)))
now_still given table (CloseFile n) = handle_then_still table n (close_line table n)
    (λ v h. let m : Mounted = record { world = table.world; volume = v } in freed_still (close_call m h).reply (with_mounted table (close_call m h).mounted) n ∙ close_told m h)
now_still given table (SizeOf n) = handle_then_still table n _ (λ v h. (size_keeps (record { world = table.world; volume = v }) h).told)
now_still given table (ReadFrom n offset len) = handle_then_still table n _ (λ v h. (read_keeps given (record { world = table.world; volume = v }) h offset len).told)
now_still given table (WriteTo n offset runs) = handle_then_still table n _ (λ v h. (write_keeps (record { world = table.world; volume = v }) h offset (bytes_of runs)).told)
now_still given table (TruncateTo n size) = handle_then_still table n _ (λ v h. (truncate_keeps (record { world = table.world; volume = v }) h size).told)
now_still given table (SyncFile n) = handle_then_still table n _ (λ v h. (sync_keeps (record { world = table.world; volume = v }) h).told)
now_still given table (SubmitTo n offset runs) = handle_then_still table n _ (λ v h. submit_told (record { world = table.world; volume = v }) h offset (bytes_of runs))
now_still given table Complete = on_volume_still table.volume table _ (λ v. (complete_keeps (record { world = table.world; volume = v })).told)
now_still given table Reap = on_volume_still table.volume table _ (λ v. (reap_keeps (record { world = table.world; volume = v })).told)
now_still given table (StatOf path) = on_volume_still table.volume table _ (λ v. (stat_keeps (record { world = table.world; volume = v }) path).told)
now_still given table (ListOf path) = on_volume_still table.volume table _ (λ v. (entries_keeps (record { world = table.world; volume = v }) path).told)
now_still given table Attributes = on_volume_still table.volume table _ (λ v. (attr_keeps (record { world = table.world; volume = v })).told)
now_still given table (Changes change) = on_volume_still table.volume table _ (λ v. refl)
now_still given table Zones = issue_told table.world (report_all table.world.truth)
now_still given table (FaultOn z command keep) = inject_told table.world (record { zone = record { 0 = z }; command = command; keep = keep })
now_still given table (TurnTo z to) = turn_told table.world z to
now_still given table (PowerLoss fill cuts) = lose_power_told table.world (record { cuts = cuts; fill = fill })
now_still given table (PowerLossIn z command carried_out fill cuts) = arm_loss_told table.world (record { zone = record { 0 = z }; command = command; carried_out = carried_out; loss = record { cuts = cuts; fill = fill } })
now_still given table PowerOn = refl

dropped_still : (powered : Bool) (table : Table) → (dropped_unless powered table).world.truth.told ≡ table.world.truth.told
dropped_still true table = refl
dropped_still false table = refl

pub line_still : (given : List ℕ) (table : Table) (line : Line) → Still table (line_step given table line)
unfolding line_step
line_still given table line = let after = line_now given table line in dropped_still after.table.world.powered after.table ∙ now_still given table line

-- ---- nothing that was given counts

told_same : (t : Truth) (n : ℕ) (held given : List ℕ) → t.told ≡ true → told_or t n held given ≡ told_or t n held []
told_same t n held given told = rw told refl

read_now_same : (given : List ℕ) (m : Mounted) (f offset len : ℕ) → m.world.truth.told ≡ true → read_now given m f offset len ≡ read_now [] m f offset len
unfolding read_now
read_now_same given m f offset len told =
    let file = file_at m.volume.inodes f in
    let shape = m.volume.inodes.shape in
    let end = read_end (shown_at m.volume.inodes f) offset len in
    let orders = issue_all m.world (read_orders shape file offset end) in
    ap (after_read orders.reply (record m { world = orders.world }) f) (told_same m.world.truth _ (read_bytes m.world.truth shape file offset end) given told)

read_by_same : (given : List ℕ) (found : Option Live) (m : Mounted) (offset len : ℕ) → m.world.truth.told ≡ true → read_by given found m offset len ≡ read_by [] found m offset len
read_by_same given None m offset len told = refl
read_by_same given (Some live) m offset len told = ap (unless (as_refused (reading_refusal m.volume live offset)) m) (read_now_same given m live.file offset len told)

read_same : (given : List ℕ) (m : Mounted) (h : Handle) (offset len : ℕ) → m.world.truth.told ≡ true → read_call given m h offset len ≡ read_call [] m h offset len
unfolding read_call
read_same given m h offset len told = ap (with_power m) (read_by_same given (live_at m.volume.handles h) m offset len told)

copies_same : (t : Truth) (given : List ℕ) → t.told ≡ true → copies_in t given ≡ copies_in t []
copies_same t given told = told_same t 8192 _ given told

mount_read_same : (given : List ℕ) (copies : Outcome) (reply : Reply) (t : Truth) (opts : MountOpts) → t.told ≡ true → mount_read given copies reply t opts ≡ mount_read [] copies reply t opts
mount_read_same given copies (Ok unit) t opts told = ap (λ (bytes : List ℕ). mount_decoded (super_block_of bytes) copies.world t opts) (copies_same t given told)
mount_read_same given copies (Err error) t opts told = refl

mount_reported_same : (given : List ℕ) (reported : Outcome) (reply : Reply) (t : Truth) (opts : MountOpts) → t.told ≡ true → mount_reported given reported reply t opts ≡ mount_reported [] reported reply t opts
mount_reported_same given reported (Err error) t opts told = refl
mount_reported_same given reported (Ok unit) t opts told =
    let copies = issue reported.world (ReadAt 0 0 2) in
    ap (λ (answer : MountAnswer). if is_zone0_unfull t then not_formatted Zone0NotFull reported.world else answer) (mount_read_same given copies copies.reply t opts told)

mount_same : (given : List ℕ) (w : World) (opts : MountOpts) → w.truth.told ≡ true → mount_call given w opts ≡ mount_call [] w opts
unfolding mount_call
mount_same given w opts told = let reported = issue w (report_all w.truth) in mount_reported_same given reported reported.reply w.truth opts told

format_read_same : (given : List ℕ) (found : Outcome) (reply : Reply) (t : Truth) (s : SuperBlock) (force : Bool) → t.told ≡ true → format_read given found reply t s force ≡ format_read [] found reply t s force
format_read_same given found (Err error) t s force told = refl
format_read_same given found (Ok unit) t s force told =
    ap (λ (bytes : List ℕ). if is_ok (super_block_of bytes) && not force then format_refused AlreadyFormatted found.world else format_writes found.world t s) (copies_same t given told)

format_by_same : (given : List ℕ) (cond : Cond) (w : World) (t : Truth) (s : SuperBlock) (force : Bool) → t.told ≡ true → format_by given cond w t s force ≡ format_by [] cond w t s force
format_by_same given Good w t s force told =
    let found = issue w (ReadAt 0 0 2) in
    ap (λ (answer : FormatAnswer). if may_hold_copies t then answer else format_writes w t s) (format_read_same given found found.reply t s force told)
format_by_same given ReadOnly w t s force told = refl
format_by_same given Offline w t s force told = refl

format_reported_same : (given : List ℕ) (reported : Outcome) (reply : Reply) (t : Truth) (s : SuperBlock) (force : Bool) → t.told ≡ true → format_reported given reported reply t s force ≡ format_reported [] reported reply t s force
format_reported_same given reported (Err error) t s force told = refl
format_reported_same given reported (Ok unit) t s force told = format_by_same given (zone_at t 0).cond reported.world t s force told

format_same : (given : List ℕ) (w : World) (s : SuperBlock) (force : Bool) → w.truth.told ≡ true → format_call given w s force ≡ format_call [] w s force
unfolding format_call
format_same given w s force told = let reported = issue w (report_all w.truth) in format_reported_same given reported reported.reply w.truth s force told

format_with_same : (given : List ℕ) (label uuid : Option (List ℕ)) (opts : Result FormatOpts OptError) (force : Bool) (table : Table) → table.world.truth.told ≡ true
    → format_with given label uuid opts force table ≡ format_with [] label uuid opts force table
format_with_same given None uuid opts force table told = refl
format_with_same given (Some label) None opts force table told = refl
format_with_same given (Some label) (Some uuid) (Err error) force table told = refl
format_with_same given (Some label) (Some uuid) (Ok opts) force table told =
    ap (λ (answer : FormatAnswer). formats answer table) (format_same given table.world (super_block_by label uuid opts) force told)

mount_with_same : (given : List ℕ) (opts : Result MountOpts OptError) (table : Table) → table.world.truth.told ≡ true → mount_with given opts table ≡ mount_with [] opts table
mount_with_same given (Err error) table told = refl
mount_with_same given (Ok opts) table told = ap (λ (answer : MountAnswer). mounts answer table) (mount_same given table.world opts told)

on_handle_same : (found : Option Handle) (table : Table) (one other : Handle → Stepped) → ((h : Handle) → one h ≡ other h) → on_handle found table one ≡ on_handle found table other
on_handle_same None table one other each = refl
on_handle_same (Some h) table one other each = each h

on_volume_same : (volume : Option Volume) (table : Table) (one other : Mounted → Stepped)
    → ((v : Volume) → one (record { world = table.world; volume = v }) ≡ other (record { world = table.world; volume = v })) → on_volume volume table one ≡ on_volume volume table other
on_volume_same None table one other each = refl
on_volume_same (Some v) table one other each = each v

read_line_same : (given : List ℕ) (table : Table) (n offset len : ℕ) → table.world.truth.told ≡ true
    → handle_then table n (λ m h. tells read_text table (read_call given m h offset len)) ≡ handle_then table n (λ m h. tells read_text table (read_call [] m h offset len))
read_line_same given table n offset len told =
    on_volume_same table.volume table (λ m. on_handle (handle_of table n) table (λ h. tells read_text table (read_call given m h offset len)))
    (λ m. on_handle (handle_of table n) table (λ h. tells read_text table (read_call [] m h offset len)))
    (λ v. let m : Mounted = record { world = table.world; volume = v } in
    on_handle_same (handle_of table n) table (λ h. tells read_text table (read_call given m h offset len)) (λ h. tells read_text table (read_call [] m h offset len))
    (λ h. ap (λ (answer : Answer (List ℕ)). tells read_text table answer) (read_same given m h offset len told)))

now_same : (given : List ℕ) (table : Table) (line : Line) → table.world.truth.told ≡ true → line_now given table line ≡ line_now [] table line
unfolding line_now
now_same given table (Mkfs words) told = ap (unless_mounted table.volume table) (format_with_same given (label_in words.label) (uuid_in words.uuid table.entropy) (features_in words.features) words.force table told)
now_same given table (Mount text) told = ap (unless_mounted table.volume table) (mount_with_same given (options_in text) table told)
now_same given table Umount told = refl
now_same given table (OpenFile n path mode who) told = refl
now_same given table (CloseFile n) told = refl
now_same given table (SizeOf n) told = refl
now_same given table (ReadFrom n offset len) told = read_line_same given table n offset len told
now_same given table (WriteTo n offset runs) told = refl
now_same given table (TruncateTo n size) told = refl
now_same given table (SyncFile n) told = refl
now_same given table (SubmitTo n offset runs) told = refl
now_same given table Complete told = refl
now_same given table Reap told = refl
now_same given table (StatOf path) told = refl
now_same given table (ListOf path) told = refl
now_same given table Attributes told = refl
now_same given table (Changes change) told = refl
now_same given table Zones told = refl
now_same given table (FaultOn z command keep) told = refl
now_same given table (TurnTo z to) told = refl
now_same given table (PowerLoss fill cuts) told = refl
now_same given table (PowerLossIn z command carried_out fill cuts) told = refl
now_same given table PowerOn told = refl

pub line_same : (given : List ℕ) (table : Table) (line : Line) → table.world.truth.told ≡ true → line_step given table line ≡ line_step [] table line
unfolding line_step
line_same given table line told = ap (λ (after : Stepped). says after.text (dropped_unless after.table.world.powered after.table)) (now_same given table line told)

-- ---- transcripts

then_same : (given : List ℕ) (reading : Result (Option Line) ℕ) (table : Table) (n : ℕ) (one other : Table → Transcript) → table.world.truth.told ≡ true → ((after : Table) → after.world.truth.told ≡ true → one after ≡ other after)
    → line_then given reading table n one ≡ line_then [] reading table n other
then_same given (Err column) table n one other told each = refl
then_same given (Ok None) table n one other told each = each table told
then_same given (Ok (Some line)) table n one other told each =
    ap (λ (s : Stepped). with_text s.text (one s.table)) (line_same given table line told)
    ∙ ap (with_text (line_step [] table line).text) (each (line_step [] table line).table (line_still [] table line ∙ told))

last_same : (given : List ℕ) (tail : Tail) (table : Table) (n : ℕ) (piece : List ℕ) → table.world.truth.told ≡ true → last_piece given tail table n piece ≡ last_piece [] tail table n piece
last_same given End table n [] told = refl
last_same given End table n (b ∷ bytes) told = then_same given (reading_of (b ∷ bytes)) table n (λ after. stop after Finished) (λ after. stop after Finished) told (λ after still. refl)
last_same given Fault table n piece told = refl
last_same given Over table n piece told = refl
last_same given More table n piece told = refl

from_same : (givens : List (List ℕ)) (tail : Tail) (table : Table) (n : ℕ) (parts : List (List ℕ)) → table.world.truth.told ≡ true → transcript_from givens tail table n parts ≡ transcript_from [] tail table n parts
unfolding transcript_from
from_same givens tail table n [] told = refl
from_same givens tail table n (piece ∷ []) told = ap (λ (t : Transcript). if nat_lt LINE_LIMIT (length piece) then stop table (LineTooLong n) else t) (last_same (first_given givens) tail table n piece told)
from_same givens tail table n (line ∷ piece ∷ parts) told =
    ap (λ (t : Transcript). if nat_lt LINE_LIMIT (length line) then stop table (LineTooLong n) else t)
    (then_same (first_given givens) (reading_of line) table n (λ after. transcript_from (more_given givens) tail after (n + 1) (piece ∷ parts)) (λ after. transcript_from [] tail after (n + 1) (piece ∷ parts)) told
    (λ after still. from_same (more_given givens) tail after (n + 1) (piece ∷ parts) still))

pub transcript_same : (givens : List (List ℕ)) (tail : Tail) (table : Table) (n : ℕ) (bytes : List ℕ) → table.world.truth.told ≡ true → transcript_at givens tail table n bytes ≡ transcript_at [] tail table n bytes
transcript_same givens tail table n bytes told = from_same givens tail table n (pieces bytes) told
