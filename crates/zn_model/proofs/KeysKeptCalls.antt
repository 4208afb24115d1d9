-- The calls on a live handle that leave the handles, and the looks, keep generations used once.
use Rattle.std.proofs.Common.{ℕ, ◌-◌, true, false, List, length, Option, Some, None, Ok, Err, refl, ◌∙◌}
use Rattle.zn_truth.specs.declared.ZoneInfo.{ZoneInfo}
use Rattle.zn_truth.specs.Orders.{Reply, FlushAll}
use Rattle.zn_truth.specs.OrderLists.{issue_all}
use Rattle.zn_truth.specs.World.{issue}
use Rattle.zn_truth.proofs.Telling.{issue_told, issue_all_told}
use Rattle.zn_model.specs.declared.handles.Handle.{Handle}
use Rattle.zn_model.specs.ZoneFiles.{file_named, listing_of}
use Rattle.zn_model.specs.Volume.{Live, Mounted, file_at, shown_at, live_at}
use Rattle.zn_model.specs.Writing.{write_at_once, write_orders, after_write, write_now, write_by, write_call}
use Rattle.zn_model.specs.Reading.{reading_refusal, read_end, read_orders, read_bytes, after_read, read_now, read_by, read_call, size_by, size_call}
use Rattle.zn_model.specs.Given.{told_or}
use Rattle.zn_model.specs.Truncating.{truncate_at_once, truncate_orders, after_truncate, truncate_now, truncate_by, truncate_call, syncing_refusal, after_sync, sync_now, sync_by, sync_call}
use Rattle.zn_model.specs.Looks.{stat_by, stat_call, entries_by, entries_call, attributes_of, attr_call, after_report, report_all, all_infos, report_call}
use Rattle.zn_model.specs.CallAnswers.{answered, as_refused}
use Rattle.zn_model.proofs.KeysKept.{Keeps, keeps_itself, failure_keeps, unless_keeps, with_power_keeps}

-- ---- size, read and write

size_by_keeps : (found : Option Live) (m : Mounted) → Keeps m (size_by found m).mounted
size_by_keeps None m = keeps_itself m
size_by_keeps (Some live) m = keeps_itself m

pub size_keeps : (m : Mounted) (h : Handle) → Keeps m (size_call m h).mounted
unfolding size_call
size_keeps m h = with_power_keeps m (size_by (live_at m.volume.handles h) m) (size_by_keeps (live_at m.volume.handles h) m)

after_read_keeps : (reply : Reply) (m : Mounted) (f : ℕ) (bytes : List ℕ) → Keeps m (after_read reply m f bytes).mounted
after_read_keeps (Ok unit) m f bytes = keeps_itself m
after_read_keeps (Err error) m f bytes = failure_keeps true error m f

read_now_keeps : (given : List ℕ) (m : Mounted) (f offset len : ℕ) → Keeps m (read_now given m f offset len).mounted
unfolding read_now
read_now_keeps given m f offset len =
    let file = file_at m.volume.inodes f in
    let end = read_end (shown_at m.volume.inodes f) offset len in
    let orders = issue_all m.world (read_orders m.volume.inodes.shape file offset end) in
    let told = issue_all_told m.world (read_orders m.volume.inodes.shape file offset end) in
    let keeps = after_read_keeps orders.reply (record m { world = orders.world }) f (told_or m.world.truth (end - offset) (read_bytes m.world.truth m.volume.inodes.shape file offset end) given) in
    record { told = keeps.told ∙ told; handles = keeps.handles; queued = keeps.queued }

read_by_keeps : (given : List ℕ) (found : Option Live) (m : Mounted) (offset len : ℕ) → Keeps m (read_by given found m offset len).mounted
read_by_keeps given None m offset len = keeps_itself m
read_by_keeps given (Some live) m offset len = unless_keeps (as_refused (reading_refusal m.volume live offset)) m (read_now given m live.file offset len) (read_now_keeps given m live.file offset len)

pub read_keeps : (given : List ℕ) (m : Mounted) (h : Handle) (offset len : ℕ) → Keeps m (read_call given m h offset len).mounted
unfolding read_call
read_keeps given m h offset len = with_power_keeps m (read_by given (live_at m.volume.handles h) m offset len) (read_by_keeps given (live_at m.volume.handles h) m offset len)

after_write_keeps : (reply : Reply) (m : Mounted) (f len : ℕ) → Keeps m (after_write reply m f len).mounted
after_write_keeps (Ok unit) m f len = record { told = refl; handles = refl; queued = λ p all. all }
after_write_keeps (Err error) m f len = failure_keeps false error m f

write_now_keeps : (m : Mounted) (f offset : ℕ) (bytes : List ℕ) → Keeps m (write_now m f offset bytes).mounted
unfolding write_now
write_now_keeps m f offset bytes =
    let orders = issue_all m.world (write_orders m.volume f offset bytes) in
    let told = issue_all_told m.world (write_orders m.volume f offset bytes) in
    let keeps = after_write_keeps orders.reply (record m { world = orders.world }) f (length bytes) in
    record { told = keeps.told ∙ told; handles = keeps.handles; queued = keeps.queued }

write_by_keeps : (found : Option Live) (m : Mounted) (offset : ℕ) (bytes : List ℕ) → Keeps m (write_by found m offset bytes).mounted
write_by_keeps None m offset bytes = keeps_itself m
write_by_keeps (Some live) m offset bytes = unless_keeps (write_at_once m.volume live offset (length bytes)) m (write_now m live.file offset bytes) (write_now_keeps m live.file offset bytes)

pub write_keeps : (m : Mounted) (h : Handle) (offset : ℕ) (bytes : List ℕ) → Keeps m (write_call m h offset bytes).mounted
unfolding write_call
write_keeps m h offset bytes = with_power_keeps m (write_by (live_at m.volume.handles h) m offset bytes) (write_by_keeps (live_at m.volume.handles h) m offset bytes)

-- ---- truncate and sync

after_truncate_keeps : (reply : Reply) (m : Mounted) (f size : ℕ) → Keeps m (after_truncate reply m f size).mounted
after_truncate_keeps (Ok unit) m f size = record { told = refl; handles = refl; queued = λ p all. all }
after_truncate_keeps (Err error) m f size = failure_keeps false error m f

truncate_now_keeps : (m : Mounted) (f size : ℕ) → Keeps m (truncate_now m f size).mounted
unfolding truncate_now
truncate_now_keeps m f size =
    let orders = issue_all m.world (truncate_orders (file_at m.volume.inodes f) (shown_at m.volume.inodes f) size) in
    let told = issue_all_told m.world (truncate_orders (file_at m.volume.inodes f) (shown_at m.volume.inodes f) size) in
    let keeps = after_truncate_keeps orders.reply (record m { world = orders.world }) f size in
    record { told = keeps.told ∙ told; handles = keeps.handles; queued = keeps.queued }

truncate_by_keeps : (found : Option Live) (m : Mounted) (size : ℕ) → Keeps m (truncate_by found m size).mounted
truncate_by_keeps None m size = keeps_itself m
truncate_by_keeps (Some live) m size = unless_keeps (truncate_at_once m.volume live size) m (truncate_now m live.file size) (truncate_now_keeps m live.file size)

pub truncate_keeps : (m : Mounted) (h : Handle) (size : ℕ) → Keeps m (truncate_call m h size).mounted
unfolding truncate_call
truncate_keeps m h size = with_power_keeps m (truncate_by (live_at m.volume.handles h) m size) (truncate_by_keeps (live_at m.volume.handles h) m size)

after_sync_keeps : (reply : Reply) (m : Mounted) (f : ℕ) → Keeps m (after_sync reply m f).mounted
after_sync_keeps (Ok unit) m f = keeps_itself m
after_sync_keeps (Err error) m f = failure_keeps false error m f

sync_now_keeps : (m : Mounted) (f : ℕ) → Keeps m (sync_now m f).mounted
unfolding sync_now
sync_now_keeps m f =
    let done = issue m.world FlushAll in
    let told = issue_told m.world FlushAll in
    let keeps = after_sync_keeps done.reply (record m { world = done.world }) f in
    record { told = keeps.told ∙ told; handles = keeps.handles; queued = keeps.queued }

sync_by_keeps : (found : Option Live) (m : Mounted) → Keeps m (sync_by found m).mounted
sync_by_keeps None m = keeps_itself m
sync_by_keeps (Some live) m = unless_keeps (as_refused (syncing_refusal m.volume live)) m (sync_now m live.file) (sync_now_keeps m live.file)

pub sync_keeps : (m : Mounted) (h : Handle) → Keeps m (sync_call m h).mounted
unfolding sync_call
sync_keeps m h = with_power_keeps m (sync_by (live_at m.volume.handles h) m) (sync_by_keeps (live_at m.volume.handles h) m)

-- ---- looks

stat_by_keeps : (names : Option (List (List ℕ))) (file : Option ℕ) (m : Mounted) → Keeps m (stat_by names file m).mounted
stat_by_keeps (Some names) file m = keeps_itself m
stat_by_keeps None (Some f) m = keeps_itself m
stat_by_keeps None None m = keeps_itself m

pub stat_keeps : (m : Mounted) (path : List ℕ) → Keeps m (stat_call m path).mounted
unfolding stat_call
stat_keeps m path =
    let names = listing_of m.volume.inodes.layout path in
    let file = file_named m.volume.inodes.layout path in
    with_power_keeps m (stat_by names file m) (stat_by_keeps names file m)

entries_by_keeps : (names : Option (List (List ℕ))) (m : Mounted) → Keeps m (entries_by names m).mounted
entries_by_keeps None m = keeps_itself m
entries_by_keeps (Some names) m = keeps_itself m

pub entries_keeps : (m : Mounted) (path : List ℕ) → Keeps m (entries_call m path).mounted
unfolding entries_call
entries_keeps m path = let names = listing_of m.volume.inodes.layout path in with_power_keeps m (entries_by names m) (entries_by_keeps names m)

pub attr_keeps : (m : Mounted) → Keeps m (attr_call m).mounted
unfolding attr_call
attr_keeps m = with_power_keeps m (answered (attributes_of m) m) (keeps_itself m)

after_report_keeps : (reply : Reply) (infos : List ZoneInfo) (m : Mounted) → Keeps m (after_report reply infos m).mounted
after_report_keeps (Ok unit) infos m = keeps_itself m
after_report_keeps (Err error) infos m = keeps_itself m

pub report_keeps : (m : Mounted) → Keeps m (report_call m).mounted
unfolding report_call
report_keeps m =
    let done = issue m.world (report_all m.world.truth) in
    let told = issue_told m.world (report_all m.world.truth) in
    let keeps = after_report_keeps done.reply (all_infos m.world.truth) (record m { world = done.world }) in
    record { told = keeps.told ∙ told; handles = keeps.handles; queued = keeps.queued }
