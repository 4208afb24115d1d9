-- No call but a submit gives a ticket, and that gives one at most.
use Rattle.std.proofs.Common.{◌≡◌, ℕ, ◌+◌, ◌-◌, ◌≤◌, Bool, true, false, List, [], ◌∷◌, length, Option, Some, None, Ok, Err, refl, arith}
use Rattle.std.specs.Prelude.{not, ◌&&◌, ◌==◌}
use Rattle.zn_truth.specs.declared.DevError.{DevError}
use Rattle.zn_truth.specs.declared.ZoneOp.TheVariants.{Open, Close}
use Rattle.zn_truth.specs.Orders.{FlushAll, Manage, Reply}
use Rattle.zn_truth.specs.OrderLists.{issue_all}
use Rattle.zn_truth.specs.World.{issue}
use Rattle.zn_model.specs.declared.answers.Refusal.{Refusal}
use Rattle.zn_model.specs.declared.files.Found.{Found}
use Rattle.zn_model.specs.declared.handles.Done.{Done}
use Rattle.zn_model.specs.declared.handles.Handle.{Handle}
use Rattle.zn_model.specs.declared.handles.Mode.{Mode}
use Rattle.zn_model.specs.declared.handles.Who.{Who}
use Rattle.zn_model.specs.Access.{writes}
use Rattle.zn_model.specs.CallAnswers.{answered, refused, as_answer, as_refused}
use Rattle.zn_model.specs.Given.{told_or}
use Rattle.zn_model.specs.OpenClose.{begins_writing, opening_refusal, opened, is_limit, after_open, open_now, open_by, open_call, after_close, ended, unheld, close_now, close_by, close_call}
use Rattle.zn_model.specs.Reading.{reading_refusal, read_end, read_orders, read_bytes, after_read, read_now, read_by, read_call}
use Rattle.zn_model.specs.Recovery.{Finding, refusal_of, is_passed_on, applied, finding_of, recovered, queue_after, failed_by, after_failure}
use Rattle.zn_model.specs.Requests.{submitting_refusal, submit_now, submit_by, submit_call, outcome_of, finished, complete_recovered, after_complete, complete_now, complete_by, complete_call, reap_by, reap_call}
use Rattle.zn_model.specs.Truncating.{truncate_at_once, truncate_orders, after_truncate, truncate_now, truncate_by, truncate_call, syncing_refusal, after_sync, sync_now, sync_by, sync_call}
use Rattle.zn_model.specs.Volume.{Live, Queue, Request, Mounted, file_at, shown_at, capacity_at, live_at, writers_of, is_queued_through}
use Rattle.zn_model.specs.Writing.{write_at_once, write_orders, after_write, write_now, write_by, write_call}
use Rattle.zn_model.specs.ZoneFiles.{file_named}
use Rattle.zn_model.proofs.KeysKept.{chosen_holds, unless_holds, with_power_holds}

-- what is left has given this last ticket
abbrev pub Gave : ℕ → Mounted → Type 0
Gave n after = after.volume.queue.last_ticket ≡ n

-- no ticket was given
abbrev pub GaveNone : Mounted → Mounted → Type 0
GaveNone m after = Gave m.volume.queue.last_ticket after

-- ---- recovery

queue_gave : (found : Option Found) (queue : Queue) (f : ℕ) → (queue_after found queue f).last_ticket ≡ queue.last_ticket
queue_gave None queue f = refl
queue_gave (Some found) queue f = refl

recovered_gave : (after_read : Bool) (m : Mounted) (f : ℕ) → GaveNone m (recovered after_read m f)
unfolding recovered
recovered_gave after_read m f = queue_gave (applied after_read (finding_of m f) (shown_at m.volume.inodes f)) m.volume.queue f

failed_gave : (passed_on after_read : Bool) (refusal : Refusal) (m : Mounted) (f : ℕ) → GaveNone m (failed_by passed_on after_read refusal m f).mounted
failed_gave true after_read refusal m f = refl
failed_gave false after_read refusal m f = recovered_gave after_read m f

failure_gave : (after_read : Bool) (error : DevError) (m : Mounted) (f : ℕ) → GaveNone m (after_failure after_read error m f).mounted
unfolding after_failure
failure_gave after_read error m f = failed_gave (is_passed_on error) after_read (refusal_of error) m f

-- ---- open and close

after_open_gave : (reply : Reply) (m : Mounted) (key f : ℕ) (mode : Mode) → GaveNone m (after_open reply m key f mode).mounted
after_open_gave (Ok unit) m key f mode = refl
after_open_gave (Err error) m key f mode = chosen_holds (GaveNone m) (is_limit error) (refused (refusal_of error) m) (as_answer (after_failure false error m f)) refl (failure_gave false error m f)

open_now_gave : (m : Mounted) (key f : ℕ) (mode : Mode) → GaveNone m (open_now m key f mode).mounted
unfolding open_now
open_now_gave m key f mode =
    let done = issue m.world (Manage (file_at m.volume.inodes f).first Open) in
    let after = record m { world = done.world } in
    chosen_holds (GaveNone m) (begins_writing m.volume f mode && not ((shown_at m.volume.inodes f).size == capacity_at m.volume.inodes f)) (after_open done.reply after key f mode) (opened m key f mode)
    (after_open_gave done.reply after key f mode) refl

open_by_gave : (found : Option ℕ) (m : Mounted) (key : ℕ) (mode : Mode) (who : Who) → GaveNone m (open_by found m key mode who).mounted
open_by_gave None m key mode who = refl
open_by_gave (Some f) m key mode who =
    unless_holds (GaveNone m) (as_refused (opening_refusal m.world.truth.shape.max_open m.volume f mode who)) m (open_now m key f mode) refl (open_now_gave m key f mode)

pub open_gave : (m : Mounted) (key : ℕ) (path : List ℕ) (mode : Mode) (who : Who) → GaveNone m (open_call m key path mode who).mounted
unfolding open_call
open_gave m key path mode who =
    let found = file_named m.volume.inodes.layout path in
    with_power_holds (GaveNone m) m (open_by found m key mode who) refl (open_by_gave found m key mode who)

after_close_gave : (reply : Reply) (m : Mounted) (f : ℕ) → GaveNone m (after_close reply m f).mounted
after_close_gave (Ok unit) m f = refl
after_close_gave (Err error) m f = failure_gave false error m f

close_now_gave : (m : Mounted) (live : Live) → GaveNone m (close_now m live).mounted
unfolding close_now
close_now_gave m live =
    let done = issue m.world (Manage (file_at m.volume.inodes live.file).first Close) in
    let after = ended m live.handle in
    let closed = record (unheld after live.file) { world = done.world } in
    chosen_holds (GaveNone m) (writes live.mode && (writers_of after.volume.handles live.file == 0) && (shown_at m.volume.inodes live.file).held_open) (after_close done.reply closed live.file) (answered tt after)
    (after_close_gave done.reply closed live.file) refl

close_by_gave : (found : Option Live) (m : Mounted) → GaveNone m (close_by found m).mounted
close_by_gave None m = refl
close_by_gave (Some live) m = chosen_holds (GaveNone m) (is_queued_through m.volume.queue live.handle) _ (close_now m live) refl (close_now_gave m live)

pub close_gave : (m : Mounted) (h : Handle) → GaveNone m (close_call m h).mounted
unfolding close_call
close_gave m h = with_power_holds (GaveNone m) m (close_by (live_at m.volume.handles h) m) refl (close_by_gave (live_at m.volume.handles h) m)

-- ---- read and write

after_read_gave : (reply : Reply) (m : Mounted) (f : ℕ) (bytes : List ℕ) → GaveNone m (after_read reply m f bytes).mounted
after_read_gave (Ok unit) m f bytes = refl
after_read_gave (Err error) m f bytes = failure_gave true error m f

read_now_gave : (given : List ℕ) (m : Mounted) (f offset len : ℕ) → GaveNone m (read_now given m f offset len).mounted
unfolding read_now
read_now_gave given m f offset len =
    let file = file_at m.volume.inodes f in
    let end = read_end (shown_at m.volume.inodes f) offset len in
    let orders = issue_all m.world (read_orders m.volume.inodes.shape file offset end) in
    after_read_gave orders.reply (record m { world = orders.world }) f (told_or m.world.truth (end - offset) (read_bytes m.world.truth m.volume.inodes.shape file offset end) given)

read_by_gave : (given : List ℕ) (found : Option Live) (m : Mounted) (offset len : ℕ) → GaveNone m (read_by given found m offset len).mounted
read_by_gave given None m offset len = refl
read_by_gave given (Some live) m offset len = unless_holds (GaveNone m) (as_refused (reading_refusal m.volume live offset)) m (read_now given m live.file offset len) refl (read_now_gave given m live.file offset len)

pub read_gave : (given : List ℕ) (m : Mounted) (h : Handle) (offset len : ℕ) → GaveNone m (read_call given m h offset len).mounted
unfolding read_call
read_gave given m h offset len = with_power_holds (GaveNone m) m (read_by given (live_at m.volume.handles h) m offset len) refl (read_by_gave given (live_at m.volume.handles h) m offset len)

after_write_gave : (reply : Reply) (m : Mounted) (f len : ℕ) → GaveNone m (after_write reply m f len).mounted
after_write_gave (Ok unit) m f len = refl
after_write_gave (Err error) m f len = failure_gave false error m f

write_now_gave : (m : Mounted) (f offset : ℕ) (bytes : List ℕ) → GaveNone m (write_now m f offset bytes).mounted
unfolding write_now
write_now_gave m f offset bytes =
    let orders = issue_all m.world (write_orders m.volume f offset bytes) in
    after_write_gave orders.reply (record m { world = orders.world }) f (length bytes)

write_by_gave : (found : Option Live) (m : Mounted) (offset : ℕ) (bytes : List ℕ) → GaveNone m (write_by found m offset bytes).mounted
write_by_gave None m offset bytes = refl
write_by_gave (Some live) m offset bytes = unless_holds (GaveNone m) (write_at_once m.volume live offset (length bytes)) m (write_now m live.file offset bytes) refl (write_now_gave m live.file offset bytes)

pub write_gave : (m : Mounted) (h : Handle) (offset : ℕ) (bytes : List ℕ) → GaveNone m (write_call m h offset bytes).mounted
unfolding write_call
write_gave m h offset bytes = with_power_holds (GaveNone m) m (write_by (live_at m.volume.handles h) m offset bytes) refl (write_by_gave (live_at m.volume.handles h) m offset bytes)

-- ---- truncate and sync

after_truncate_gave : (reply : Reply) (m : Mounted) (f size : ℕ) → GaveNone m (after_truncate reply m f size).mounted
after_truncate_gave (Ok unit) m f size = refl
after_truncate_gave (Err error) m f size = failure_gave false error m f

truncate_now_gave : (m : Mounted) (f size : ℕ) → GaveNone m (truncate_now m f size).mounted
unfolding truncate_now
truncate_now_gave m f size =
    let orders = issue_all m.world (truncate_orders (file_at m.volume.inodes f) (shown_at m.volume.inodes f) size) in
    after_truncate_gave orders.reply (record m { world = orders.world }) f size

truncate_by_gave : (found : Option Live) (m : Mounted) (size : ℕ) → GaveNone m (truncate_by found m size).mounted
truncate_by_gave None m size = refl
truncate_by_gave (Some live) m size = unless_holds (GaveNone m) (truncate_at_once m.volume live size) m (truncate_now m live.file size) refl (truncate_now_gave m live.file size)

pub truncate_gave : (m : Mounted) (h : Handle) (size : ℕ) → GaveNone m (truncate_call m h size).mounted
unfolding truncate_call
truncate_gave m h size = with_power_holds (GaveNone m) m (truncate_by (live_at m.volume.handles h) m size) refl (truncate_by_gave (live_at m.volume.handles h) m size)

after_sync_gave : (reply : Reply) (m : Mounted) (f : ℕ) → GaveNone m (after_sync reply m f).mounted
after_sync_gave (Ok unit) m f = refl
after_sync_gave (Err error) m f = failure_gave false error m f

sync_now_gave : (m : Mounted) (f : ℕ) → GaveNone m (sync_now m f).mounted
unfolding sync_now
sync_now_gave m f = let done = issue m.world FlushAll in after_sync_gave done.reply (record m { world = done.world }) f

sync_by_gave : (found : Option Live) (m : Mounted) → GaveNone m (sync_by found m).mounted
sync_by_gave None m = refl
sync_by_gave (Some live) m = unless_holds (GaveNone m) (as_refused (syncing_refusal m.volume live)) m (sync_now m live.file) refl (sync_now_gave m live.file)

pub sync_gave : (m : Mounted) (h : Handle) → GaveNone m (sync_call m h).mounted
unfolding sync_call
sync_gave m h = with_power_holds (GaveNone m) m (sync_by (live_at m.volume.handles h) m) refl (sync_by_gave (live_at m.volume.handles h) m)

-- ---- submit

-- at most one ticket was given
abbrev pub GaveOne : Mounted → Mounted → Type 0
GaveOne m after = after.volume.queue.last_ticket ≤ m.volume.queue.last_ticket + 1

submit_by_gave : (found : Option Live) (m : Mounted) (offset : ℕ) (bytes : List ℕ) → GaveOne m (submit_by found m offset bytes).mounted
submit_by_gave None m offset bytes = omega arith
submit_by_gave (Some live) m offset bytes =
    unless_holds (GaveOne m) (as_refused (submitting_refusal m.volume live offset (length bytes))) m (submit_now m live offset bytes) (omega arith) (omega arith)

pub submit_gave : (m : Mounted) (h : Handle) (offset : ℕ) (bytes : List ℕ) → GaveOne m (submit_call m h offset bytes).mounted
unfolding submit_call
submit_gave m h offset bytes = with_power_holds (GaveOne m) m (submit_by (live_at m.volume.handles h) m offset bytes) (omega arith) (submit_by_gave (live_at m.volume.handles h) m offset bytes)

-- ---- complete and reap

complete_recovered_gave : (found : Finding) (m : Mounted) (request : Request) (waiting : List Request) (error : DevError) → GaveNone m (complete_recovered found m request waiting error).mounted
complete_recovered_gave (Err lost) m request waiting error = recovered_gave false m request.file
complete_recovered_gave (Ok found) m request waiting error = recovered_gave false (record m { volume = finished m.volume request waiting (outcome_of error) }) request.file

after_complete_gave : (reply : Reply) (m : Mounted) (request : Request) (waiting : List Request) → GaveNone m (after_complete reply m request waiting).mounted
after_complete_gave (Ok unit) m request waiting = refl
after_complete_gave (Err error) m request waiting =
    chosen_holds (GaveNone m) (is_passed_on error) (refused (refusal_of error) m) (complete_recovered (finding_of m request.file) m request waiting error)
    refl (complete_recovered_gave (finding_of m request.file) m request waiting error)

complete_now_gave : (m : Mounted) (request : Request) (waiting : List Request) → GaveNone m (complete_now m request waiting).mounted
unfolding complete_now
complete_now_gave m request waiting =
    let orders = issue_all m.world (write_orders m.volume request.file request.offset request.bytes) in
    after_complete_gave orders.reply (record m { world = orders.world }) request waiting

complete_by_gave : (requests : List Request) (m : Mounted) → GaveNone m (complete_by requests m).mounted
complete_by_gave [] m = refl
complete_by_gave (request ∷ waiting) m = complete_now_gave m request waiting

pub complete_gave : (m : Mounted) → GaveNone m (complete_call m).mounted
unfolding complete_call
complete_gave m = with_power_holds (GaveNone m) m (complete_by m.volume.queue.queued m) refl (complete_by_gave m.volume.queue.queued m)

reap_by_gave : (ended : List Done) (m : Mounted) → GaveNone m (reap_by ended m).mounted
reap_by_gave [] m = refl
reap_by_gave (first ∷ rest) m = refl

pub reap_gave : (m : Mounted) → GaveNone m (reap_call m).mounted
unfolding reap_call
reap_gave m = with_power_holds (GaveNone m) m (reap_by m.volume.queue.finished m) refl (reap_by_gave m.volume.queue.finished m)
