-- A call tells a loss of power exactly where the power is off as it ends.
use Rattle.std.proofs.Common.{◌≡◌, ℕ, Bool, true, false, List, [], ◌∷◌, length, Option, Some, None, Result, Ok, Err, refl, sym, ap, ◌∙◌, arith}
use Rattle.std.specs.Prelude.{◌↔◌, ◌&&◌, not, nat_lt, ◌==◌, if◌then◌else◌}
use Rattle.std.proofs.lemmas.Bool.{false≢true, not-false}
use Rattle.zn_truth.specs.declared.Armed.{Armed}
use Rattle.zn_truth.specs.declared.Cond.TheVariants.{Offline}
use Rattle.zn_truth.specs.declared.DevError.{DevError}
use Rattle.zn_truth.specs.declared.DevError.TheVariants.{PowerLost as lost, Broken as broken, Memory as wanting}
use Rattle.zn_truth.specs.declared.FaultSpec.{FaultSpec}
use Rattle.zn_truth.specs.declared.ZoneInfo.{ZoneInfo}
use Rattle.zn_truth.specs.declared.Shape.{Shape}
use Rattle.zn_truth.specs.declared.ZoneOp.TheVariants.{Open, Close}
use Rattle.zn_truth.specs.Orders.{Order, Manage, FlushAll, Reply}
use Rattle.zn_truth.specs.OrderLists.{first_failure, issue_all}
use Rattle.zn_truth.specs.World.{World, Outcome, issue, issue_armed, unarmed, struck, met, unmet, meets, command_of, zones_of, powered_off}
use Rattle.zn_truth.proofs.LossReplies.{is_loss, tells_loss, unarmed_loss}
use Rattle.zn_model.specs.declared.answers.Refusal.{Refusal}
use Rattle.zn_model.specs.declared.answers.Refusal.TheVariants.{NoSuchFile, NotAllowed, FileOffline, BadHandle, BadMode, Unaligned, Busy, NothingQueued, NothingDone, PowerLost}
use Rattle.zn_model.specs.declared.files.FileZones.{FileZones}
use Rattle.zn_model.specs.declared.files.Shown.{Shown}
use Rattle.zn_model.specs.declared.handles.Done.{Done}
use Rattle.zn_model.specs.declared.handles.Handle.{Handle}
use Rattle.zn_model.specs.declared.handles.Mode.{Mode}
use Rattle.zn_model.specs.declared.handles.Who.{Who}
use Rattle.zn_model.specs.Access.{writes}
use Rattle.zn_model.specs.CallAnswers.{Answer, refused, answered, as_answer, unless, with_power, rights_refusal, or_else, as_refused, busy_refusal}
use Rattle.zn_model.specs.Looks.{stat_call, stat_by, entries_call, entries_by, attributes_of, attr_call, all_infos, report_all, after_report, report_call}
use Rattle.zn_model.specs.Mounting.{unmount_refusal}
use Rattle.zn_model.specs.OpenClose.{opening_refusal, begins_writing, is_limit, opened, after_open, open_now, open_by, open_call, ended, unheld, after_close, close_now, close_by, close_call}
use Rattle.zn_model.specs.Reading.{reading_refusal, read_end, read_orders, after_read, read_now, read_by, read_call, size_by, size_call}
use Rattle.zn_model.specs.Recovery.{is_passed_on, refusal_of, found_by, finding_of, told_after, recovered, failed_by, Failed, after_failure, report_of}
use Rattle.zn_model.specs.Requests.{queue_refusal, empty_refusal, submitting_refusal, submit_now, submit_by, submit_call, after_complete, complete_recovered, complete_now, complete_by, complete_call, reap_by, reap_call}
use Rattle.zn_model.specs.ShownStates.{infos_of}
use Rattle.zn_model.specs.Truncating.{new_size_refusal, unless_same, truncate_at_once, truncate_orders, after_truncate, truncate_now, truncate_by, truncate_call, syncing_refusal, after_sync, sync_now, sync_by, sync_call}
use Rattle.zn_model.specs.Volume.{Volume, Mounted, Live, Queue, Request, file_at, shown_at, capacity_at, live_at, writers_of, is_queued, is_queued_through, issued_end}
use Rattle.zn_model.specs.Writing.{area_refusal, unless_empty, rights_then, write_at_once, write_orders, after_write, write_now, write_by, write_call}
use Rattle.zn_model.specs.ZoneFiles.{file_named, listing_of}
use Rattle.zn_volume.specs.PowerLaws.{TellsPower, LossIsToldByCalls}

-- ---- what tells it

-- the refusal that tells it
abbrev is_power_lost : Refusal → Bool
is_power_lost PowerLost = true
is_power_lost _ = false

-- the reply tells it
abbrev tells_lost : {X : Type 0} → Result X Refusal → Bool
tells_lost (Ok value) = false
tells_lost (Err refusal) = is_power_lost refusal

-- a call's answer tells it just where the power is off
record Tells {X : Type 0} (answer : Answer X) : Type 0 where
  same : tells_lost answer.reply ≡ not answer.mounted.world.powered

-- ---- orders

abbrev OrderTells : Outcome → Type 0
OrderTells o = tells_loss o.reply ≡ not o.world.powered

struck_on : (w : World) (rest : List FaultSpec) (armed : Option Armed) (order : Order) (o : Option FaultSpec) → (struck w.truth w.pending rest armed order o).world.powered ≡ true
struck_on w rest armed order None = refl
struck_on w rest armed order (Some fault) = refl

unarmed_tells : (w : World) (order : Order) (armed : Option Armed) → OrderTells (unarmed w order armed)
unarmed_tells w order armed =
    unarmed_loss w order armed ∙ sym (ap not (struck_on w (unmet (command_of order) (zones_of order) w.pending) armed order (met (command_of order) (zones_of order) w.pending)))

either_tells : (b : Bool) (x y : Outcome) → OrderTells x → OrderTells y → OrderTells (if b then x else y)
either_tells true x y h k = h
either_tells false x y h k = k

armed_tells : (w : World) (order : Order) (o : Option Armed) → OrderTells (issue_armed w order o)
armed_tells w order None = unarmed_tells w order None
armed_tells w order (Some armed) =
    either_tells (meets (command_of order) (zones_of order) armed.command armed.zone.0) (powered_off w.truth w.pending armed order) (unarmed w order (Some armed)) refl (unarmed_tells w order (Some armed))

powered_tells : (b : Bool) (w : World) (x : Outcome) → w.powered ≡ b → OrderTells x → OrderTells (if b then x else record { reply = Err lost; world = w })
powered_tells true w x is h = h
powered_tells false w x is h = sym (ap not is)

pub order_tells : (w : World) (order : Order) → OrderTells (issue w order)
unfolding issue
order_tells w order = powered_tells w.powered w (issue_armed w order w.armed) refl (armed_tells w order w.armed)

-- what is done leaves the power on
done_on : (r : Reply) (o : Outcome) → o.reply ≡ r → OrderTells o → r ≡ Ok tt → o.world.powered ≡ true
done_on r o is tells ok = not-false o.world.powered (sym tells ∙ ap tells_loss (is ∙ ok))

first_tells : (r : Reply) (first second : Outcome) → first.reply ≡ r → OrderTells first → (first.world.powered ≡ true → OrderTells second) → OrderTells (first_failure r first second)
first_tells (Ok unit) first second is h k = k (done_on (Ok unit) first is h refl)
first_tells (Err error) first second is h k = h

pub orders_tell : (w : World) (orders : List Order) → w.powered ≡ true → OrderTells (issue_all w orders)
orders_tell w [] on = sym (ap not on)
orders_tell w (order ∷ orders) on =
    first_tells (issue w order).reply (issue w order) (issue_all (issue w order).world orders) refl (order_tells w order) (λ on'. orders_tell (issue w order).world orders on')

-- ---- failures

refusal_tells : (error : DevError) → is_power_lost (refusal_of error) ≡ is_loss error
refusal_tells lost = refl
refusal_tells _ = refl

-- what isn't passed on is no loss of power
here_on : (error : DevError) → is_passed_on error ≡ false → is_loss error ≡ false
here_on lost here = absurd (cc)
here_on broken here = absurd (cc)
here_on wanting here = absurd (cc)
here_on _ here = refl

-- a report that is told after a refusal that tells none
found_tells : (r : Reply) (infos : List ZoneInfo) (refusal : Refusal) → is_power_lost refusal ≡ false → is_power_lost (told_after (found_by r infos) refusal) ≡ tells_loss r
found_tells (Ok unit) infos refusal none = none
found_tells (Err error) infos refusal none = by_test (is_passed_on error) refl
  where
    by_test : (b : Bool) → is_passed_on error ≡ b → is_power_lost (told_after (if b then Err error else Ok (record { cond = Offline; held = 0 })) refusal) ≡ is_loss error
    by_test true passed = refusal_tells error
    by_test false here = none ∙ sym (here_on error here)

-- what follows a failure tells it just where the power is off
abbrev FailureTells : Failed → Type 0
FailureTells after = is_power_lost after.refusal ≡ not after.mounted.world.powered

failed_tells : (b after_read : Bool) (error : DevError) (m : Mounted) (f : ℕ) → is_passed_on error ≡ b → is_loss error ≡ not m.world.powered → FailureTells (failed_by b after_read (refusal_of error) m f)
unfolding recovered
failed_tells true after_read error m f passed tells = refusal_tells error ∙ tells
failed_tells false after_read error m f here tells =
    let file = file_at m.volume.inodes f in
    found_tells (issue m.world (report_of file)).reply (infos_of m.world.truth file) (refusal_of error) (refusal_tells error ∙ here_on error here) ∙ order_tells m.world (report_of file)

failure_tells : (after_read : Bool) (error : DevError) (m : Mounted) (f : ℕ) → is_loss error ≡ not m.world.powered → FailureTells (after_failure after_read error m f)
unfolding after_failure
failure_tells after_read error m f tells = failed_tells (is_passed_on error) after_read error m f refl tells

-- ---- calls

-- a value, with power
value_tells : {X : Type 0} (value : X) (m : Mounted) → m.world.powered ≡ true → Tells (answered value m)
value_tells value m on = record { same = sym (ap not on) }

-- a refusal that tells none, with power
refused_tells : {X : Type 0} (refusal : Refusal) (m : Mounted) → is_power_lost refusal ≡ false → m.world.powered ≡ true → Tells {X = X} (refused refusal m)
refused_tells refusal m none on = record { same = none ∙ sym (ap not on) }

-- what follows a failure
answer_tells : {X : Type 0} (after_read : Bool) (error : DevError) (m : Mounted) (f : ℕ) → is_loss error ≡ not m.world.powered → Tells {X = X} (as_answer (after_failure after_read error m f))
answer_tells after_read error m f tells = record { same = failure_tells after_read error m f tells }

-- without power that is told, and else what is then done tells it
power_tells : {X : Type 0} (m : Mounted) (answer : Answer X) → (m.world.powered ≡ true → Tells answer) → Tells (with_power m answer)
power_tells m answer h = by_power m.world.powered refl
  where
    by_power : (b : Bool) → m.world.powered ≡ b → Tells (if b then answer else refused PowerLost m)
    by_power true on = h on
    by_power false off = record { same = sym (ap not off) }

-- a check that tells no loss of power
abbrev check_tells : Option Refusal → Bool
check_tells None = false
check_tells (Some refusal) = is_power_lost refusal

-- the checks refuse, or what is then done tells it
checked_tells : {X : Type 0} (check : Option Refusal) (m : Mounted) (answer : Answer X) → check_tells check ≡ false → m.world.powered ≡ true → Tells answer → Tells (unless (as_refused check) m answer)
checked_tells (Some refusal) m answer none on h = refused_tells refusal m none on
checked_tells None m answer none on h = h

-- the same of checks that may answer at once
abbrev reply_tells : {X : Type 0} → Option (Result X Refusal) → Bool
reply_tells None = false
reply_tells (Some reply) = tells_lost reply

replied_tells : {X : Type 0} (check : Option (Result X Refusal)) (m : Mounted) (answer : Answer X) → reply_tells check ≡ false → m.world.powered ≡ true → Tells answer → Tells (unless check m answer)
replied_tells (Some reply) m answer none on h = record { same = none ∙ sym (ap not on) }
replied_tells None m answer none on h = h

-- either of two checks
either_check : (b : Bool) (x y : Option Refusal) → check_tells x ≡ false → check_tells y ≡ false → check_tells (if b then x else y) ≡ false
either_check true x y h k = h
either_check false x y h k = k

either_answer : {X : Type 0} (b : Bool) (x y : Answer X) → Tells x → Tells y → Tells (if b then x else y)
either_answer true x y h k = h
either_answer false x y h k = k

-- ---- opens and closes

opening_tells : (max_open : ℕ) (v : Volume) (f : ℕ) (mode : Mode) (who : Who) → check_tells (opening_refusal max_open v f mode who) ≡ false
unfolding opening_refusal
opening_tells max_open v f mode who = grind (arith)

opened_tells : (r : Reply) (m : Mounted) (key f : ℕ) (mode : Mode) → tells_loss r ≡ not m.world.powered → Tells (after_open r m key f mode)
opened_tells (Ok unit) m key f mode tells = record { same = tells }
opened_tells (Err error) m key f mode tells =
    either_answer (is_limit error) (refused (refusal_of error) m) (as_answer (after_failure false error m f)) (record { same = refusal_tells error ∙ tells }) (answer_tells false error m f tells)

open_now_tells : (m : Mounted) (key f : ℕ) (mode : Mode) → m.world.powered ≡ true → Tells (open_now m key f mode)
unfolding open_now
open_now_tells m key f mode on =
    let order = Manage (file_at m.volume.inodes f).first Open in
    either_answer (begins_writing m.volume f mode && not ((shown_at m.volume.inodes f).size == capacity_at m.volume.inodes f)) (after_open (issue m.world order).reply (record m { world = (issue m.world order).world }) key f mode) (opened m key f mode)
    (opened_tells (issue m.world order).reply (record m { world = (issue m.world order).world }) key f mode (order_tells m.world order)) (record { same = sym (ap not on) })

open_by_tells : (found : Option ℕ) (m : Mounted) (key : ℕ) (mode : Mode) (who : Who) → m.world.powered ≡ true → Tells (open_by found m key mode who)
open_by_tells None m key mode who on = refused_tells NoSuchFile m refl on
open_by_tells (Some f) m key mode who on =
    let max_open = m.world.truth.shape.max_open in
    checked_tells (opening_refusal max_open m.volume f mode who) m (open_now m key f mode) (opening_tells max_open m.volume f mode who) on (open_now_tells m key f mode on)

open_tells : (m : Mounted) (key : ℕ) (path : List ℕ) (mode : Mode) (who : Who) → Tells (open_call m key path mode who)
unfolding open_call
open_tells m key path mode who =
    let found = file_named m.volume.inodes.layout path in
    power_tells m (open_by found m key mode who) (open_by_tells found m key mode who)

closed_tells : (r : Reply) (m : Mounted) (f : ℕ) → tells_loss r ≡ not m.world.powered → Tells (after_close r m f)
closed_tells (Ok unit) m f tells = record { same = tells }
closed_tells (Err error) m f tells = answer_tells false error m f tells

close_now_tells : (m : Mounted) (live : Live) → m.world.powered ≡ true → Tells (close_now m live)
unfolding close_now
close_now_tells m live on =
    let after = ended m live.handle in
    let order = Manage (file_at m.volume.inodes live.file).first Close in
    let left : Mounted = record (unheld after live.file) { world = (issue m.world order).world } in
    either_answer (writes live.mode && (writers_of after.volume.handles live.file == 0) && (shown_at m.volume.inodes live.file).held_open)
    (after_close (issue m.world order).reply left live.file) (answered tt after)
    (closed_tells (issue m.world order).reply left live.file (order_tells m.world order)) (value_tells tt after on)

close_by_tells : (found : Option Live) (m : Mounted) → m.world.powered ≡ true → Tells (close_by found m)
close_by_tells None m on = refused_tells BadHandle m refl on
close_by_tells (Some live) m on =
    either_answer (is_queued_through m.volume.queue live.handle) (refused Busy m) (close_now m live) (refused_tells Busy m refl on) (close_now_tells m live on)

close_tells : (m : Mounted) (h : Handle) → Tells (close_call m h)
unfolding close_call
close_tells m h = power_tells m (close_by (live_at m.volume.handles h) m) (close_by_tells (live_at m.volume.handles h) m)

-- ---- reads

reading_tells : (v : Volume) (live : Live) (offset : ℕ) → check_tells (reading_refusal v live offset) ≡ false
unfolding reading_refusal
reading_tells v live offset = grind (arith)

read_tells : (r : Reply) (m : Mounted) (f : ℕ) (bytes : List ℕ) → tells_loss r ≡ not m.world.powered → Tells (after_read r m f bytes)
read_tells (Ok unit) m f bytes tells = record { same = tells }
read_tells (Err error) m f bytes tells = answer_tells true error m f tells

read_now_tells : (given : List ℕ) (m : Mounted) (f offset len : ℕ) → m.world.powered ≡ true → Tells (read_now given m f offset len)
unfolding read_now
read_now_tells given m f offset len on =
    let orders = read_orders m.volume.inodes.shape (file_at m.volume.inodes f) offset (read_end (shown_at m.volume.inodes f) offset len) in
    read_tells (issue_all m.world orders).reply (record m { world = (issue_all m.world orders).world }) f _ (orders_tell m.world orders on)

read_by_tells : (given : List ℕ) (found : Option Live) (m : Mounted) (offset len : ℕ) → m.world.powered ≡ true → Tells (read_by given found m offset len)
read_by_tells given None m offset len on = refused_tells BadHandle m refl on
read_by_tells given (Some live) m offset len on =
    checked_tells (reading_refusal m.volume live offset) m (read_now given m live.file offset len) (reading_tells m.volume live offset) on (read_now_tells given m live.file offset len on)

read_call_tells : (given : List ℕ) (m : Mounted) (h : Handle) (offset len : ℕ) → Tells (read_call given m h offset len)
unfolding read_call
read_call_tells given m h offset len =
    let found = live_at m.volume.handles h in
    power_tells m (read_by given found m offset len) (read_by_tells given found m offset len)

size_by_tells : (found : Option Live) (m : Mounted) → m.world.powered ≡ true → Tells (size_by found m)
size_by_tells None m on = refused_tells BadHandle m refl on
size_by_tells (Some live) m on = value_tells _ m on

size_tells : (m : Mounted) (h : Handle) → Tells (size_call m h)
unfolding size_call
size_tells m h = power_tells m (size_by (live_at m.volume.handles h) m) (size_by_tells (live_at m.volume.handles h) m)

-- ---- writes

rights_tell : (read_only : Bool) (shown : Shown) → check_tells (rights_refusal read_only shown) ≡ false
rights_tell read_only shown = grind (arith)

busy_tells : (queued : Bool) → check_tells (busy_refusal queued) ≡ false
busy_tells true = refl
busy_tells false = refl

or_tells : (first second : Option Refusal) → check_tells first ≡ false → check_tells second ≡ false → check_tells (or_else first second) ≡ false
or_tells (Some refusal) second h k = h
or_tells None second h k = k

refused_reply : (check : Option Refusal) → check_tells check ≡ false → reply_tells {X = Unit {0}} (as_refused check) ≡ false
refused_reply None h = refl
refused_reply (Some refusal) h = h

rights_then_tells : (first : Option Refusal) (rest : Option (Result (Unit {0}) Refusal)) → check_tells first ≡ false → reply_tells rest ≡ false → reply_tells (rights_then first rest) ≡ false
rights_then_tells (Some refusal) rest h k = h
rights_then_tells None rest h k = k

either_reply : {X : Type 0} (b : Bool) (x y : Option (Result X Refusal)) → reply_tells x ≡ false → reply_tells y ≡ false → reply_tells (if b then x else y) ≡ false
either_reply true x y h k = h
either_reply false x y h k = k

area_tells : (shape : Shape) (file : FileZones) (issued offset len : ℕ) → check_tells (area_refusal shape file issued offset len) ≡ false
area_tells shape file issued offset len = grind (arith)

writing_tells : (v : Volume) (live : Live) (offset len : ℕ) → reply_tells (write_at_once v live offset len) ≡ false
unfolding write_at_once
writing_tells v live offset len =
    let area = area_refusal v.inodes.shape (file_at v.inodes live.file) (issued_end v live.file) offset len in
    let busy = busy_refusal (is_queued v.queue live.file) in
    let rest : Option (Result (Unit {0}) Refusal) = unless_empty len (or_else area busy) in
    either_reply (not (writes live.mode)) (Some (Err BadMode)) (rights_then (rights_refusal v.inodes.read_only (shown_at v.inodes live.file)) rest) refl
    (rights_then_tells (rights_refusal v.inodes.read_only (shown_at v.inodes live.file)) rest (rights_tell v.inodes.read_only (shown_at v.inodes live.file))
    (either_reply (len == 0) (Some (Ok tt)) (as_refused (or_else area busy)) refl
    (refused_reply (or_else area busy) (or_tells area busy (area_tells v.inodes.shape (file_at v.inodes live.file) (issued_end v live.file) offset len) (busy_tells (is_queued v.queue live.file))))))

written_tells : (r : Reply) (m : Mounted) (f len : ℕ) → tells_loss r ≡ not m.world.powered → Tells (after_write r m f len)
written_tells (Ok unit) m f len tells = record { same = tells }
written_tells (Err error) m f len tells = answer_tells false error m f tells

write_now_tells : (m : Mounted) (f offset : ℕ) (bytes : List ℕ) → m.world.powered ≡ true → Tells (write_now m f offset bytes)
unfolding write_now
write_now_tells m f offset bytes on =
    let orders = write_orders m.volume f offset bytes in
    written_tells (issue_all m.world orders).reply (record m { world = (issue_all m.world orders).world }) f (length bytes) (orders_tell m.world orders on)

write_by_tells : (found : Option Live) (m : Mounted) (offset : ℕ) (bytes : List ℕ) → m.world.powered ≡ true → Tells (write_by found m offset bytes)
write_by_tells None m offset bytes on = refused_tells BadHandle m refl on
write_by_tells (Some live) m offset bytes on =
    replied_tells (write_at_once m.volume live offset (length bytes)) m (write_now m live.file offset bytes) (writing_tells m.volume live offset (length bytes)) on (write_now_tells m live.file offset bytes on)

write_tells : (m : Mounted) (h : Handle) (offset : ℕ) (bytes : List ℕ) → Tells (write_call m h offset bytes)
unfolding write_call
write_tells m h offset bytes = power_tells m (write_by (live_at m.volume.handles h) m offset bytes) (write_by_tells (live_at m.volume.handles h) m offset bytes)

-- ---- truncations

new_size_tells : (shape : Shape) (file : FileZones) (size : ℕ) → check_tells (new_size_refusal shape file size) ≡ false
new_size_tells shape file size = grind (arith)

same_tells : (same : Bool) (check : Option Refusal) → check_tells check ≡ false → reply_tells (unless_same same check) ≡ false
same_tells same (Some refusal) h = h
same_tells same None h = either_reply same (Some (Ok tt)) None refl refl

truncating_tells : (v : Volume) (live : Live) (size : ℕ) → reply_tells (truncate_at_once v live size) ≡ false
unfolding truncate_at_once
truncating_tells v live size =
    let rights = rights_refusal v.inodes.read_only (shown_at v.inodes live.file) in
    let new_size = new_size_refusal v.inodes.shape (file_at v.inodes live.file) size in
    let busy = busy_refusal (is_queued v.queue live.file) in
    let same = size == (shown_at v.inodes live.file).size in
    let rest : Option (Result (Unit {0}) Refusal) = unless_same same (or_else rights (or_else new_size busy)) in
    let sequential = (file_at v.inodes live.file).seq in
    either_reply (not (writes live.mode)) (Some (Err BadMode)) (if not sequential then Some (Err NotAllowed) else rest) refl
    (either_reply (not sequential) (Some (Err NotAllowed)) rest refl
    (same_tells same (or_else rights (or_else new_size busy))
    (or_tells rights (or_else new_size busy) (rights_tell v.inodes.read_only (shown_at v.inodes live.file))
    (or_tells new_size busy (new_size_tells v.inodes.shape (file_at v.inodes live.file) size) (busy_tells (is_queued v.queue live.file))))))

truncated_tells : (r : Reply) (m : Mounted) (f size : ℕ) → tells_loss r ≡ not m.world.powered → Tells (after_truncate r m f size)
truncated_tells (Ok unit) m f size tells = record { same = tells }
truncated_tells (Err error) m f size tells = answer_tells false error m f tells

truncate_now_tells : (m : Mounted) (f size : ℕ) → m.world.powered ≡ true → Tells (truncate_now m f size)
unfolding truncate_now
truncate_now_tells m f size on =
    let orders = truncate_orders (file_at m.volume.inodes f) (shown_at m.volume.inodes f) size in
    truncated_tells (issue_all m.world orders).reply (record m { world = (issue_all m.world orders).world }) f size (orders_tell m.world orders on)

truncate_by_tells : (found : Option Live) (m : Mounted) (size : ℕ) → m.world.powered ≡ true → Tells (truncate_by found m size)
truncate_by_tells None m size on = refused_tells BadHandle m refl on
truncate_by_tells (Some live) m size on =
    replied_tells (truncate_at_once m.volume live size) m (truncate_now m live.file size) (truncating_tells m.volume live size) on (truncate_now_tells m live.file size on)

truncate_tells : (m : Mounted) (h : Handle) (size : ℕ) → Tells (truncate_call m h size)
unfolding truncate_call
truncate_tells m h size = power_tells m (truncate_by (live_at m.volume.handles h) m size) (truncate_by_tells (live_at m.volume.handles h) m size)

-- ---- syncs

syncing_tells : (v : Volume) (live : Live) → check_tells (syncing_refusal v live) ≡ false
unfolding syncing_refusal
syncing_tells v live = either_check (not (shown_at v.inodes live.file).may_read) (Some FileOffline) (busy_refusal (is_queued v.queue live.file)) refl (busy_tells (is_queued v.queue live.file))

synced_tells : (r : Reply) (m : Mounted) (f : ℕ) → tells_loss r ≡ not m.world.powered → Tells (after_sync r m f)
synced_tells (Ok unit) m f tells = record { same = tells }
synced_tells (Err error) m f tells = answer_tells false error m f tells

sync_now_tells : (m : Mounted) (f : ℕ) → Tells (sync_now m f)
unfolding sync_now
sync_now_tells m f = synced_tells (issue m.world FlushAll).reply (record m { world = (issue m.world FlushAll).world }) f (order_tells m.world FlushAll)

sync_by_tells : (found : Option Live) (m : Mounted) → m.world.powered ≡ true → Tells (sync_by found m)
sync_by_tells None m on = refused_tells BadHandle m refl on
sync_by_tells (Some live) m on = checked_tells (syncing_refusal m.volume live) m (sync_now m live.file) (syncing_tells m.volume live) on (sync_now_tells m live.file)

sync_tells : (m : Mounted) (h : Handle) → Tells (sync_call m h)
unfolding sync_call
sync_tells m h = power_tells m (sync_by (live_at m.volume.handles h) m) (sync_by_tells (live_at m.volume.handles h) m)

-- ---- requests in flight

queue_tells : (queue : Queue) (len : ℕ) → check_tells (queue_refusal queue len) ≡ false
queue_tells queue len = grind (arith)

empty_tells : (len : ℕ) → check_tells (empty_refusal len) ≡ false
empty_tells len = either_check (len == 0) (Some Unaligned) None refl refl

submitting_tells : (v : Volume) (live : Live) (offset len : ℕ) → check_tells (submitting_refusal v live offset len) ≡ false
unfolding submitting_refusal
submitting_tells v live offset len =
    let rights = rights_refusal v.inodes.read_only (shown_at v.inodes live.file) in
    let area = area_refusal v.inodes.shape (file_at v.inodes live.file) (issued_end v live.file) offset len in
    let room = queue_refusal v.queue len in
    let empty = empty_refusal len in
    either_check (not (writes live.mode)) (Some BadMode) (or_else rights (or_else empty (or_else area room))) refl
    (or_tells rights (or_else empty (or_else area room)) (rights_tell v.inodes.read_only (shown_at v.inodes live.file))
    (or_tells empty (or_else area room) (empty_tells len)
    (or_tells area room (area_tells v.inodes.shape (file_at v.inodes live.file) (issued_end v live.file) offset len) (queue_tells v.queue len))))

submit_by_tells : (found : Option Live) (m : Mounted) (offset : ℕ) (bytes : List ℕ) → m.world.powered ≡ true → Tells (submit_by found m offset bytes)
submit_by_tells None m offset bytes on = refused_tells BadHandle m refl on
submit_by_tells (Some live) m offset bytes on =
    checked_tells (submitting_refusal m.volume live offset (length bytes)) m (submit_now m live offset bytes) (submitting_tells m.volume live offset (length bytes)) on (record { same = sym (ap not on) })

submit_tells : (m : Mounted) (h : Handle) (offset : ℕ) (bytes : List ℕ) → Tells (submit_call m h offset bytes)
unfolding submit_call
submit_tells m h offset bytes = power_tells m (submit_by (live_at m.volume.handles h) m offset bytes) (submit_by_tells (live_at m.volume.handles h) m offset bytes)

-- the report that follows a request's failure
recovered_tells : (r : Reply) (m : Mounted) (oldest : Request) (waiting : List Request) (error : DevError) → (issue m.world (report_of (file_at m.volume.inodes oldest.file))).reply ≡ r
    → Tells (complete_recovered (found_by r (infos_of m.world.truth (file_at m.volume.inodes oldest.file))) m oldest waiting error)
unfolding recovered
recovered_tells (Ok unit) m oldest waiting error is = record { same = sym (ap tells_loss is) ∙ order_tells m.world (report_of (file_at m.volume.inodes oldest.file)) }
recovered_tells (Err failed) m oldest waiting error is = by_test (is_passed_on failed) refl
  where
    report : Order
    report = report_of (file_at m.volume.inodes oldest.file)

    by_test : (b : Bool) → is_passed_on failed ≡ b → Tells (complete_recovered (if b then Err failed else Ok (record { cond = Offline; held = 0 })) m oldest waiting error)
    by_test true passed = record { same = refusal_tells failed ∙ sym (ap tells_loss is) ∙ order_tells m.world (report_of (file_at m.volume.inodes oldest.file)) }
    by_test false here = record { same = sym (here_on failed here) ∙ sym (ap tells_loss is) ∙ order_tells m.world (report_of (file_at m.volume.inodes oldest.file)) }

completed_tells : (r : Reply) (m : Mounted) (oldest : Request) (waiting : List Request) → tells_loss r ≡ not m.world.powered → Tells (after_complete r m oldest waiting)
completed_tells (Ok unit) m oldest waiting tells = record { same = tells }
completed_tells (Err error) m oldest waiting tells =
    either_answer (is_passed_on error) (refused (refusal_of error) m) (complete_recovered (finding_of m oldest.file) m oldest waiting error) (record { same = refusal_tells error ∙ tells })
    (recovered_tells (issue m.world (report_of (file_at m.volume.inodes oldest.file))).reply m oldest waiting error refl)

complete_by_tells : (queued : List Request) (m : Mounted) → m.world.powered ≡ true → Tells (complete_by queued m)
unfolding complete_now
complete_by_tells [] m on = refused_tells NothingQueued m refl on
complete_by_tells (oldest ∷ waiting) m on =
    let orders = write_orders m.volume oldest.file oldest.offset oldest.bytes in
    completed_tells (issue_all m.world orders).reply (record m { world = (issue_all m.world orders).world }) oldest waiting (orders_tell m.world orders on)

complete_tells : (m : Mounted) → Tells (complete_call m)
unfolding complete_call
complete_tells m = power_tells m (complete_by m.volume.queue.queued m) (complete_by_tells m.volume.queue.queued m)

reap_by_tells : (finished : List Done) (m : Mounted) → m.world.powered ≡ true → Tells (reap_by finished m)
reap_by_tells [] m on = refused_tells NothingDone m refl on
reap_by_tells (first ∷ rest) m on = record { same = sym (ap not on) }

reap_tells : (m : Mounted) → Tells (reap_call m)
unfolding reap_call
reap_tells m = power_tells m (reap_by m.volume.queue.finished m) (reap_by_tells m.volume.queue.finished m)

-- ---- looks

stat_by_tells : (names : Option (List (List ℕ))) (file : Option ℕ) (m : Mounted) → m.world.powered ≡ true → Tells (stat_by names file m)
stat_by_tells (Some names) file m on = value_tells _ m on
stat_by_tells None (Some f) m on = value_tells _ m on
stat_by_tells None None m on = refused_tells NoSuchFile m refl on

stat_tells : (m : Mounted) (path : List ℕ) → Tells (stat_call m path)
unfolding stat_call
stat_tells m path =
    let names = listing_of m.volume.inodes.layout path in
    let file = file_named m.volume.inodes.layout path in
    power_tells m (stat_by names file m) (stat_by_tells names file m)

entries_by_tells : (names : Option (List (List ℕ))) (m : Mounted) → m.world.powered ≡ true → Tells (entries_by names m)
entries_by_tells None m on = refused_tells NoSuchFile m refl on
entries_by_tells (Some names) m on = value_tells _ m on

entries_tells : (m : Mounted) (path : List ℕ) → Tells (entries_call m path)
unfolding entries_call
entries_tells m path =
    let names = listing_of m.volume.inodes.layout path in
    power_tells m (entries_by names m) (entries_by_tells names m)

attr_tells : (m : Mounted) → Tells (attr_call m)
unfolding attr_call
attr_tells m = power_tells m (answered (attributes_of m) m) (value_tells (attributes_of m) m)

reported_tells : (r : Reply) (infos : List ZoneInfo) (m : Mounted) → tells_loss r ≡ not m.world.powered → Tells (after_report r infos m)
reported_tells (Ok unit) infos m tells = record { same = tells }
reported_tells (Err error) infos m tells = record { same = refusal_tells error ∙ tells }

report_tells : (m : Mounted) → Tells (report_call m)
unfolding report_call
report_tells m =
    let order = report_all m.world.truth in
    reported_tells (issue m.world order).reply (all_infos m.world.truth) (record m { world = (issue m.world order).world }) (order_tells m.world order)

-- ---- all

is_not : (b : Bool) → true ≡ not b → b ≡ false
is_not true h = absurd (false≢true (sym h))
is_not false h = refl

is_lost : (refusal : Refusal) → is_power_lost refusal ≡ true → refusal ≡ PowerLost
is_lost PowerLost h = refl
is_lost _ h = absurd (false≢true h)

lost_reply : {X : Type 0} (reply : Result X Refusal) → tells_lost reply ≡ true → reply ≡ Err PowerLost
lost_reply (Ok value) h = absurd (false≢true h)
lost_reply (Err refusal) h = ap (λ (r : Refusal). Err r) (is_lost refusal h)

told : {X : Type 0} {answer : Answer X} → Tells answer → TellsPower answer
told {X = X} {answer = answer} h = record {
  lost = (
    λ is. is_not answer.mounted.world.powered (sym (ap (λ (r : Result X Refusal). tells_lost r) is) ∙ h.same),
    λ off. lost_reply answer.reply (h.same ∙ ap not off),
  );
}

unmount_told : (m : Mounted) → (unmount_refusal m ≡ Some PowerLost) ↔ (m.world.powered ≡ false)
unfolding unmount_refusal
unmount_told m = by_power m.world.powered (nat_lt 0 (length m.volume.handles.live))
  where
    by_power : (on busy : Bool) → ((if not on then Some PowerLost else if busy then Some Busy else None) ≡ Some PowerLost) ↔ (on ≡ false)
    by_power true true = (λ is. absurd (cc), λ off. absurd (false≢true (sym off)))
    by_power true false = (λ is. absurd (cc), λ off. absurd (false≢true (sym off)))
    by_power false busy = (λ is. refl, λ off. refl)

pub loss_is_told : LossIsToldByCalls
loss_is_told = record {
  opens = λ m key path mode who. told (open_tells m key path mode who);
  closes = λ m h. told (close_tells m h);
  size = λ m h. told (size_tells m h);
  reads = λ given m h offset len. told (read_call_tells given m h offset len);
  writes = λ m h offset bytes. told (write_tells m h offset bytes);
  truncates = λ m h size. told (truncate_tells m h size);
  syncs = λ m h. told (sync_tells m h);
  submits = λ m h offset bytes. told (submit_tells m h offset bytes);
  completes = λ m. told (complete_tells m);
  reaps = λ m. told (reap_tells m);
  stat = λ m path. told (stat_tells m path);
  entries = λ m path. told (entries_tells m path);
  attr = λ m. told (attr_tells m);
  reports = λ m. told (report_tells m);
  unmounts = unmount_told;
}
