-- The calls on a live handle that write, read, truncate and sync, without keys.
use Rattle.std.proofs.Common.{◌≡◌, ℕ, ◌-◌, true, false, List, length, Option, Some, None, Ok, Err, refl, ap, ◌∙◌}
use Rattle.std.specs.Prelude.{option_map}
use Rattle.zn_truth.specs.Orders.{Reply, FlushAll}
use Rattle.zn_truth.specs.OrderLists.{issue_all}
use Rattle.zn_truth.specs.World.{issue}
use Rattle.zn_model.specs.declared.handles.Handle.{Handle}
use Rattle.zn_model.specs.Volume.{Live, Volume, Mounted, file_at, shown_at, live_at}
use Rattle.zn_model.specs.Writing.{write_at_once, write_orders, after_write, write_now, write_by, write_call}
use Rattle.zn_model.specs.Reading.{reading_refusal, read_end, read_orders, read_bytes, after_read, read_now, read_by, read_call, size_by, size_call}
use Rattle.zn_model.specs.Given.{told_or}
use Rattle.zn_model.specs.Truncating.{truncate_at_once, truncate_orders, after_truncate, truncate_now, truncate_by, truncate_call, syncing_refusal, after_sync, sync_now, sync_by, sync_call}
use Rattle.zn_model.specs.CallAnswers.{Answer, as_refused, unless}
use Rattle.zn_model.specs.Keys.{unkeyed_handle, unkeyed_live, unkeyed_volume, unkeyed, unkeyed_answer, IsUsedOnce}
use Rattle.zn_model.proofs.KeysHandles.{is_known, live_at_unkeyed}
use Rattle.zn_model.proofs.KeysFailures.{is_queued_unkeyed, issued_end_unkeyed, as_answer_unkeyed, unless_unkeyed, with_power_unkeyed}

-- a call that finds its handle, with power
pub on_live : {X : Type 0} (call plain : Option Live → Answer X) (m : Mounted) (h : Handle) (live : Live) → IsUsedOnce m.volume → live_at m.volume.handles h ≡ Some live
    → ((found : Option Live) → plain (option_map unkeyed_live found) ≡ unkeyed_answer (call found))
    → plain (live_at (unkeyed m).volume.handles (unkeyed_handle h)) ≡ unkeyed_answer (call (live_at m.volume.handles h))
on_live call plain m h live once e same =
    ap plain (live_at_unkeyed m.volume.handles h (is_known m.volume h live once e)) ∙ same (live_at m.volume.handles h)

-- ---- size

size_by_unkeyed : (found : Option Live) (m : Mounted) → size_by (option_map unkeyed_live found) (unkeyed m) ≡ unkeyed_answer (size_by found m)
size_by_unkeyed None m = refl
size_by_unkeyed (Some live) m = refl

pub size_unkeyed : (m : Mounted) (h : Handle) (live : Live) → IsUsedOnce m.volume → live_at m.volume.handles h ≡ Some live → size_call (unkeyed m) (unkeyed_handle h) ≡ unkeyed_answer (size_call m h)
unfolding size_call
size_unkeyed m h live once e = with_power_unkeyed m _ (size_by (live_at m.volume.handles h) m)
    (on_live (λ found. size_by found m) (λ found. size_by found (unkeyed m)) m h live once e (λ found. size_by_unkeyed found m))

-- ---- read

reading_refusal_unkeyed : (v : Volume) (live : Live) (offset : ℕ) → reading_refusal (unkeyed_volume v) (unkeyed_live live) offset ≡ reading_refusal v live offset
unfolding reading_refusal
reading_refusal_unkeyed v live offset = refl

after_read_unkeyed : (reply : Reply) (m : Mounted) (f : ℕ) (bytes : List ℕ) → after_read reply (unkeyed m) f bytes ≡ unkeyed_answer (after_read reply m f bytes)
after_read_unkeyed (Ok unit) m f bytes = refl
after_read_unkeyed (Err error) m f bytes = as_answer_unkeyed true error m f

read_now_unkeyed : (given : List ℕ) (m : Mounted) (f offset len : ℕ) → read_now given (unkeyed m) f offset len ≡ unkeyed_answer (read_now given m f offset len)
unfolding read_now
read_now_unkeyed given m f offset len =
    let file = file_at m.volume.inodes f in
    let end = read_end (shown_at m.volume.inodes f) offset len in
    let orders = issue_all m.world (read_orders m.volume.inodes.shape file offset end) in
    after_read_unkeyed orders.reply (record m { world = orders.world }) f (told_or m.world.truth (end - offset) (read_bytes m.world.truth m.volume.inodes.shape file offset end) given)

read_by_unkeyed : (given : List ℕ) (found : Option Live) (m : Mounted) (offset len : ℕ) → read_by given (option_map unkeyed_live found) (unkeyed m) offset len ≡ unkeyed_answer (read_by given found m offset len)
read_by_unkeyed given None m offset len = refl
read_by_unkeyed given (Some live) m offset len =
    ap (λ check. unless (as_refused check) (unkeyed m) (read_now given (unkeyed m) live.file offset len)) (reading_refusal_unkeyed m.volume live offset)
    ∙ unless_unkeyed (as_refused (reading_refusal m.volume live offset)) m (read_now given (unkeyed m) live.file offset len) (read_now given m live.file offset len) (read_now_unkeyed given m live.file offset len)

pub read_unkeyed : (given : List ℕ) (m : Mounted) (h : Handle) (offset len : ℕ) (live : Live) → IsUsedOnce m.volume → live_at m.volume.handles h ≡ Some live → read_call given (unkeyed m) (unkeyed_handle h) offset len ≡ unkeyed_answer (read_call given m h offset len)
unfolding read_call
read_unkeyed given m h offset len live once e = with_power_unkeyed m _ (read_by given (live_at m.volume.handles h) m offset len)
    (on_live (λ found. read_by given found m offset len) (λ found. read_by given found (unkeyed m) offset len) m h live once e (λ found. read_by_unkeyed given found m offset len))

-- ---- write

write_at_once_unkeyed : (v : Volume) (live : Live) (offset len : ℕ) → write_at_once (unkeyed_volume v) (unkeyed_live live) offset len ≡ write_at_once v live offset len
unfolding write_at_once
write_at_once_unkeyed v live offset len = rw (issued_end_unkeyed v live.file, is_queued_unkeyed v.queue live.file)

after_write_unkeyed : (reply : Reply) (m : Mounted) (f len : ℕ) → after_write reply (unkeyed m) f len ≡ unkeyed_answer (after_write reply m f len)
after_write_unkeyed (Ok unit) m f len = refl
after_write_unkeyed (Err error) m f len = as_answer_unkeyed false error m f

write_now_unkeyed : (m : Mounted) (f offset : ℕ) (bytes : List ℕ) → write_now (unkeyed m) f offset bytes ≡ unkeyed_answer (write_now m f offset bytes)
unfolding write_now
write_now_unkeyed m f offset bytes =
    let orders = issue_all m.world (write_orders m.volume f offset bytes) in
    after_write_unkeyed orders.reply (record m { world = orders.world }) f (length bytes)

write_by_unkeyed : (found : Option Live) (m : Mounted) (offset : ℕ) (bytes : List ℕ) → write_by (option_map unkeyed_live found) (unkeyed m) offset bytes ≡ unkeyed_answer (write_by found m offset bytes)
write_by_unkeyed None m offset bytes = refl
write_by_unkeyed (Some live) m offset bytes =
    ap (λ check. unless check (unkeyed m) (write_now (unkeyed m) live.file offset bytes)) (write_at_once_unkeyed m.volume live offset (length bytes))
    ∙ unless_unkeyed (write_at_once m.volume live offset (length bytes)) m (write_now (unkeyed m) live.file offset bytes) (write_now m live.file offset bytes) (write_now_unkeyed m live.file offset bytes)

pub write_unkeyed : (m : Mounted) (h : Handle) (offset : ℕ) (bytes : List ℕ) (live : Live) → IsUsedOnce m.volume → live_at m.volume.handles h ≡ Some live → write_call (unkeyed m) (unkeyed_handle h) offset bytes ≡ unkeyed_answer (write_call m h offset bytes)
unfolding write_call
write_unkeyed m h offset bytes live once e = with_power_unkeyed m _ (write_by (live_at m.volume.handles h) m offset bytes)
    (on_live (λ found. write_by found m offset bytes) (λ found. write_by found (unkeyed m) offset bytes) m h live once e (λ found. write_by_unkeyed found m offset bytes))

-- ---- truncate

truncate_at_once_unkeyed : (v : Volume) (live : Live) (size : ℕ) → truncate_at_once (unkeyed_volume v) (unkeyed_live live) size ≡ truncate_at_once v live size
unfolding truncate_at_once
truncate_at_once_unkeyed v live size = rw (is_queued_unkeyed v.queue live.file)

after_truncate_unkeyed : (reply : Reply) (m : Mounted) (f size : ℕ) → after_truncate reply (unkeyed m) f size ≡ unkeyed_answer (after_truncate reply m f size)
after_truncate_unkeyed (Ok unit) m f size = refl
after_truncate_unkeyed (Err error) m f size = as_answer_unkeyed false error m f

truncate_now_unkeyed : (m : Mounted) (f size : ℕ) → truncate_now (unkeyed m) f size ≡ unkeyed_answer (truncate_now m f size)
unfolding truncate_now
truncate_now_unkeyed m f size =
    let orders = issue_all m.world (truncate_orders (file_at m.volume.inodes f) (shown_at m.volume.inodes f) size) in
    after_truncate_unkeyed orders.reply (record m { world = orders.world }) f size

truncate_by_unkeyed : (found : Option Live) (m : Mounted) (size : ℕ) → truncate_by (option_map unkeyed_live found) (unkeyed m) size ≡ unkeyed_answer (truncate_by found m size)
truncate_by_unkeyed None m size = refl
truncate_by_unkeyed (Some live) m size =
    ap (λ check. unless check (unkeyed m) (truncate_now (unkeyed m) live.file size)) (truncate_at_once_unkeyed m.volume live size)
    ∙ unless_unkeyed (truncate_at_once m.volume live size) m (truncate_now (unkeyed m) live.file size) (truncate_now m live.file size) (truncate_now_unkeyed m live.file size)

pub truncate_unkeyed : (m : Mounted) (h : Handle) (size : ℕ) (live : Live) → IsUsedOnce m.volume → live_at m.volume.handles h ≡ Some live → truncate_call (unkeyed m) (unkeyed_handle h) size ≡ unkeyed_answer (truncate_call m h size)
unfolding truncate_call
truncate_unkeyed m h size live once e = with_power_unkeyed m _ (truncate_by (live_at m.volume.handles h) m size)
    (on_live (λ found. truncate_by found m size) (λ found. truncate_by found (unkeyed m) size) m h live once e (λ found. truncate_by_unkeyed found m size))

-- ---- sync

syncing_refusal_unkeyed : (v : Volume) (live : Live) → syncing_refusal (unkeyed_volume v) (unkeyed_live live) ≡ syncing_refusal v live
unfolding syncing_refusal
syncing_refusal_unkeyed v live = rw (is_queued_unkeyed v.queue live.file)

after_sync_unkeyed : (reply : Reply) (m : Mounted) (f : ℕ) → after_sync reply (unkeyed m) f ≡ unkeyed_answer (after_sync reply m f)
after_sync_unkeyed (Ok unit) m f = refl
after_sync_unkeyed (Err error) m f = as_answer_unkeyed false error m f

sync_now_unkeyed : (m : Mounted) (f : ℕ) → sync_now (unkeyed m) f ≡ unkeyed_answer (sync_now m f)
unfolding sync_now
sync_now_unkeyed m f = after_sync_unkeyed (issue m.world FlushAll).reply (record m { world = (issue m.world FlushAll).world }) f

sync_by_unkeyed : (found : Option Live) (m : Mounted) → sync_by (option_map unkeyed_live found) (unkeyed m) ≡ unkeyed_answer (sync_by found m)
sync_by_unkeyed None m = refl
sync_by_unkeyed (Some live) m =
    ap (λ check. unless (as_refused check) (unkeyed m) (sync_now (unkeyed m) live.file)) (syncing_refusal_unkeyed m.volume live)
    ∙ unless_unkeyed (as_refused (syncing_refusal m.volume live)) m (sync_now (unkeyed m) live.file) (sync_now m live.file) (sync_now_unkeyed m live.file)

pub sync_unkeyed : (m : Mounted) (h : Handle) (live : Live) → IsUsedOnce m.volume → live_at m.volume.handles h ≡ Some live → sync_call (unkeyed m) (unkeyed_handle h) ≡ unkeyed_answer (sync_call m h)
unfolding sync_call
sync_unkeyed m h live once e = with_power_unkeyed m _ (sync_by (live_at m.volume.handles h) m)
    (on_live (λ found. sync_by found m) (λ found. sync_by found (unkeyed m)) m h live once e (λ found. sync_by_unkeyed found m))
