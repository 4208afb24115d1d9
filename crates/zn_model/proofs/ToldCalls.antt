-- No call changes whether the device tells its bytes.
use Rattle.std.proofs.Common.{◌≡◌, ℕ, Bool, true, false, List, length, Option, Some, None, Result, Ok, Err, refl, ◌∙◌}
use Rattle.std.specs.Prelude.{if◌then◌else◌, not, ◌&&◌, ◌==◌, is_ok}
use Rattle.zn_truth.specs.declared.Cond.{Cond}
use Rattle.zn_truth.specs.declared.Cond.TheVariants.{Good, ReadOnly, Offline}
use Rattle.zn_truth.specs.declared.ZoneOp.TheVariants.{Open, Close}
use Rattle.zn_truth.specs.Truth.{Truth, zone_at}
use Rattle.zn_truth.specs.Orders.{ReadAt, Manage, Reply}
use Rattle.zn_truth.specs.OrderLists.{issue_all}
use Rattle.zn_truth.specs.World.{World, Outcome, issue}
use Rattle.zn_truth.proofs.Telling.{issue_told, issue_all_told}
use Rattle.zn_model.specs.declared.answers.SuperError.{SuperError}
use Rattle.zn_model.specs.declared.answers.FormatError.TheVariants.{AlreadyFormatted}
use Rattle.zn_model.specs.declared.answers.Why.TheVariants.{Zone0NotFull}
use Rattle.zn_model.specs.declared.files.MountOpts.{MountOpts}
use Rattle.zn_model.specs.declared.handles.Handle.{Handle}
use Rattle.zn_model.specs.declared.handles.Mode.{Mode}
use Rattle.zn_model.specs.declared.handles.Who.{Who}
use Rattle.zn_model.specs.Access.{writes}
use Rattle.zn_model.specs.CallAnswers.{answered, refused, as_answer, as_refused}
use Rattle.zn_model.specs.Formatting.{FormatAnswer, may_hold_copies, format_orders, format_refused, format_ends, format_writes, format_read, format_good, format_by, format_reported, format_call}
use Rattle.zn_model.specs.Given.{copies_in}
use Rattle.zn_model.specs.Looks.{report_all}
use Rattle.zn_model.specs.Mounting.{MountAnswer, is_zone0_unfull, super_block_of, closes, fresh_volume, not_formatted, mount_closed, mount_decoded, mount_read, mount_reported, mount_call}
use Rattle.zn_model.specs.OpenClose.{begins_writing, opening_refusal, opened, is_limit, after_open, open_now, open_by, open_call, after_close, ended, unheld, close_now, close_by, close_call}
use Rattle.zn_model.specs.Recovery.{refusal_of, after_failure}
use Rattle.zn_model.specs.Requests.{submitting_refusal, submit_now, submit_by, submit_call}
use Rattle.zn_model.specs.SuperBlock.{SuperBlock}
use Rattle.zn_model.specs.Volume.{Live, Volume, Mounted, file_at, capacity_at, shown_at, live_at, writers_of, is_queued_through}
use Rattle.zn_model.specs.ZoneFiles.{file_named}
use Rattle.zn_model.proofs.KeysKept.{failure_keeps, chosen_holds, unless_holds, with_power_holds}

-- the device tells its bytes after this exactly where it did before
abbrev pub Tells : World → World → Type 0
Tells before after = after.truth.told ≡ before.truth.told

abbrev Same : Mounted → Mounted → Type 0
Same before after = Tells before.world after.world

-- ---- open

after_open_told : (reply : Reply) (m : Mounted) (key f : ℕ) (mode : Mode) → Same m (after_open reply m key f mode).mounted
after_open_told (Ok unit) m key f mode = refl
after_open_told (Err error) m key f mode = chosen_holds (Same m) (is_limit error) (refused (refusal_of error) m) (as_answer (after_failure false error m f)) refl (failure_keeps false error m f).told

open_now_told : (m : Mounted) (key f : ℕ) (mode : Mode) → Same m (open_now m key f mode).mounted
unfolding open_now
open_now_told m key f mode =
    let done = issue m.world (Manage (file_at m.volume.inodes f).first Open) in
    let after = record m { world = done.world } in
    chosen_holds (Same m) (begins_writing m.volume f mode && not ((shown_at m.volume.inodes f).size == capacity_at m.volume.inodes f)) (after_open done.reply after key f mode) (opened m key f mode)
    (after_open_told done.reply after key f mode ∙ issue_told m.world (Manage (file_at m.volume.inodes f).first Open)) refl

open_by_told : (found : Option ℕ) (m : Mounted) (key : ℕ) (mode : Mode) (who : Who) → Same m (open_by found m key mode who).mounted
open_by_told None m key mode who = refl
open_by_told (Some f) m key mode who =
    unless_holds (Same m) (as_refused (opening_refusal m.world.truth.shape.max_open m.volume f mode who)) m (open_now m key f mode) refl (open_now_told m key f mode)

pub open_told : (m : Mounted) (key : ℕ) (path : List ℕ) (mode : Mode) (who : Who) → Same m (open_call m key path mode who).mounted
unfolding open_call
open_told m key path mode who =
    with_power_holds (Same m) m (open_by (file_named m.volume.inodes.layout path) m key mode who) refl (open_by_told (file_named m.volume.inodes.layout path) m key mode who)

-- ---- close

after_close_told : (reply : Reply) (m : Mounted) (f : ℕ) → Same m (after_close reply m f).mounted
after_close_told (Ok unit) m f = refl
after_close_told (Err error) m f = (failure_keeps false error m f).told

close_now_told : (m : Mounted) (live : Live) → Same m (close_now m live).mounted
unfolding close_now
close_now_told m live =
    let order = Manage (file_at m.volume.inodes live.file).first Close in
    let done = issue m.world order in
    let after = ended m live.handle in
    let closed = record (unheld after live.file) { world = done.world } in
    chosen_holds (Same m) (writes live.mode && (writers_of after.volume.handles live.file == 0) && (shown_at m.volume.inodes live.file).held_open) (after_close done.reply closed live.file) (answered tt after)
    (after_close_told done.reply closed live.file ∙ issue_told m.world order) refl

close_by_told : (found : Option Live) (m : Mounted) → Same m (close_by found m).mounted
close_by_told None m = refl
close_by_told (Some live) m = chosen_holds (Same m) (is_queued_through m.volume.queue live.handle) _ (close_now m live) refl (close_now_told m live)

pub close_told : (m : Mounted) (h : Handle) → Same m (close_call m h).mounted
unfolding close_call
close_told m h = with_power_holds (Same m) m (close_by (live_at m.volume.handles h) m) refl (close_by_told (live_at m.volume.handles h) m)

-- ---- submit

submit_by_told : (found : Option Live) (m : Mounted) (offset : ℕ) (bytes : List ℕ) → Same m (submit_by found m offset bytes).mounted
submit_by_told None m offset bytes = refl
submit_by_told (Some live) m offset bytes = unless_holds (Same m) (as_refused (submitting_refusal m.volume live offset (length bytes))) m (submit_now m live offset bytes) refl refl

pub submit_told : (m : Mounted) (h : Handle) (offset : ℕ) (bytes : List ℕ) → Same m (submit_call m h offset bytes).mounted
unfolding submit_call
submit_told m h offset bytes = with_power_holds (Same m) m (submit_by (live_at m.volume.handles h) m offset bytes) refl (submit_by_told (live_at m.volume.handles h) m offset bytes)

-- ---- mount

closed_told : (closed : Outcome) (reply : Reply) (v : Volume) → Tells closed.world (mount_closed closed reply v).world
closed_told closed (Ok unit) v = refl
closed_told closed (Err error) v = refl

decoded_told : (found : Result SuperBlock SuperError) (w : World) (t : Truth) (opts : MountOpts) → Tells w (mount_decoded found w t opts).world
decoded_told (Err error) w t opts = refl
decoded_told (Ok super_block) w t opts = closed_told (issue_all w (closes t)) (issue_all w (closes t)).reply (fresh_volume t super_block opts) ∙ issue_all_told w (closes t)

copies_told : (given : List ℕ) (copies : Outcome) (reply : Reply) (t : Truth) (opts : MountOpts) → Tells copies.world (mount_read given copies reply t opts).world
copies_told given copies (Ok unit) t opts = decoded_told (super_block_of (copies_in t given)) copies.world t opts
copies_told given copies (Err error) t opts = refl

chosen_mount : (w : World) (b : Bool) (one other : MountAnswer) → Tells w one.world → Tells w other.world → Tells w (if b then one else other).world
chosen_mount w true one other holds holds' = holds
chosen_mount w false one other holds holds' = holds'

reported_told : (given : List ℕ) (reported : Outcome) (reply : Reply) (t : Truth) (opts : MountOpts) → Tells reported.world (mount_reported given reported reply t opts).world
reported_told given reported (Err error) t opts = refl
reported_told given reported (Ok unit) t opts =
    let copies = issue reported.world (ReadAt 0 0 2) in
    chosen_mount reported.world (is_zone0_unfull t) (not_formatted Zone0NotFull reported.world) (mount_read given copies copies.reply t opts) refl
    (copies_told given copies copies.reply t opts ∙ issue_told reported.world (ReadAt 0 0 2))

pub mount_told : (given : List ℕ) (w : World) (opts : MountOpts) → Tells w (mount_call given w opts).world
unfolding mount_call
mount_told given w opts = let reported = issue w (report_all w.truth) in reported_told given reported reported.reply w.truth opts ∙ issue_told w (report_all w.truth)

-- ---- format

ends_told : (outcome : Outcome) (reply : Reply) → Tells outcome.world (format_ends outcome reply).world
ends_told outcome (Ok unit) = refl
ends_told outcome (Err error) = refl

writes_told : (w : World) (t : Truth) (s : SuperBlock) → Tells w (format_writes w t s).world
writes_told w t s = ends_told (issue_all w (format_orders t s)) (issue_all w (format_orders t s)).reply ∙ issue_all_told w (format_orders t s)

chosen_format : (w : World) (b : Bool) (one other : FormatAnswer) → Tells w one.world → Tells w other.world → Tells w (if b then one else other).world
chosen_format w true one other holds holds' = holds
chosen_format w false one other holds holds' = holds'

format_read_told : (given : List ℕ) (found : Outcome) (reply : Reply) (t : Truth) (s : SuperBlock) (force : Bool) → Tells found.world (format_read given found reply t s force).world
format_read_told given found (Err error) t s force = refl
format_read_told given found (Ok unit) t s force =
    chosen_format found.world (is_ok (super_block_of (copies_in t given)) && not force) (format_refused AlreadyFormatted found.world) (format_writes found.world t s) refl (writes_told found.world t s)

good_told : (given : List ℕ) (w : World) (t : Truth) (s : SuperBlock) (force : Bool) → Tells w (format_good given w t s force).world
good_told given w t s force =
    let found = issue w (ReadAt 0 0 2) in
    chosen_format w (may_hold_copies t) (format_read given found found.reply t s force) (format_writes w t s)
    (format_read_told given found found.reply t s force ∙ issue_told w (ReadAt 0 0 2)) (writes_told w t s)

by_told : (given : List ℕ) (cond : Cond) (w : World) (t : Truth) (s : SuperBlock) (force : Bool) → Tells w (format_by given cond w t s force).world
by_told given Good w t s force = good_told given w t s force
by_told given ReadOnly w t s force = refl
by_told given Offline w t s force = refl

format_reported_told : (given : List ℕ) (reported : Outcome) (reply : Reply) (t : Truth) (s : SuperBlock) (force : Bool) → Tells reported.world (format_reported given reported reply t s force).world
format_reported_told given reported (Err error) t s force = refl
format_reported_told given reported (Ok unit) t s force = by_told given (zone_at t 0).cond reported.world t s force

pub format_told : (given : List ℕ) (w : World) (s : SuperBlock) (force : Bool) → Tells w (format_call given w s force).world
unfolding format_call
format_told given w s force = let reported = issue w (report_all w.truth) in format_reported_told given reported reported.reply w.truth s force ∙ issue_told w (report_all w.truth)
