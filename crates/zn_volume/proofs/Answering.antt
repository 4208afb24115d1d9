-- Calls on a file that nothing stands against.
use Rattle.std.proofs.Common.{◌≡◌, ◌⊎◌, ℕ, ◌<◌, ◌≤◌, Bool, true, false, List, [], ◌∷◌, length, Option, Some, None, Ok, Err, Result, refl, sym, ap, ◌∙◌, subst, inl, inr, arith}
use Rattle.std.specs.Prelude.{if◌then◌else◌, ◌&&◌, not, ◌==◌}
use Rattle.std.proofs.lemmas.Bool.{false≢true, cases_lt}
use Rattle.std.proofs.lemmas.List.{get_or_past}
use Rattle.zn_truth.specs.declared.DevError.{DevError}
use Rattle.zn_truth.specs.declared.DevError.TheVariants.{TooManyActive, TooManyOpen, Fault}
use Rattle.zn_truth.specs.declared.FaultSpec.{FaultSpec}
use Rattle.zn_truth.specs.declared.Shape.{Shape}
use Rattle.zn_truth.specs.declared.ZoneOp.TheVariants.{Open, Close}
use Rattle.zn_truth.specs.declared.ZoneInfo.{ZoneInfo}
use Rattle.zn_truth.specs.Orders.{Manage, FlushAll, Reply}
use Rattle.zn_truth.specs.OrderLists.{issue_all}
use Rattle.zn_truth.specs.World.{issue}
use Rattle.zn_model.specs.declared.answers.Refusal.{Refusal}
use Rattle.zn_model.specs.declared.answers.Refusal.TheVariants.{BadHandle, Busy, PowerLost}
use Rattle.zn_model.specs.declared.files.Shown.{Shown}
use Rattle.zn_model.specs.declared.handles.Handle.{Handle}
use Rattle.zn_model.specs.declared.handles.Mode.{Mode}
use Rattle.zn_model.specs.declared.handles.Who.{Who}
use Rattle.zn_model.specs.ZoneFiles.{files_of, file_named, capacity_of}
use Rattle.zn_model.specs.Access.{writes}
use Rattle.zn_model.specs.Volume.{Mounted, Live, file_at, shown_at, capacity_at, live_at, without_live, writers_of, is_queued_through}
use Rattle.zn_model.specs.CallAnswers.{Answer, refused, answered, as_answer, unless, as_refused, busy_refusal}
use Rattle.zn_model.specs.OpenClose.{close_call, close_by, close_now, after_close, ended, unheld, open_call, open_by, open_now, after_open, opened, opening_refusal, begins_writing, is_limit}
use Rattle.zn_model.specs.Pieces.{writes as writes_of}
use Rattle.zn_model.specs.Recovery.{is_passed_on, refusal_of, found_by, told_after, failed_by, after_failure}
use Rattle.zn_model.specs.ShownStates.{showing, infos_of}
use Rattle.zn_model.specs.Truncating.{sync_call, sync_by, sync_now, syncing_refusal, after_sync, truncate_call, truncate_by, truncate_now, truncate_at_once, after_truncate}
use Rattle.zn_model.specs.Writing.{write_call, write_by, write_now, write_at_once, write_orders, after_write, area_of}
use Rattle.zn_model.specs.Reading.{read_call, read_by, read_now, read_orders, read_end, reading_refusal, after_read}
use Rattle.zn_io.specs.Files.{IsWritable, shape_of}
use Rattle.zn_volume.specs.Refusals.{power_first, live_first, file_first, refusal_in}
use Rattle.zn_volume.specs.Untroubled.{LiesOnDevice, IsUnstruck, IsUntroubled, ShowsHeld, tells_limit, reading_orders, truncating_orders, opening_orders, closing_orders, ReadAnswers, WriteAnswers, TruncateAnswers, SyncAnswers, OpenAnswers, CloseAnswers}
use Rattle.zn_volume.proofs.Untroubled.{bytes_read, zone_closes, flush_done, open_limits, truncate_limits, write_limits}
use Rattle.zn_volume.proofs.Unstruck.{IsWaiting, unstruck_waits, waits_after_all, report_answers}
use Rattle.zn_volume.proofs.Passing.{reading_passes, truncate_passes, opening_passes, WritePasses, write_passes}

-- ---- files

-- a file that may be read is there
readable_known : (m : Mounted) (f : ℕ) → LiesOnDevice m → (shown_at m.volume.inodes f).may_read ≡ true → f < length (files_of m.volume.inodes.layout)
readable_known m f lies may = elim (cases_lt f (length m.volume.inodes.shown)) [
  | inl below ↦ omega (arith, below, lies.shown)
  | inr past ↦ absurd (false≢true (sym (ap (λ (shown : Shown). shown.may_read) (get_or_past m.volume.inodes.shown f (showing 0 false false false) past)) ∙ may))
]

-- it shows no more than it has room for on its device
room_on : (m : Mounted) (f : ℕ) → LiesOnDevice m → f < length (files_of m.volume.inodes.layout) → (shown_at m.volume.inodes f).size ≤ capacity_of (shape_of m.world) (file_at m.volume.inodes f)
room_on m f lies known =
    subst (λ (shape : Shape). (shown_at m.volume.inodes f).size ≤ capacity_of shape (file_at m.volume.inodes f)) lies.shape (lies.sizes.size f known)

-- ---- checks

-- what a call through a live handle is checked for
pub checks_are : (m : Mounted) (h : Handle) (live : Live) (check : Live → Option Refusal) → m.world.powered ≡ true → live_at m.volume.handles h ≡ Some live
    → power_first m (live_first (live_at m.volume.handles h) check) ≡ check live
checks_are m h live check powered has =
    ap (λ (b : Bool). if b then live_first (live_at m.volume.handles h) check else Some PowerLost) powered ∙ ap (λ (found : Option Live). live_first found check) has

err_same : {X : Type 0} (a b : Refusal) → let r : Result X Refusal = Err a in r ≡ Err b → a ≡ b
err_same a b h = cc

-- a refusal is that of the checks, or comes behind them
checked : {X : Type 0} (check : Option Refusal) (m : Mounted) (answer : Answer X) (refusal : Refusal) → (unless (as_refused check) m answer).reply ≡ Err refusal
    → (check ≡ Some refusal) ⊎ ((check ≡ None) × (answer.reply ≡ Err refusal))
checked (Some other) m answer refusal told = inl (ap Some (err_same other refusal told))
checked None m answer refusal told = inr (refl, told)

-- ---- reads

-- the orders failed
record IsFailed (reply : Reply) : Type 0 where
  error : DevError
  is : reply ≡ Err error

read_call_is : (given : List ℕ) (m : Mounted) (h : Handle) (offset len : ℕ) (live : Live) → m.world.powered ≡ true → live_at m.volume.handles h ≡ Some live
    → read_call given m h offset len ≡ unless (as_refused (reading_refusal m.volume live offset)) m (read_now given m live.file offset len)
unfolding read_call
read_call_is given m h offset len live powered has =
    ap (λ (b : Bool). if b then read_by given (live_at m.volume.handles h) m offset len else refused PowerLost m) powered
    ∙ ap (λ (found : Option Live). read_by given found m offset len) has

after_read_fails : (reply : Reply) (m : Mounted) (f : ℕ) (bytes : List ℕ) (refusal : Refusal) → (after_read reply m f bytes).reply ≡ Err refusal → IsFailed reply
after_read_fails (Ok unit) m f bytes refusal told = absurd (cc)
after_read_fails (Err error) m f bytes refusal told = record { error = error; is = refl }

read_now_fails : (given : List ℕ) (m : Mounted) (f offset len : ℕ) (refusal : Refusal) → (read_now given m f offset len).reply ≡ Err refusal
    → IsFailed (issue_all m.world (reading_orders m.volume f offset len)).reply
unfolding read_now
read_now_fails given m f offset len refusal told = after_read_fails (issue_all m.world (reading_orders m.volume f offset len)).reply _ f _ refusal told

read_now_done : (m : Mounted) (f offset len : ℕ) (error : DevError) → LiesOnDevice m → f < length (files_of m.volume.inodes.layout) → IsUntroubled m f (reading_orders m.volume f offset len) → ShowsHeld m f
    → (issue_all m.world (reading_orders m.volume f offset len)).reply ≡ Err error → ⊥
read_now_done m f offset len error lies known u shows failed =
    bytes_read m.world (file_at m.volume.inodes f) (shown_at m.volume.inodes f) offset len lies.sound (lies.files f known) (lies.single f known) (room_on m f lies known)
    (subst (λ (shape : Shape). IsUnstruck m.world (read_orders shape (file_at m.volume.inodes f) offset (read_end (shown_at m.volume.inodes f) offset len))) lies.shape u.unstruck)
    u.zones shows.held error
    (subst (λ (shape : Shape). (issue_all m.world (read_orders shape (file_at m.volume.inodes f) offset (read_end (shown_at m.volume.inodes f) offset len))).reply ≡ Err error) lies.shape failed)

pub read_answers : (m : Mounted) → LiesOnDevice m → ReadAnswers m
read_answers m lies given h offset len live refusal has u shows told =
    let powered = u.unstruck.powered in
    let behind = ap (λ (a : Answer (List ℕ)). a.reply) (sym (read_call_is given m h offset len live powered has)) ∙ told in
    elim (checked (reading_refusal m.volume live offset) m (read_now given m live.file offset len) refusal behind) [
      | inl is ↦ checks_are m h live (λ live. reading_refusal m.volume live offset) powered has ∙ is
      | inr done ↦
          let failed = read_now_fails given m live.file offset len refusal done.1 in
          absurd (read_now_done m live.file offset len failed.error lies (readable_known m live.file lies (reading_passes m.volume live offset done.0)) u shows failed.is)
    ]

-- ---- syncs

after_sync_fails : (reply : Reply) (m : Mounted) (f : ℕ) (refusal : Refusal) → (after_sync reply m f).reply ≡ Err refusal → IsFailed reply
after_sync_fails (Ok unit) m f refusal told = absurd (cc)
after_sync_fails (Err error) m f refusal told = record { error = error; is = refl }

sync_now_fails : (m : Mounted) (f : ℕ) (refusal : Refusal) → (sync_now m f).reply ≡ Err refusal → IsFailed (issue m.world FlushAll).reply
unfolding sync_now
sync_now_fails m f refusal told = after_sync_fails (issue m.world FlushAll).reply _ f refusal told

sync_by_found : (m : Mounted) (found : Option Live) (refusal : Refusal) → IsUnstruck m.world (FlushAll ∷ []) → (sync_by found m).reply ≡ Err refusal
    → live_first found (λ live. syncing_refusal m.volume live) ≡ Some refusal
sync_by_found m None refusal unstruck told = ap Some (err_same {X = Unit {0}} BadHandle refusal told)
sync_by_found m (Some live) refusal unstruck told = elim (checked (syncing_refusal m.volume live) m (sync_now m live.file) refusal told) [
  | inl is ↦ is
  | inr done ↦
      let failed = sync_now_fails m live.file refusal done.1 in
      absurd (flush_done m.world failed.error unstruck failed.is)
]

pub sync_answers : SyncAnswers
unfolding sync_call
sync_answers m h refusal unstruck told =
    let P : Bool → Type 0 = λ b. let answer : Answer (Unit {0}) = if b then sync_by (live_at m.volume.handles h) m else refused PowerLost m in answer.reply ≡ Err refusal in
    ap (λ (b : Bool). if b then live_first (live_at m.volume.handles h) (λ live. syncing_refusal m.volume live) else Some PowerLost) unstruck.powered
    ∙ sync_by_found m (live_at m.volume.handles h) refusal unstruck (subst P unstruck.powered told)

-- ---- closes

second_true : (a b : Bool) → (a && b) ≡ true → b ≡ true
second_true true b h = h
second_true false b h = absurd (cc)

-- a file that is held open is there
held_known : (m : Mounted) (f : ℕ) → LiesOnDevice m → (shown_at m.volume.inodes f).held_open ≡ true → f < length (files_of m.volume.inodes.layout)
held_known m f lies held = elim (cases_lt f (length m.volume.inodes.shown)) [
  | inl below ↦ omega (arith, below, lies.shown)
  | inr past ↦ absurd (false≢true (sym (ap (λ (shown : Shown). shown.held_open) (get_or_past m.volume.inodes.shown f (showing 0 false false false) past)) ∙ held))
]

after_close_fails : (reply : Reply) (m : Mounted) (f : ℕ) (refusal : Refusal) → (after_close reply m f).reply ≡ Err refusal → IsFailed reply
after_close_fails (Ok unit) m f refusal told = absurd (cc)
after_close_fails (Err error) m f refusal told = record { error = error; is = refl }

-- whether a close issues its zone command
abbrev is_closing : Mounted → Live → Bool
is_closing m live = writes live.mode && (writers_of (without_live m.volume.handles live.handle) live.file == 0) && (shown_at m.volume.inodes live.file).held_open

close_now_done : (m : Mounted) (live : Live) (refusal : Refusal) → LiesOnDevice m → IsUntroubled m live.file (closing_orders m.volume live) → (close_now m live).reply ≡ Err refusal → ⊥
unfolding close_now
close_now_done m live refusal lies untroubled told = by_order (is_closing m live) refl untroubled told
  where
    by_order : (b : Bool) → is_closing m live ≡ b → IsUntroubled m live.file (if b then Manage (file_at m.volume.inodes live.file).first Close ∷ [] else [])
        → (let answer : Answer (Unit {0}) = if b then after_close (issue m.world (Manage (file_at m.volume.inodes live.file).first Close)).reply (record (unheld (ended m live.handle) live.file) { world = (issue m.world (Manage (file_at m.volume.inodes live.file).first Close)).world }) live.file
        else answered tt (ended m live.handle) in answer.reply) ≡ Err refusal → ⊥
    by_order true is u h =
        let failed = after_close_fails (issue m.world (Manage (file_at m.volume.inodes live.file).first Close)).reply _ live.file refusal h in
        let known = held_known m live.file lies (second_true _ _ is) in
        zone_closes m.world (file_at m.volume.inodes live.file) failed.error (lies.files live.file known).some u.zones u.unstruck failed.is
    by_order false is u h = cc

close_by_queued : (m : Mounted) (live : Live) (refusal : Refusal) (queued : Bool) → LiesOnDevice m → IsUntroubled m live.file (closing_orders m.volume live)
    → (let answer : Answer (Unit {0}) = if queued then refused Busy m else close_now m live in answer.reply) ≡ Err refusal → busy_refusal queued ≡ Some refusal
close_by_queued m live refusal true lies u told = ap Some (err_same {X = Unit {0}} Busy refusal told)
close_by_queued m live refusal false lies u told = absurd (close_now_done m live refusal lies u told)

close_call_is : (m : Mounted) (h : Handle) (live : Live) → m.world.powered ≡ true → live_at m.volume.handles h ≡ Some live
    → close_call m h ≡ (if is_queued_through m.volume.queue live.handle then refused Busy m else close_now m live)
unfolding close_call
close_call_is m h live powered has =
    ap (λ (b : Bool). if b then close_by (live_at m.volume.handles h) m else refused PowerLost m) powered ∙ ap (λ (found : Option Live). close_by found m) has

pub close_answers : (m : Mounted) → LiesOnDevice m → CloseAnswers m
close_answers m lies h live refusal has u told =
    checks_are m h live (λ live. busy_refusal (is_queued_through m.volume.queue live.handle)) u.unstruck.powered has
    ∙ close_by_queued m live refusal (is_queued_through m.volume.queue live.handle) lies u
    (ap (λ (a : Answer (Unit {0})). a.reply) (sym (close_call_is m h live u.unstruck.powered has)) ∙ told)

-- ---- limits

pub limit_stays : (error : DevError) → is_limit error ≡ true → is_passed_on error ≡ false
limit_stays TooManyActive limit = refl
limit_stays TooManyOpen limit = refl
limit_stays _ limit = absurd (false≢true limit)

limit_told : (error : DevError) → is_limit error ≡ true → tells_limit (refusal_of error) ≡ true
limit_told TooManyActive limit = refl
limit_told TooManyOpen limit = refl
limit_told _ limit = absurd (false≢true limit)

told_limit : (error : DevError) (refusal : Refusal) → is_limit error ≡ true → refusal_of error ≡ refusal → tells_limit refusal ≡ true
told_limit error refusal limit is = subst (λ (r : Refusal). tells_limit r ≡ true) is (limit_told error limit)

-- where no loss waits, the report that follows leaves the refusal as it is
finding_leaves : (reply : Reply) (infos : List ZoneInfo) (refusal : Refusal) → (reply ≡ Ok tt) ⊎ (reply ≡ Err Fault) → told_after (found_by reply infos) refusal ≡ refusal
finding_leaves reply infos refusal (inl is) = ap (λ (r : Reply). told_after (found_by r infos) refusal) is
finding_leaves reply infos refusal (inr is) = ap (λ (r : Reply). told_after (found_by r infos) refusal) is

limit_follows : (pending : List FaultSpec) (error : DevError) (m : Mounted) (f : ℕ) → IsWaiting pending m.world → is_limit error ≡ true → (after_failure false error m f).refusal ≡ refusal_of error
unfolding after_failure
limit_follows pending error m f waits limit =
    ap (λ (b : Bool). (failed_by b false (refusal_of error) m f).refusal) (limit_stays error limit)
    ∙ finding_leaves _ (infos_of m.world.truth (file_at m.volume.inodes f)) (refusal_of error)
    (report_answers pending m.world (file_at m.volume.inodes f).first (file_at m.volume.inodes f).zones waits)

-- a refusal that follows a limit tells it
limit_after : {X : Type 0} (pending : List FaultSpec) (error : DevError) (m : Mounted) (f : ℕ) (refusal : Refusal) → IsWaiting pending m.world → is_limit error ≡ true
    → (as_answer {X = X} (after_failure false error m f)).reply ≡ Err refusal → tells_limit refusal ≡ true
limit_after {X = X} pending error m f refusal waits limit told =
    told_limit error refusal limit (sym (limit_follows pending error m f waits limit) ∙ err_same {X = X} _ refusal told)

-- ---- opens

-- whether an open issues its zone command
abbrev is_opening : Mounted → ℕ → Mode → Bool
is_opening m f mode = begins_writing m.volume f mode && not ((shown_at m.volume.inodes f).size == capacity_at m.volume.inodes f)

after_open_limit : (reply : Reply) (m : Mounted) (key f : ℕ) (mode : Mode) (refusal : Refusal) → ((error : DevError) → reply ≡ Err error → is_limit error ≡ true) → (after_open reply m key f mode).reply ≡ Err refusal
    → tells_limit refusal ≡ true
after_open_limit (Ok unit) m key f mode refusal limit told = absurd (cc)
after_open_limit (Err error) m key f mode refusal limit told =
    told_limit error refusal (limit error refl)
    (err_same {X = Handle} (refusal_of error) refusal
    (subst (λ (b : Bool). let answer : Answer Handle = if b then refused (refusal_of error) m else as_answer (after_failure false error m f) in answer.reply ≡ Err refusal) (limit error refl) told))

open_now_limit : (m : Mounted) (key f : ℕ) (mode : Mode) (refusal : Refusal) → LiesOnDevice m → f < length (files_of m.volume.inodes.layout) → IsUntroubled m f (opening_orders m.volume f mode)
    → (open_now m key f mode).reply ≡ Err refusal → tells_limit refusal ≡ true
unfolding open_now
open_now_limit m key f mode refusal lies known untroubled told = by_order (is_opening m f mode) untroubled told
  where
    by_order : (b : Bool) → IsUntroubled m f (if b then Manage (file_at m.volume.inodes f).first Open ∷ [] else [])
        → (let answer : Answer Handle = if b then after_open (issue m.world (Manage (file_at m.volume.inodes f).first Open)).reply (record m { world = (issue m.world (Manage (file_at m.volume.inodes f).first Open)).world }) key f mode
        else opened m key f mode in answer.reply) ≡ Err refusal → tells_limit refusal ≡ true
    by_order true u h = after_open_limit (issue m.world (Manage (file_at m.volume.inodes f).first Open)).reply _ key f mode refusal
        (λ error failed. open_limits m.world (file_at m.volume.inodes f) error (lies.files f known).some u.zones u.unstruck failed) h
    by_order false u h = absurd (cc)

-- what a call on a file's path is checked for
file_checks_are : (m : Mounted) (found : Option ℕ) (f : ℕ) (check : ℕ → Option Refusal) → m.world.powered ≡ true → found ≡ Some f → power_first m (file_first found check) ≡ check f
file_checks_are m found f check powered is =
    ap (λ (b : Bool). if b then file_first found check else Some PowerLost) powered ∙ ap (λ (o : Option ℕ). file_first o check) is

open_call_is : (m : Mounted) (key : ℕ) (path : List ℕ) (mode : Mode) (who : Who) (f : ℕ) → m.world.powered ≡ true → file_named m.volume.inodes.layout path ≡ Some f
    → open_call m key path mode who ≡ unless (as_refused (opening_refusal m.world.truth.shape.max_open m.volume f mode who)) m (open_now m key f mode)
unfolding open_call
open_call_is m key path mode who f powered is =
    ap (λ (b : Bool). if b then open_by (file_named m.volume.inodes.layout path) m key mode who else refused PowerLost m) powered
    ∙ ap (λ (found : Option ℕ). open_by found m key mode who) is

pub open_answers : (m : Mounted) → LiesOnDevice m → OpenAnswers m
open_answers m lies key path mode who f refusal is u told =
    let max_open = m.world.truth.shape.max_open in
    let behind = ap (λ (a : Answer Handle). a.reply) (sym (open_call_is m key path mode who f u.unstruck.powered is)) ∙ told in
    elim (checked (opening_refusal max_open m.volume f mode who) m (open_now m key f mode) refusal behind) [
      | inl refuses ↦ inl (file_checks_are m (file_named m.volume.inodes.layout path) f (λ f. opening_refusal max_open m.volume f mode who) u.unstruck.powered is ∙ refuses)
      | inr done ↦ inr (open_now_limit m key f mode refusal lies (readable_known m f lies (opening_passes max_open m.volume f mode who done.0)) u done.1)
    ]

-- ---- truncations

-- a refusal is that of checks that may answer at once, or comes behind them
checked_at_once : {X : Type 0} (check : Option (Result X Refusal)) (m : Mounted) (answer : Answer X) (refusal : Refusal) → (unless check m answer).reply ≡ Err refusal
    → (refusal_in check ≡ Some refusal) ⊎ ((check ≡ None) × (answer.reply ≡ Err refusal))
checked_at_once (Some (Ok value)) m answer refusal told = absurd (cc)
checked_at_once {X = X} (Some (Err other)) m answer refusal told = inl (ap Some (err_same {X = X} other refusal told))
checked_at_once None m answer refusal told = inr (refl, told)

after_truncate_limit : (pending : List FaultSpec) (reply : Reply) (m : Mounted) (f size : ℕ) (refusal : Refusal) → IsWaiting pending m.world → ((error : DevError) → reply ≡ Err error → is_limit error ≡ true)
    → (after_truncate reply m f size).reply ≡ Err refusal → tells_limit refusal ≡ true
after_truncate_limit pending (Ok unit) m f size refusal waits limit told = absurd (cc)
after_truncate_limit pending (Err error) m f size refusal waits limit told = limit_after {X = Unit {0}} pending error m f refusal waits (limit error refl) told

truncate_now_limit : (m : Mounted) (f size : ℕ) (refusal : Refusal) → LiesOnDevice m → f < length (files_of m.volume.inodes.layout) → IsUntroubled m f (truncating_orders m.volume f size)
    → (truncate_now m f size).reply ≡ Err refusal → tells_limit refusal ≡ true
unfolding truncate_now
truncate_now_limit m f size refusal lies known u told =
    let orders = truncating_orders m.volume f size in
    after_truncate_limit m.world.pending (issue_all m.world orders).reply _ f size refusal
    (waits_after_all m.world.pending m.world orders (unstruck_waits m.world orders u.unstruck) u.unstruck.unmet)
    (λ error failed. truncate_limits m.world (file_at m.volume.inodes f) (shown_at m.volume.inodes f) size error (lies.files f known).some u.zones u.unstruck failed) told

truncate_call_is : (m : Mounted) (h : Handle) (size : ℕ) (live : Live) → m.world.powered ≡ true → live_at m.volume.handles h ≡ Some live
    → truncate_call m h size ≡ unless (truncate_at_once m.volume live size) m (truncate_now m live.file size)
unfolding truncate_call
truncate_call_is m h size live powered has =
    ap (λ (b : Bool). if b then truncate_by (live_at m.volume.handles h) m size else refused PowerLost m) powered ∙ ap (λ (found : Option Live). truncate_by found m size) has

pub truncate_answers : (m : Mounted) → LiesOnDevice m → TruncateAnswers m
truncate_answers m lies h size live refusal has u told =
    let powered = u.unstruck.powered in
    let behind = ap (λ (a : Answer (Unit {0})). a.reply) (sym (truncate_call_is m h size live powered has)) ∙ told in
    elim (checked_at_once (truncate_at_once m.volume live size) m (truncate_now m live.file size) refusal behind) [
      | inl refuses ↦ inl (checks_are m h live (λ live. refusal_in (truncate_at_once m.volume live size)) powered has ∙ refuses)
      | inr done ↦ inr (truncate_now_limit m live.file size refusal lies (readable_known m live.file lies (truncate_passes m.volume live size done.0)) u done.1)
    ]

-- ---- writes

after_write_limit : (pending : List FaultSpec) (reply : Reply) (m : Mounted) (f len : ℕ) (refusal : Refusal) → IsWaiting pending m.world → ((error : DevError) → reply ≡ Err error → is_limit error ≡ true)
    → (after_write reply m f len).reply ≡ Err refusal → tells_limit refusal ≡ true
after_write_limit pending (Ok unit) m f len refusal waits limit told = absurd (cc)
after_write_limit pending (Err error) m f len refusal waits limit told = limit_after {X = Unit {0}} pending error m f refusal waits (limit error refl) told

-- the orders of a write fail for a limit alone
write_orders_limit : (m : Mounted) (f offset : ℕ) (bytes : List ℕ) (error : DevError) → LiesOnDevice m → WritePasses m.volume f offset (length bytes) → IsUntroubled m f (write_orders m.volume f offset bytes) → ShowsHeld m f
    → (issue_all m.world (write_orders m.volume f offset bytes)).reply ≡ Err error → is_limit error ≡ true
write_orders_limit m f offset bytes error lies passed u shows failed =
    let file = file_at m.volume.inodes f in
    let known = readable_known m f lies passed.may_read in
    write_limits m.world file (shown_at m.volume.inodes f) offset bytes error (lies.files f known) (lies.single f known)
    (subst (λ (shape : Shape). IsWritable shape (file_at m.volume.inodes f) (shown_at m.volume.inodes f) offset (length bytes)) lies.shape passed.writable) passed.at_end u.zones shows.held
    (subst (λ (shape : Shape). IsUnstruck m.world (writes_of (area_of shape (file_at m.volume.inodes f) offset (length bytes)) bytes)) lies.shape u.unstruck)
    (subst (λ (shape : Shape). (issue_all m.world (writes_of (area_of shape (file_at m.volume.inodes f) offset (length bytes)) bytes)).reply ≡ Err error) lies.shape failed)

write_now_limit : (m : Mounted) (f offset : ℕ) (bytes : List ℕ) (refusal : Refusal) → LiesOnDevice m → WritePasses m.volume f offset (length bytes) → IsUntroubled m f (write_orders m.volume f offset bytes) → ShowsHeld m f
    → (write_now m f offset bytes).reply ≡ Err refusal → tells_limit refusal ≡ true
unfolding write_now
write_now_limit m f offset bytes refusal lies passed u shows told =
    let orders = write_orders m.volume f offset bytes in
    after_write_limit m.world.pending (issue_all m.world orders).reply _ f (length bytes) refusal
    (waits_after_all m.world.pending m.world orders (unstruck_waits m.world orders u.unstruck) u.unstruck.unmet)
    (λ error failed. write_orders_limit m f offset bytes error lies passed u shows failed) told

write_call_is : (m : Mounted) (h : Handle) (offset : ℕ) (bytes : List ℕ) (live : Live) → m.world.powered ≡ true → live_at m.volume.handles h ≡ Some live
    → write_call m h offset bytes ≡ unless (write_at_once m.volume live offset (length bytes)) m (write_now m live.file offset bytes)
unfolding write_call
write_call_is m h offset bytes live powered has =
    ap (λ (b : Bool). if b then write_by (live_at m.volume.handles h) m offset bytes else refused PowerLost m) powered ∙ ap (λ (found : Option Live). write_by found m offset bytes) has

pub write_answers : (m : Mounted) → LiesOnDevice m → WriteAnswers m
write_answers m lies h offset bytes live refusal has u shows told =
    let powered = u.unstruck.powered in
    let behind = ap (λ (a : Answer (Unit {0})). a.reply) (sym (write_call_is m h offset bytes live powered has)) ∙ told in
    elim (checked_at_once (write_at_once m.volume live offset (length bytes)) m (write_now m live.file offset bytes) refusal behind) [
      | inl refuses ↦ inl (checks_are m h live (λ live. refusal_in (write_at_once m.volume live offset (length bytes))) powered has ∙ refuses)
      | inr done ↦ inr (write_now_limit m live.file offset bytes refusal lies (write_passes m.volume live offset (length bytes) done.0) u shows done.1)
    ]
