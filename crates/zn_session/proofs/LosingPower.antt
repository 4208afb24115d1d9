-- What a line inside which the power goes is answered.
use Rattle.std.proofs.Common.{◌≡◌, ℕ, Bool, true, false, List, [], ◌∷◌, ◌++◌, length, Option, Some, None, Result, Ok, Err, refl, sym, ap, ◌∙◌}
use Rattle.std.specs.Prelude.{codes, not, ◌&&◌, ◌||◌, nat_le, is_some, is_ok, if◌then◌else◌}
use Rattle.std.specs.List.{list_any}
use Rattle.std.proofs.lemmas.Bool.{false≢true, not-false}
use Rattle.zn_truth.specs.declared.limits.TheConstants.{MAX_FAULTS}
use Rattle.zn_truth.specs.declared.Armed.{Armed}
use Rattle.zn_truth.specs.declared.Cond.{Cond}
use Rattle.zn_truth.specs.declared.Cond.TheVariants.{Good, ReadOnly, Offline}
use Rattle.zn_truth.specs.declared.DevError.{DevError}
use Rattle.zn_truth.specs.declared.DevError.TheVariants.{PowerLost as device_lost}
use Rattle.zn_truth.specs.declared.FaultSpec.{FaultSpec}
use Rattle.zn_truth.specs.declared.LossSpec.{LossSpec}
use Rattle.zn_truth.specs.declared.InjectError.TheVariants.{BadFault, TooManyFaults, PowerLost as inject_lost}
use Rattle.zn_truth.specs.Inject.{Injected, unless_bad, is_zone, is_misplaced, are_bad_cuts, is_outside, is_done_or_not, is_bad_fault, severity, inject, turn, lose_power, arm_loss, power_on}
use Rattle.zn_truth.specs.Loss.{turned}
use Rattle.zn_truth.specs.Orders.{ReadAt, Reply}
use Rattle.zn_truth.specs.OrderLists.{issue_all}
use Rattle.zn_truth.specs.Power.{lost}
use Rattle.zn_truth.specs.Truth.{Truth, zone_at}
use Rattle.zn_truth.specs.World.{World, Outcome, issue}
use Rattle.zn_truth.proofs.LossReplies.{is_loss, tells_loss}
use Rattle.zn_model.specs.declared.answers.FormatError.{FormatError}
use Rattle.zn_model.specs.declared.answers.FormatError.TheVariants.{AlreadyFormatted, PowerLost as format_lost}
use Rattle.zn_model.specs.declared.answers.MountError.{MountError}
use Rattle.zn_model.specs.declared.answers.MountError.TheVariants.{PowerLost as mount_lost}
use Rattle.zn_model.specs.declared.answers.OptError.{OptError}
use Rattle.zn_model.specs.declared.answers.Refusal.{Refusal}
use Rattle.zn_model.specs.declared.answers.Refusal.TheVariants.{PowerLost}
use Rattle.zn_model.specs.declared.answers.SuperError.{SuperError}
use Rattle.zn_model.specs.declared.answers.Why.TheVariants.{Zone0NotFull}
use Rattle.zn_model.specs.declared.files.FormatOpts.{FormatOpts}
use Rattle.zn_model.specs.declared.files.MountOpts.{MountOpts}
use Rattle.zn_model.specs.declared.handles.Handle.{Handle}
use Rattle.zn_model.specs.declared.handles.Mode.{Mode}
use Rattle.zn_model.specs.declared.handles.Who.{Who}
use Rattle.zn_model.specs.CallAnswers.{Answer}
use Rattle.zn_model.specs.Formatting.{FormatAnswer, format_error_of, format_orders, format_refused, format_ends, format_writes, may_hold_copies, format_read, format_good, format_by, format_reported, format_call, super_block_by}
use Rattle.zn_model.specs.Given.{copies_in}
use Rattle.zn_model.specs.Looks.{report_all}
use Rattle.zn_model.specs.Mounting.{MountAnswer, mount_error_of, is_zone0_unfull, super_block_of, closes, fresh_volume, mount_failed, not_formatted, mount_closed, mount_decoded, mount_read, mount_reported, mount_call, unmount_refusal}
use Rattle.zn_model.specs.OpenClose.{open_call, close_call}
use Rattle.zn_model.specs.Recovery.{refusal_of}
use Rattle.zn_model.specs.SuperBlock.{SuperBlock}
use Rattle.zn_model.specs.Volume.{Volume, Mounted}
use Rattle.zn_model.specs.ZoneFiles.{listing_of}
use Rattle.zn_lines.specs.Lines as lines
use Rattle.zn_lines.specs.ReplyTexts.{error_text, ok_text, refusal_name, format_error_name, mount_error_name, reply_text, plain, number_text, read_text, done_text, stat_text, list_text, attr_text}
use Rattle.zn_lines.specs.Session as session
use Rattle.zn_lines.specs.Session.{line_now, line_step, says, says_error, tells, opens, open_line, close_line, freed_by, is_busy, unmounts, formats, format_with, unless_mounted, label_in, uuid_in, features_in, mounts, mount_with, options_in, injects, zones_told, names_in, dropped_unless}
use Rattle.zn_lines.specs.Table.{Table, handle_of, with_mounted, without_number}
use Rattle.zn_volume.specs.PowerLaws.{TellsPower}
use Rattle.zn_volume.proofs.TellingPower.{order_tells, orders_tell, loss_is_told}
use Rattle.zn_session.specs.PowerLaws.{lost_text, LossIsToldByLines}

-- ---- steps

abbrev lost_reply : List ℕ
lost_reply = error_text (codes "power-lost")

-- where the power is gone, the step's text is this
record Tells (due : List ℕ) (step : session.Stepped) : Type 0 where
  lost : step.table.world.powered ≡ false → step.text ≡ due

-- a step that leaves the power on
stays : (due text : List ℕ) (table : Table) → table.world.powered ≡ true → Tells due (says text table)
stays due text table on = record { lost = λ off. absurd (false≢true (sym off ∙ on)) }

either : (due : List ℕ) (b : Bool) (x y : session.Stepped) → Tells due x → Tells due y → Tells due (if b then x else y)
either due true x y h k = h
either due false x y h k = k

-- ---- calls on the volume

answer_tells : {X : Type 0} (told : X → List ℕ) (table : Table) (answer : Answer X) → TellsPower answer → Tells lost_reply (tells told table answer)
answer_tells {X = X} told table answer h = record { lost = λ off. ap (λ (r : Result X Refusal). reply_text told refusal_name r) (h.lost.1 off) }

opened_tells : (answer : Answer Handle) (reply : Result Handle Refusal) (table : Table) (n : ℕ) → reply ≡ answer.reply → TellsPower answer → Tells lost_reply (opens answer reply table n)
opened_tells answer (Ok h) table n is tells = record { lost = λ off. absurd (cc (is, tells.lost.1 off)) }
opened_tells answer (Err refusal) table n is tells = record { lost = λ off. ap (λ (r : Refusal). error_text (refusal_name r)) (err_same refusal PowerLost (is ∙ tells.lost.1 off)) }
  where
    err_same : (a b : Refusal) → let r : Result Handle Refusal = Err a in r ≡ Err b → a ≡ b
    err_same a b e = cc

open_tells : (table : Table) (n : ℕ) (path : List ℕ) (mode : Mode) (who : Who) (m : Mounted) → table.world.powered ≡ true → Tells lost_reply (open_line table n path mode who m)
open_tells table n path mode who m on =
    let answer = open_call m 0 path mode who in
    either lost_reply (is_some (handle_of table n)) (says_error (codes "handle-in-use") table) (opens answer answer.reply table n) (stays lost_reply _ table on) (opened_tells answer answer.reply table n refl (loss_is_told.opens m 0 path mode who))

freed_world : (reply : Result (Unit {0}) Refusal) (table : Table) (n : ℕ) → (freed_by reply table n).world ≡ table.world
freed_world (Ok unit) table n = refl
freed_world (Err refusal) table n = by_test (is_busy refusal)
  where
    by_test : (b : Bool) → (if b then table else without_number table n).world ≡ table.world
    by_test true = refl
    by_test false = refl

close_tells : (table : Table) (n : ℕ) (m : Mounted) (h : Handle) → Tells lost_reply (close_line table n m h)
close_tells table n m h =
    let answer = close_call m h in
    record {
      lost = λ off.
          ap (λ (r : Result (Unit {0}) Refusal). reply_text plain refusal_name r)
          ((loss_is_told.closes m h).lost.1 (ap (λ (w : World). w.powered) (sym (freed_world answer.reply (with_mounted table answer.mounted) n)) ∙ off));
    }

unmounts_stay : (refusal : Option Refusal) (table : Table) → table.world.powered ≡ true → Tells lost_reply (unmounts refusal table)
unmounts_stay (Some refusal) table on = stays lost_reply _ table on
unmounts_stay None table on = record { lost = λ off. absurd (false≢true (sym off ∙ on)) }

-- a step on a mounted volume, and on a handle
module _ (table : Table) (on : table.world.powered ≡ true) where
  mounted_tells : (volume : Option Volume) (step : Mounted → session.Stepped) → ((m : Mounted) → Tells lost_reply (step m)) → Tells lost_reply (session.on_volume volume table step)
  mounted_tells None step each = stays lost_reply _ table on
  mounted_tells (Some v) step each = each (record { world = table.world; volume = v })

  handle_tells : (found : Option Handle) (step : Handle → session.Stepped) → ((h : Handle) → Tells lost_reply (step h)) → Tells lost_reply (session.on_handle found table step)
  handle_tells None step each = stays lost_reply _ table on
  handle_tells (Some h) step each = each h

-- ---- formats

-- a format's answer tells it just where the power is off
abbrev format_tells : FormatAnswer → Type 0
format_tells answer = answer.world.powered ≡ false → answer.reply ≡ Err format_lost

-- an error of the device that is a loss of power
format_error : (error : DevError) → is_loss error ≡ true → format_error_of error ≡ format_lost
format_error device_lost h = refl
format_error _ h = absurd (false≢true h)

refused_tells : (error : DevError) (w : World) → is_loss error ≡ not w.powered → format_tells (format_refused (format_error_of error) w)
refused_tells error w tells off = ap (λ (e : FormatError). Err e) (format_error error (tells ∙ ap not off))

ends_tell : (o : Outcome) (r : Reply) → tells_loss r ≡ not o.world.powered → format_tells (format_ends o r)
ends_tell o (Ok unit) tells off = absurd (false≢true (tells ∙ ap not off))
ends_tell o (Err error) tells off = refused_tells error o.world tells off

either_format : (b : Bool) (x y : FormatAnswer) → format_tells x → format_tells y → format_tells (if b then x else y)
either_format true x y h k = h
either_format false x y h k = k

writes_tell : (w : World) (t : Truth) (s : SuperBlock) → w.powered ≡ true → format_tells (format_writes w t s)
writes_tell w t s on = ends_tell (issue_all w (format_orders t s)) (issue_all w (format_orders t s)).reply (orders_tell w (format_orders t s) on)

-- what is done leaves the power on
done_on : (o : Outcome) → tells_loss o.reply ≡ not o.world.powered → o.reply ≡ Ok tt → o.world.powered ≡ true
done_on o tells ok = not-false o.world.powered (sym tells ∙ ap tells_loss ok)

read_tells : (given : List ℕ) (o : Outcome) (r : Reply) (t : Truth) (s : SuperBlock) (force : Bool) → r ≡ o.reply → tells_loss o.reply ≡ not o.world.powered → format_tells (format_read given o r t s force)
read_tells given o (Err error) t s force is tells = refused_tells error o.world (ap tells_loss is ∙ tells)
read_tells given o (Ok unit) t s force is tells =
    let on = done_on o tells (sym is) in
    either_format (is_ok (super_block_of (copies_in t given)) && not force) (format_refused AlreadyFormatted o.world) (format_writes o.world t s)
    (λ off. absurd (false≢true (sym off ∙ on))) (writes_tell o.world t s on)

good_tells : (given : List ℕ) (w : World) (t : Truth) (s : SuperBlock) (force : Bool) → w.powered ≡ true → format_tells (format_good given w t s force)
good_tells given w t s force on =
    let found = issue w (ReadAt 0 0 2) in
    either_format (may_hold_copies t) (format_read given found found.reply t s force) (format_writes w t s) (read_tells given found found.reply t s force refl (order_tells w (ReadAt 0 0 2))) (writes_tell w t s on)

by_tells : (given : List ℕ) (cond : Cond) (w : World) (t : Truth) (s : SuperBlock) (force : Bool) → w.powered ≡ true → format_tells (format_by given cond w t s force)
by_tells given Good w t s force on = good_tells given w t s force on
by_tells given ReadOnly w t s force on = λ off. absurd (false≢true (sym off ∙ on))
by_tells given Offline w t s force on = λ off. absurd (false≢true (sym off ∙ on))

reported_tells : (given : List ℕ) (o : Outcome) (r : Reply) (t : Truth) (s : SuperBlock) (force : Bool) → r ≡ o.reply → tells_loss o.reply ≡ not o.world.powered → format_tells (format_reported given o r t s force)
reported_tells given o (Err error) t s force is tells = refused_tells error o.world (ap tells_loss is ∙ tells)
reported_tells given o (Ok unit) t s force is tells = by_tells given (zone_at t 0).cond o.world t s force (done_on o tells (sym is))

call_tells : (given : List ℕ) (w : World) (s : SuperBlock) (force : Bool) → format_tells (format_call given w s force)
unfolding format_call
call_tells given w s force =
    let reported = issue w (report_all w.truth) in
    reported_tells given reported reported.reply w.truth s force refl (order_tells w (report_all w.truth))

formats_tell : (answer : FormatAnswer) (table : Table) → format_tells answer → Tells lost_reply (formats answer table)
formats_tell answer table h = record { lost = λ off. ap (λ (r : Result (Unit {0}) FormatError). reply_text plain format_error_name r) (h off) }

with_tells : (given : List ℕ) (label uuid : Option (List ℕ)) (opts : Result FormatOpts OptError) (force : Bool) (table : Table) → table.world.powered ≡ true → Tells lost_reply (format_with given label uuid opts force table)
with_tells given None uuid opts force table on = stays lost_reply _ table on
with_tells given (Some label) None opts force table on = stays lost_reply _ table on
with_tells given (Some label) (Some uuid) (Err error) force table on = stays lost_reply _ table on
with_tells given (Some label) (Some uuid) (Ok opts) force table on =
    formats_tell (format_call given table.world (super_block_by label uuid opts) force) table (call_tells given table.world (super_block_by label uuid opts) force)

unmounted_tells : (volume : Option Volume) (table : Table) (step : session.Stepped) → table.world.powered ≡ true → Tells lost_reply step → Tells lost_reply (unless_mounted volume table step)
unmounted_tells (Some v) table step on h = stays lost_reply _ table on
unmounted_tells None table step on h = h

-- ---- mounts

-- a mount's answer tells it just where the power is off
abbrev mount_tells : MountAnswer → Type 0
mount_tells answer = answer.world.powered ≡ false → answer.reply ≡ Err mount_lost

mount_error : (error : DevError) → is_loss error ≡ true → mount_error_of error ≡ mount_lost
mount_error device_lost h = refl
mount_error _ h = absurd (false≢true h)

failed_tells : (error : DevError) (w : World) → is_loss error ≡ not w.powered → mount_tells (mount_failed error w)
failed_tells error w tells off = ap (λ (e : MountError). Err e) (mount_error error (tells ∙ ap not off))

closed_tells : (o : Outcome) (r : Reply) (volume : Volume) → tells_loss r ≡ not o.world.powered → mount_tells (mount_closed o r volume)
closed_tells o (Ok unit) volume tells off = absurd (false≢true (tells ∙ ap not off))
closed_tells o (Err error) volume tells off = failed_tells error o.world tells off

decoded_tells : (found : Result SuperBlock SuperError) (w : World) (t : Truth) (opts : MountOpts) → w.powered ≡ true → mount_tells (mount_decoded found w t opts)
decoded_tells (Err error) w t opts on = λ off. absurd (false≢true (sym off ∙ on))
decoded_tells (Ok super_block) w t opts on = closed_tells (issue_all w (closes t)) (issue_all w (closes t)).reply (fresh_volume t super_block opts) (orders_tell w (closes t) on)

copies_tell : (given : List ℕ) (o : Outcome) (r : Reply) (t : Truth) (opts : MountOpts) → r ≡ o.reply → tells_loss o.reply ≡ not o.world.powered → mount_tells (mount_read given o r t opts)
copies_tell given o (Ok unit) t opts is tells = decoded_tells (super_block_of (copies_in t given)) o.world t opts (done_on o tells (sym is))
copies_tell given o (Err error) t opts is tells = failed_tells error o.world (ap tells_loss is ∙ tells)

either_mount : (b : Bool) (x y : MountAnswer) → mount_tells x → mount_tells y → mount_tells (if b then x else y)
either_mount true x y h k = h
either_mount false x y h k = k

looked_tells : (given : List ℕ) (o : Outcome) (r : Reply) (t : Truth) (opts : MountOpts) → r ≡ o.reply → tells_loss o.reply ≡ not o.world.powered → mount_tells (mount_reported given o r t opts)
looked_tells given o (Err error) t opts is tells = failed_tells error o.world (ap tells_loss is ∙ tells)
looked_tells given o (Ok unit) t opts is tells =
    let on = done_on o tells (sym is) in
    let found = issue o.world (ReadAt 0 0 2) in
    either_mount (is_zone0_unfull t) (not_formatted Zone0NotFull o.world) (mount_read given found found.reply t opts) (λ off. absurd (false≢true (sym off ∙ on)))
    (copies_tell given found found.reply t opts refl (order_tells o.world (ReadAt 0 0 2)))

mount_call_tells : (given : List ℕ) (w : World) (opts : MountOpts) → mount_tells (mount_call given w opts)
unfolding mount_call
mount_call_tells given w opts =
    let reported = issue w (report_all w.truth) in
    looked_tells given reported reported.reply w.truth opts refl (order_tells w (report_all w.truth))

mounts_tell : (answer : MountAnswer) (table : Table) → mount_tells answer → Tells lost_reply (mounts answer table)
mounts_tell answer table h = record { lost = λ off. ap (λ (r : Result Volume MountError). reply_text (λ volume. ok_text) mount_error_name r) (h off) }

options_tell : (given : List ℕ) (opts : Result MountOpts OptError) (table : Table) → table.world.powered ≡ true → Tells lost_reply (mount_with given opts table)
options_tell given (Err error) table on = stays lost_reply _ table on
options_tell given (Ok opts) table on = mounts_tell (mount_call given table.world opts) table (mount_call_tells given table.world opts)

-- ---- lines on the device

refusal_lost : (error : DevError) → is_loss error ≡ true → refusal_of error ≡ PowerLost
refusal_lost device_lost h = refl
refusal_lost _ h = absurd (false≢true h)

zones_tell : (r : Reply) (w after : World) (volume : Option Volume) → tells_loss r ≡ not after.powered → after.powered ≡ false → zones_told r w volume ≡ lost_reply
zones_tell (Ok unit) w after volume tells off = absurd (false≢true (tells ∙ ap not off))
zones_tell (Err error) w after volume tells off = ap (λ e. error_text (refusal_name e)) (refusal_lost error (tells ∙ ap not off))

-- what leaves the power
keeps : (table : Table) (injected : Injected) → injected.world.powered ≡ true → Tells lost_reply (injects table injected)
keeps table injected on = record { lost = λ off. absurd (false≢true (sym off ∙ on)) }

bad_keeps : (bad : Bool) (w new : World) → w.powered ≡ true → new.powered ≡ true → (unless_bad bad w new).world.powered ≡ true
bad_keeps true w new on still = on
bad_keeps false w new on still = still

fault_keeps : (w : World) (fault : FaultSpec) → w.powered ≡ true → (inject w fault).world.powered ≡ true
unfolding inject
fault_keeps w fault on = by_tests (is_bad_fault w.truth fault) (nat_le MAX_FAULTS (length w.pending))
  where
    by_tests : (bad full : Bool) → let injected : Injected = if bad then record { reply = Err BadFault; world = w }
        else if full then record { reply = Err TooManyFaults; world = w }
        else record { reply = Ok tt; world = record w { pending = w.pending ++ fault ∷ [] } } in
        injected.world.powered ≡ true
    by_tests true full = on
    by_tests false true = on
    by_tests false false = on

turn_keeps : (w : World) (z : ℕ) (to : Cond) → w.powered ≡ true → (turn w z to).world.powered ≡ true
unfolding turn
turn_keeps w z to on = by_power w.powered (not (is_zone w.truth z) || nat_le (severity to) (severity (zone_at w.truth z).cond))
  where
    by_power : (b bad : Bool) → let injected : Injected = if not b then record { reply = Err inject_lost; world = w } else unless_bad bad w (record w { truth = turned w.truth z to }) in
        injected.world.powered ≡ true
    by_power true bad = bad_keeps bad w (record w { truth = turned w.truth z to }) on on
    by_power false bad = on

armed_keeps : (w : World) (armed : Armed) → w.powered ≡ true → (arm_loss w armed).world.powered ≡ true
unfolding arm_loss
armed_keeps w armed on =
    bad_keeps (is_misplaced w.truth armed.zone.0 armed.command || are_bad_cuts w.truth armed.loss.cuts || (armed.carried_out && not (is_done_or_not armed.command)) || is_some w.armed)
    w (record w { armed = Some armed }) on on

loss_is_done : (table : Table) (loss : LossSpec) → table.world.powered ≡ true → Tells ok_text (injects table (lose_power table.world loss))
unfolding lose_power
loss_is_done table loss on = by_power table.world.powered on (are_bad_cuts table.world.truth loss.cuts || list_any (is_outside table.world.truth) loss.cuts)
  where
    w : World
    w = table.world

    by_power : (b : Bool) → b ≡ true → (bad : Bool)
        → (let world : World = table.world in
        Tells ok_text (injects table (if not b then record { reply = Err inject_lost; world = world } else unless_bad bad world (record world { truth = lost world.truth loss; powered = false }))))
    by_power true is true = record { lost = λ off. absurd (false≢true (sym off ∙ on)) }
    by_power true is false = record { lost = λ off. refl }
    by_power false is bad = absurd (false≢true is)

restored_on : (w : World) → (power_on w).powered ≡ true
unfolding power_on
restored_on w = refl

-- ---- all lines

now_tells : (given : List ℕ) (table : Table) (line : lines.Line) → table.world.powered ≡ true → Tells (lost_text line) (line_now given table line)
unfolding line_now
now_tells given table (lines.Mkfs words) on = unmounted_tells table.volume table _ on (with_tells given (label_in words.label) (uuid_in words.uuid table.entropy) (features_in words.features) words.force table on)
now_tells given table (lines.Mount text) on = unmounted_tells table.volume table _ on (options_tell given (options_in text) table on)
now_tells given table lines.Umount on = mounted_tells table on table.volume _ (λ m. unmounts_stay (unmount_refusal m) table on)
now_tells given table (lines.OpenFile n path mode who) on = mounted_tells table on table.volume _ (λ m. open_tells table n path mode who m on)
now_tells given table (lines.CloseFile n) on = mounted_tells table on table.volume _ (λ m. handle_tells table on (handle_of table n) _ (λ h. close_tells table n m h))
now_tells given table (lines.SizeOf n) on = mounted_tells table on table.volume _ (λ m. handle_tells table on (handle_of table n) _ (λ h. answer_tells number_text table _ (loss_is_told.size m h)))
now_tells given table (lines.ReadFrom n offset len) on = mounted_tells table on table.volume _ (λ m. handle_tells table on (handle_of table n) _ (λ h. answer_tells read_text table _ (loss_is_told.reads given m h offset len)))
now_tells given table (lines.WriteTo n offset runs) on = mounted_tells table on table.volume _ (λ m. handle_tells table on (handle_of table n) _ (λ h. answer_tells plain table _ (loss_is_told.writes m h offset (lines.bytes_of runs))))
now_tells given table (lines.TruncateTo n size) on = mounted_tells table on table.volume _ (λ m. handle_tells table on (handle_of table n) _ (λ h. answer_tells plain table _ (loss_is_told.truncates m h size)))
now_tells given table (lines.SyncFile n) on = mounted_tells table on table.volume _ (λ m. handle_tells table on (handle_of table n) _ (λ h. answer_tells plain table _ (loss_is_told.syncs m h)))
now_tells given table (lines.SubmitTo n offset runs) on = mounted_tells table on table.volume _ (λ m. handle_tells table on (handle_of table n) _ (λ h. answer_tells number_text table _ (loss_is_told.submits m h offset (lines.bytes_of runs))))
now_tells given table lines.Complete on = mounted_tells table on table.volume _ (λ m. answer_tells number_text table _ (loss_is_told.completes m))
now_tells given table lines.Reap on = mounted_tells table on table.volume _ (λ m. answer_tells done_text table _ (loss_is_told.reaps m))
now_tells given table (lines.StatOf path) on = mounted_tells table on table.volume _ (λ m. answer_tells (stat_text path) table _ (loss_is_told.stat m path))
now_tells given table (lines.ListOf path) on = mounted_tells table on table.volume _ (λ m. answer_tells (λ n. list_text (names_in (listing_of m.volume.inodes.layout path))) table _ (loss_is_told.entries m path))
now_tells given table lines.Attributes on = mounted_tells table on table.volume _ (λ m. answer_tells attr_text table _ (loss_is_told.attr m))
now_tells given table (lines.Changes change) on = mounted_tells table on table.volume _ (λ m. stays lost_reply _ table on)
now_tells given table lines.Zones on =
    let order = report_all table.world.truth in
    record { lost = λ off. zones_tell (issue table.world order).reply table.world (issue table.world order).world table.volume (order_tells table.world order) off }
now_tells given table (lines.FaultOn z command keep) on = keeps table _ (fault_keeps table.world _ on)
now_tells given table (lines.TurnTo z to) on = keeps table _ (turn_keeps table.world z to on)
now_tells given table (lines.PowerLoss fill cuts) on = loss_is_done table _ on
now_tells given table (lines.PowerLossIn z command carried_out fill cuts) on = keeps table _ (armed_keeps table.world _ on)
now_tells given table lines.PowerOn on = record { lost = λ off. absurd (false≢true (sym off ∙ restored_on table.world)) }

dropped_world : (b : Bool) (table : Table) → (dropped_unless b table).world ≡ table.world
dropped_world true table = refl
dropped_world false table = refl

pub loss_is_told_by_lines : LossIsToldByLines
unfolding line_step
loss_is_told_by_lines given table line on off =
    let after = (line_now given table line).table in
    (now_tells given table line on).lost (ap (λ (w : World). w.powered) (sym (dropped_world after.world.powered after)) ∙ off)
