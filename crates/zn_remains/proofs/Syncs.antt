-- A line that syncs and says `ok` leaves every zone durable as a whole.
use Rattle.std.proofs.Common.{◌≡◌, ℕ, Bool, true, false, List, Option, Some, None, Result, Ok, Err, refl, sym, ap, subst, get_or, arith}
use Rattle.std.specs.Prelude.{codes, if◌then◌else◌}
use Rattle.zn_truth.specs.Orders.{FlushAll, Reply}
use Rattle.zn_truth.specs.World.{World, issue}
use Rattle.zn_model.specs.declared.answers.Refusal.{Refusal}
use Rattle.zn_model.specs.declared.answers.Refusal.TheVariants.{PowerLost}
use Rattle.zn_model.specs.declared.handles.Handle.{Handle}
use Rattle.zn_model.specs.CallAnswers.{Answer, unless, refused, as_refused}
use Rattle.zn_model.specs.Truncating.{syncing_refusal, after_sync, sync_now, sync_by, sync_call}
use Rattle.zn_model.specs.Volume.{Live, Volume, Mounted, live_at}
use Rattle.zn_lines.specs.Lines.{SyncFile}
use Rattle.zn_lines.specs.ReplyTexts.{refusal_name, error_text, ok_text, reply_text, plain}
use Rattle.zn_lines.specs.Session.{Stepped, on_volume, on_handle, tells, dropped_unless, line_now, line_step}
use Rattle.zn_lines.specs.Table.{Table, handle_of}
use Rattle.zn_remains.specs.Laws.{SyncMakesDurable}
use Rattle.zn_remains.specs.Remaining.{IsAllDurable}
use Rattle.zn_remains.proofs.Powers.{flush_durable}

-- ---- the call

-- a call that is answered well leaves every zone durable
abbrev Durably : Answer (Unit {0}) → Type 0
Durably answer = answer.reply ≡ Ok tt → IsAllDurable answer.mounted.world.truth

after_durable : (reply : Reply) (m : Mounted) (f : ℕ) → (reply ≡ Ok tt → IsAllDurable m.world.truth) → Durably (after_sync reply m f)
after_durable (Ok unit) m f durable ok = durable refl
after_durable (Err error) m f durable ok = absurd (cc)

now_durable : (m : Mounted) (f : ℕ) → Durably (sync_now m f)
unfolding sync_now
now_durable m f = after_durable (issue m.world FlushAll).reply (record m { world = (issue m.world FlushAll).world }) f (flush_durable m.world)

unless_durable : (check : Option Refusal) (m : Mounted) (answer : Answer (Unit {0})) → Durably answer → Durably (unless (as_refused check) m answer)
unless_durable None m answer durable ok = durable ok
unless_durable (Some refusal) m answer durable ok = absurd (cc)

by_durable : (found : Option Live) (m : Mounted) → Durably (sync_by found m)
by_durable None m ok = absurd (cc)
by_durable (Some live) m ok = unless_durable (syncing_refusal m.volume live) m (sync_now m live.file) (now_durable m live.file) ok

powered_durable : (powered : Bool) (m : Mounted) (answer : Answer (Unit {0})) → Durably answer → Durably (if powered then answer else refused PowerLost m)
powered_durable true m answer durable ok = durable ok
powered_durable false m answer durable ok = absurd (cc)

call_durable : (m : Mounted) (h : Handle) → Durably (sync_call m h)
unfolding sync_call
call_durable m h = powered_durable m.world.powered m (sync_by (live_at m.volume.handles h) m) (by_durable (live_at m.volume.handles h) m)

-- ---- the line

-- no error is told as `ok`
not_ok : (name : List ℕ) → error_text name ≡ ok_text → ⊥
not_ok name same = absurd (omega (arith, ap (λ (text : List ℕ). get_or text 0 0) same))

reply_ok : (reply : Result (Unit {0}) Refusal) → reply_text plain refusal_name reply ≡ ok_text → reply ≡ Ok tt
reply_ok (Ok unit) same = refl
reply_ok (Err refusal) same = absurd (not_ok (refusal_name refusal) same)

-- a line that says `ok` leaves every zone durable
abbrev SaysDurable : Stepped → Type 0
SaysDurable s = s.text ≡ ok_text → IsAllDurable s.table.world.truth

told_durable : (table : Table) (m : Mounted) (h : Handle) → SaysDurable (tells plain table (sync_call m h))
told_durable table m h same = call_durable m h (reply_ok (sync_call m h).reply same)

on_handle_durable : (found : Option Handle) (table : Table) (m : Mounted) → SaysDurable (on_handle found table (λ h. tells plain table (sync_call m h)))
on_handle_durable None table m same = absurd (not_ok (codes "bad-handle") same)
on_handle_durable (Some h) table m same = told_durable table m h same

on_volume_durable : (volume : Option Volume) (table : Table) (n : ℕ) → SaysDurable (on_volume volume table (λ m. on_handle (handle_of table n) table (λ h. tells plain table (sync_call m h))))
on_volume_durable None table n same = absurd (not_ok (codes "not-mounted") same)
on_volume_durable (Some v) table n same = on_handle_durable (handle_of table n) table (record { world = table.world; volume = v }) same

now_line : (given : List ℕ) (table : Table) (n : ℕ) → SaysDurable (line_now given table (SyncFile n))
unfolding line_now
now_line given table n = on_volume_durable table.volume table n

pub dropped_world : (powered : Bool) (table : Table) → (dropped_unless powered table).world ≡ table.world
dropped_world true table = refl
dropped_world false table = refl

pub sync_durable : SyncMakesDurable
unfolding line_step
sync_durable given table n same =
    let after = line_now given table (SyncFile n) in
    subst (λ (w : World). IsAllDurable w.truth) (sym (dropped_world after.table.world.powered after.table)) (now_line given table n same)
