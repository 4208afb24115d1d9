-- The calls that submit, complete and reap keep generations used once.
use Rattle.std.proofs.Common.{◌≡◌, ℕ, ◌+◌, true, false, List, [], ◌∷◌, length, Option, Some, None, Ok, Err, refl, ap, subst, ◌∙◌}
use Rattle.std.specs.Prelude.{is_some}
use Rattle.std.specs.List.{All}
use Rattle.std.proofs.lemmas.List.Elements.{All-push, All-tail}
use Rattle.zn_truth.specs.declared.DevError.{DevError}
use Rattle.zn_truth.specs.Orders.{Reply}
use Rattle.zn_truth.specs.OrderLists.{issue_all}
use Rattle.zn_truth.proofs.Telling.{issue_all_told}
use Rattle.zn_model.specs.declared.answers.Outcome.{Outcome}
use Rattle.zn_model.specs.declared.answers.Outcome.TheVariants.{Ok as was_done}
use Rattle.zn_model.specs.declared.handles.Done.{Done}
use Rattle.zn_model.specs.declared.handles.Handle.{Handle}
use Rattle.zn_model.specs.Volume.{Live, Handles, Request, Volume, Mounted, live_at, is_same_handle}
use Rattle.zn_model.specs.Recovery.{Finding, refusal_of, is_passed_on, finding_of, recovered}
use Rattle.zn_model.specs.Writing.{write_orders, grown_volume}
use Rattle.zn_model.specs.Requests.{submitting_refusal, submit_now, submit_by, submit_call, finished, outcome_of, complete_recovered, after_complete, complete_now, complete_by, complete_call, reap_by, reap_call}
use Rattle.zn_model.specs.CallAnswers.{refused, as_refused}
use Rattle.zn_model.proofs.KeysLists.{passes-find}
use Rattle.zn_model.proofs.KeysHandles.{same_handle}
use Rattle.zn_model.proofs.KeysKept.{Keeps, Once, keeps_itself, keeps_both, recovered_keeps, chosen_holds, unless_holds, with_power_holds, with_power_keeps}

-- ---- submit

submit_now_once : (m : Mounted) (h : Handle) (live : Live) (offset : ℕ) (bytes : List ℕ) → live_at m.volume.handles h ≡ Some live → Once m → Once (submit_now m live offset bytes).mounted
submit_now_once m h live offset bytes e once =
    let handles = m.volume.handles in
    let own : live.handle ≡ h = same_handle live.handle h (passes-find (λ (l : Live). is_same_handle l.handle h) handles.live live e) in
    let some : is_some (live_at handles live.handle) ≡ true = rw own (ap (λ (found : Option Live). is_some found) e) in
    record {
      rising = once.rising;
      used = once.used;
      queued = All-push (λ (request : Request). is_some (live_at handles request.handle) ≡ true) m.volume.queue.queued
          (record { ticket = m.volume.queue.last_ticket + 1; file = live.file; handle = live.handle; offset = offset; bytes = bytes }) once.queued some;
    }

submit_by_once : (found : Option Live) (m : Mounted) (h : Handle) (offset : ℕ) (bytes : List ℕ) → live_at m.volume.handles h ≡ found → Once m → Once (submit_by found m offset bytes).mounted
submit_by_once None m h offset bytes e once = once
submit_by_once (Some live) m h offset bytes e once =
    unless_holds Once (as_refused (submitting_refusal m.volume live offset (length bytes))) m (submit_now m live offset bytes) once (submit_now_once m h live offset bytes e once)

pub submit_once : (m : Mounted) (h : Handle) (offset : ℕ) (bytes : List ℕ) → Once m → Once (submit_call m h offset bytes).mounted
unfolding submit_call
submit_once m h offset bytes once = with_power_holds Once m (submit_by (live_at m.volume.handles h) m offset bytes) once (submit_by_once (live_at m.volume.handles h) m h offset bytes refl once)

-- the handles of what is left are those
abbrev HasHandles : Handles → Mounted → Type 0
HasHandles handles after = after.volume.handles ≡ handles

submit_by_handles : (found : Option Live) (m : Mounted) (offset : ℕ) (bytes : List ℕ) → HasHandles m.volume.handles (submit_by found m offset bytes).mounted
submit_by_handles None m offset bytes = refl
submit_by_handles (Some live) m offset bytes = unless_holds (HasHandles m.volume.handles) (as_refused (submitting_refusal m.volume live offset (length bytes))) m (submit_now m live offset bytes) refl refl

pub submit_handles : (m : Mounted) (h : Handle) (offset : ℕ) (bytes : List ℕ) → (submit_call m h offset bytes).mounted.volume.handles ≡ m.volume.handles
unfolding submit_call
submit_handles m h offset bytes =
    with_power_holds (HasHandles m.volume.handles) m (submit_by (live_at m.volume.handles h) m offset bytes) refl (submit_by_handles (live_at m.volume.handles h) m offset bytes)

-- ---- complete

-- the requests that wait behind the first
behind_first : (m : Mounted) (v : Volume) (request : Request) (waiting : List Request) (outcome : Outcome) → m.volume.queue.queued ≡ request ∷ waiting → v.handles ≡ m.volume.handles
    → Keeps m (record m { volume = finished v request waiting outcome })
behind_first m v request waiting outcome e same = record {
  told = refl;
  handles = same;
  queued = λ p all. All-tail (λ (r : Request). p r ≡ true) request waiting (subst (λ (requests : List Request). All (λ (r : Request). p r ≡ true) requests) e all);
}

complete_recovered_keeps : (found : Finding) (m : Mounted) (request : Request) (waiting : List Request) (error : DevError) → m.volume.queue.queued ≡ request ∷ waiting
    → Keeps m (complete_recovered found m request waiting error).mounted
complete_recovered_keeps (Err lost) m request waiting error e = recovered_keeps false m request.file
complete_recovered_keeps (Ok found) m request waiting error e =
    let ended = record m { volume = finished m.volume request waiting (outcome_of error) } in
    keeps_both m ended (recovered false ended request.file) (behind_first m m.volume request waiting (outcome_of error) e refl) (recovered_keeps false ended request.file)

after_complete_keeps : (reply : Reply) (m : Mounted) (request : Request) (waiting : List Request) → m.volume.queue.queued ≡ request ∷ waiting → Keeps m (after_complete reply m request waiting).mounted
after_complete_keeps (Ok unit) m request waiting e = behind_first m (grown_volume m.volume request.file (length request.bytes)) request waiting was_done e refl
after_complete_keeps (Err error) m request waiting e =
    chosen_holds (Keeps m) (is_passed_on error) (refused (refusal_of error) m) (complete_recovered (finding_of m request.file) m request waiting error)
    (keeps_itself m) (complete_recovered_keeps (finding_of m request.file) m request waiting error e)

complete_now_keeps : (m : Mounted) (request : Request) (waiting : List Request) → m.volume.queue.queued ≡ request ∷ waiting → Keeps m (complete_now m request waiting).mounted
unfolding complete_now
complete_now_keeps m request waiting e =
    let orders = issue_all m.world (write_orders m.volume request.file request.offset request.bytes) in
    let keeps = after_complete_keeps orders.reply (record m { world = orders.world }) request waiting e in
    record { told = keeps.told ∙ issue_all_told m.world (write_orders m.volume request.file request.offset request.bytes); handles = keeps.handles; queued = keeps.queued }

complete_by_keeps : (requests : List Request) (m : Mounted) → m.volume.queue.queued ≡ requests → Keeps m (complete_by requests m).mounted
complete_by_keeps [] m e = keeps_itself m
complete_by_keeps (request ∷ waiting) m e = complete_now_keeps m request waiting e

pub complete_keeps : (m : Mounted) → Keeps m (complete_call m).mounted
unfolding complete_call
complete_keeps m = with_power_keeps m (complete_by m.volume.queue.queued m) (complete_by_keeps m.volume.queue.queued m refl)

-- ---- reap

reap_by_keeps : (ended : List Done) (m : Mounted) → Keeps m (reap_by ended m).mounted
reap_by_keeps [] m = keeps_itself m
reap_by_keeps (first ∷ rest) m = record { told = refl; handles = refl; queued = λ p all. all }

pub reap_keeps : (m : Mounted) → Keeps m (reap_call m).mounted
unfolding reap_call
reap_keeps m = with_power_keeps m (reap_by m.volume.queue.finished m) (reap_by_keeps m.volume.queue.finished m)
