-- Requests in flight that nothing stands against.
use Rattle.std.proofs.Common.{◌≡◌, ◌⊎◌, ℕ, Bool, true, false, eqb, List, [], ◌∷◌, ◌++◌, length, map, filter, Option, Some, None, Result, Ok, Err, refl, sym, ap, ◌∙◌, subst, inl, inr, append_assoc}
use Rattle.std.specs.Prelude.{if◌then◌else◌}
use Rattle.std.proofs.lemmas.Bool.{false≢true}
use Rattle.zn_truth.specs.declared.DevError.{DevError}
use Rattle.zn_truth.specs.declared.DevError.TheVariants.{TooManyActive, TooManyOpen, Fault}
use Rattle.zn_truth.specs.declared.Shape.{Shape}
use Rattle.zn_truth.specs.declared.ZoneInfo.{ZoneInfo}
use Rattle.zn_truth.specs.Orders.{Reply}
use Rattle.zn_truth.specs.OrderLists.{issue_all}
use Rattle.zn_truth.specs.World.{issue}
use Rattle.zn_model.specs.declared.answers.Outcome.TheVariants.{Ok as was_done}
use Rattle.zn_model.specs.declared.answers.Refusal.{Refusal}
use Rattle.zn_model.specs.declared.answers.Refusal.TheVariants.{BadHandle, PowerLost}
use Rattle.zn_model.specs.declared.files.Found.{Found}
use Rattle.zn_model.specs.declared.handles.Done.{Done}
use Rattle.zn_model.specs.CallAnswers.{Answer, refused, answered, unless, as_refused}
use Rattle.zn_model.specs.OpenClose.{is_limit}
use Rattle.zn_model.specs.Pieces.{writes as writes_of}
use Rattle.zn_model.specs.Recovery.{Finding, found_by, finding_of, report_of, applied, inodes_after}
use Rattle.zn_model.specs.Requests.{submit_call, submit_by, submit_now, submitting_refusal, complete_call, complete_by, after_complete, complete_recovered, outcome_of, finished}
use Rattle.zn_model.specs.ShownStates.{infos_of}
use Rattle.zn_model.specs.Volume.{Mounted, Queue, Request, Live, live_at, file_at, shown_at, failed, failed_request}
use Rattle.zn_model.specs.Writing.{write_orders, area_of}
use Rattle.zn_io.specs.Files.{IsWritable}
use Rattle.zn_volume.specs.Refusals.{live_first}
use Rattle.zn_volume.specs.Untroubled.{LiesOnDevice, IsUnstruck, IsUntroubled, ShowsHeld, SubmitAnswers, CompleteAnswers, IsCarriedOut, is_done_or_limit}
use Rattle.zn_volume.proofs.Answering.{limit_stays}
use Rattle.zn_volume.proofs.Carrying.{by_orders, here_is, recovered_found}
use Rattle.zn_volume.proofs.InFlight.{first_in_place, first_writable}
use Rattle.zn_volume.proofs.Unstruck.{unstruck_waits, waits_after_all, report_answers}
use Rattle.zn_volume.proofs.Untroubled.{write_limits}

-- ---- submit

err_same : {X : Type 0} (a b : Refusal) → let r : Result X Refusal = Err a in r ≡ Err b → a ≡ b
err_same a b h = cc

-- what passes the checks is queued
passed_submit : (check : Option Refusal) (m : Mounted) (live : Live) (offset : ℕ) (bytes : List ℕ) (refusal : Refusal) → (unless (as_refused check) m (submit_now m live offset bytes)).reply ≡ Err refusal → check ≡ Some refusal
passed_submit (Some other) m live offset bytes refusal told = ap Some (err_same {X = ℕ} other refusal told)
passed_submit None m live offset bytes refusal told = absurd (cc)

by_found : (found : Option Live) (m : Mounted) (offset : ℕ) (bytes : List ℕ) (refusal : Refusal) → (submit_by found m offset bytes).reply ≡ Err refusal
    → live_first found (λ live. submitting_refusal m.volume live offset (length bytes)) ≡ Some refusal
by_found None m offset bytes refusal told = ap Some (err_same {X = ℕ} BadHandle refusal told)
by_found (Some live) m offset bytes refusal told = passed_submit (submitting_refusal m.volume live offset (length bytes)) m live offset bytes refusal told

pub submit_answers : SubmitAnswers
unfolding submit_call
submit_answers m h offset bytes refusal told = by_power m.world.powered told
  where
    by_power : (on : Bool) → (let answer : Answer ℕ = if on then submit_by (live_at m.volume.handles h) m offset bytes else refused PowerLost m in answer.reply) ≡ Err refusal
        → (if on then live_first (live_at m.volume.handles h) (λ live. submitting_refusal m.volume live offset (length bytes)) else Some PowerLost) ≡ Some refusal
    by_power true told = by_found (live_at m.volume.handles h) m offset bytes refusal told
    by_power false told = ap Some (err_same {X = ℕ} PowerLost refusal told)

-- ---- complete

limit_outcome : (error : DevError) → is_limit error ≡ true → is_done_or_limit (outcome_of error) ≡ true
limit_outcome TooManyActive limit = refl
limit_outcome TooManyOpen limit = refl
limit_outcome _ limit = absurd (false≢true limit)

-- a report that is answered, or met by a fault, finds something
record IsFound (finding : Finding) : Type 0 where
  found : Found
  is : finding ≡ Ok found

finds : (reply : Reply) (infos : List ZoneInfo) → (reply ≡ Ok tt) ⊎ (reply ≡ Err Fault) → IsFound (found_by reply infos)
finds reply infos (inl is) = record { found = _; is = ap (λ (r : Reply). found_by r infos) is }
finds reply infos (inr is) = record { found = _; is = ap (λ (r : Reply). found_by r infos) is }

-- the oldest ended with a limit, and then the others of its file
limit_carried : (m after : Mounted) (oldest : Request) (waiting : List Request) (error : DevError) → after.volume ≡ m.volume → IsFound (finding_of after oldest.file) → is_limit error ≡ true
    → IsCarriedOut m oldest (after_complete (Err error) after oldest waiting)
limit_carried m after oldest waiting error same there limit =
    let inodes = inodes_after (applied false (Ok there.found) (shown_at after.volume.inodes oldest.file)) after.volume.policy after.volume.inodes oldest.file in
    let queue : Queue = failed (finished after.volume oldest waiting (outcome_of error)).queue oldest.file in
    let world = (issue after.world (report_of (file_at after.volume.inodes oldest.file))).world in
    let answer : after_complete (Err error) after oldest waiting ≡ answered oldest.ticket (record { world = world; volume = record after.volume { inodes = inodes; queue = queue } }) =
    here_is after oldest waiting error (limit_stays error limit)
    ∙ ap (λ (f : Finding). complete_recovered f after oldest waiting error) there.is
    ∙ recovered_found (Ok there.found) after oldest waiting error true world inodes queue there.is refl refl refl refl in
    subst (λ (a : Answer ℕ). IsCarriedOut m oldest a) (sym answer) (record {
      outcome = outcome_of error;
      others = map failed_request (filter (λ r. eqb r.file oldest.file) waiting);
      reply = refl;
      finished = append_assoc after.volume.queue.finished _ _ ∙ ap (λ v. v.queue.finished ++ (let d : Done = record { ticket = oldest.ticket; outcome = outcome_of error } in d) ∷ map failed_request (filter (λ r. eqb r.file oldest.file) waiting)) same;
      done = limit_outcome error limit;
    })

-- by the reply of its orders
carried : (reply : Reply) (m after : Mounted) (oldest : Request) (waiting : List Request) → after.volume ≡ m.volume → IsFound (finding_of after oldest.file) → ((error : DevError) → reply ≡ Err error → is_limit error ≡ true)
    → IsCarriedOut m oldest (after_complete reply after oldest waiting)
carried (Ok unit) m after oldest waiting same there limits = record {
  outcome = was_done;
  others = [];
  reply = refl;
  finished = ap (λ v. v.queue.finished ++ (let d : Done = record { ticket = oldest.ticket; outcome = was_done } in d) ∷ []) same;
  done = refl;
}
carried (Err error) m after oldest waiting same there limits = limit_carried m after oldest waiting error same there (limits error refl)

-- the oldest request's orders fail for a limit alone
orders_limit : (m : Mounted) (oldest : Request) (waiting : List Request) (error : DevError) → LiesOnDevice m → m.volume.queue.queued ≡ oldest ∷ waiting → IsUntroubled m oldest.file (write_orders m.volume oldest.file oldest.offset oldest.bytes)
    → ShowsHeld m oldest.file → (issue_all m.world (write_orders m.volume oldest.file oldest.offset oldest.bytes)).reply ≡ Err error → is_limit error ≡ true
orders_limit m oldest waiting error lies first u shows failed =
    let f = oldest.file in
    let file = file_at m.volume.inodes f in
    let place = first_in_place m.volume.inodes m.volume.queue.queued oldest waiting first lies.flight in
    write_limits m.world file (shown_at m.volume.inodes f) oldest.offset oldest.bytes error (lies.files f place.known) (lies.single f place.known)
    (subst (λ (shape : Shape). IsWritable shape (file_at m.volume.inodes oldest.file) (shown_at m.volume.inodes oldest.file) oldest.offset (length oldest.bytes)) lies.shape (first_writable m.volume.inodes m.volume.queue.queued oldest waiting first lies.flight))
    place.follows u.zones shows.held
    (subst (λ (shape : Shape). IsUnstruck m.world (writes_of (area_of shape (file_at m.volume.inodes oldest.file) oldest.offset (length oldest.bytes)) oldest.bytes)) lies.shape u.unstruck)
    (subst (λ (shape : Shape). (issue_all m.world (writes_of (area_of shape (file_at m.volume.inodes oldest.file) oldest.offset (length oldest.bytes)) oldest.bytes)).reply ≡ Err error) lies.shape failed)

complete_call_is : (m : Mounted) → m.world.powered ≡ true → complete_call m ≡ complete_by m.volume.queue.queued m
unfolding complete_call
complete_call_is m powered = ap (λ (b : Bool). if b then complete_by m.volume.queue.queued m else refused PowerLost m) powered

pub complete_answers : (m : Mounted) → LiesOnDevice m → CompleteAnswers m
complete_answers m lies oldest waiting first u shows =
    let orders = write_orders m.volume oldest.file oldest.offset oldest.bytes in
    let after : Mounted = record m { world = (issue_all m.world orders).world } in
    let file = file_at m.volume.inodes oldest.file in
    let waits = waits_after_all m.world.pending m.world orders (unstruck_waits m.world orders u.unstruck) u.unstruck.unmet in
    let there = finds (issue (issue_all m.world orders).world (report_of file)).reply (infos_of (issue_all m.world orders).world.truth file) (report_answers m.world.pending (issue_all m.world orders).world file.first file.zones waits) in
    subst (λ (a : Answer ℕ). IsCarriedOut m oldest a)
    (sym (complete_call_is m u.unstruck.powered ∙ by_orders m oldest waiting (issue_all m.world orders).reply (issue_all m.world orders).world first refl refl))
    (carried (issue_all m.world orders).reply m after oldest waiting refl there (λ error failed. orders_limit m oldest waiting error lies first u shows failed))
