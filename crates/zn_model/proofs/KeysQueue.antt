-- The calls that submit, complete and reap, without keys.
use Rattle.std.proofs.Common.{◌≡◌, ℕ, ◌+◌, false, List, [], ◌∷◌, length, map, Option, Some, None, Ok, Err, refl, sym, ap, ◌∙◌}
use Rattle.std.specs.Prelude.{option_map}
use Rattle.std.proofs.lemmas.List.{length-map, map-append}
use Rattle.zn_truth.specs.declared.DevError.{DevError}
use Rattle.zn_truth.specs.Orders.{Reply}
use Rattle.zn_truth.specs.OrderLists.{issue_all}
use Rattle.zn_model.specs.declared.handles.Done.{Done}
use Rattle.zn_model.specs.declared.handles.Handle.{Handle}
use Rattle.zn_model.specs.Volume.{Live, Request, Queue, Volume, Mounted, live_at}
use Rattle.zn_model.specs.Recovery.{Finding, refusal_of, is_passed_on, finding_of}
use Rattle.zn_model.specs.Writing.{write_orders}
use Rattle.zn_model.specs.Requests.{queue_refusal, submitting_refusal, submit_now, submit_by, submit_call, finished, outcome_of, complete_recovered, after_complete, complete_now, complete_by, complete_call, reap_by, reap_call}
use Rattle.zn_model.specs.CallAnswers.{Answer, answered, refused, as_refused, unless}
use Rattle.zn_model.specs.Keys.{unkeyed_handle, unkeyed_live, unkeyed_request, unkeyed_queue, unkeyed_volume, unkeyed, unkeyed_answer, IsUsedOnce}
use Rattle.zn_model.proofs.KeysFailures.{queued_blocks_unkeyed, issued_end_unkeyed, recovered_unkeyed, unless_unkeyed, chosen_unkeyed, with_power_unkeyed}
use Rattle.zn_model.proofs.KeysCalls.{on_live}

-- ---- submit

queue_refusal_unkeyed : (queue : Queue) (len : ℕ) → queue_refusal (unkeyed_queue queue) len ≡ queue_refusal queue len
queue_refusal_unkeyed queue len = rw (length-map queue.queued unkeyed_request, queued_blocks_unkeyed queue)

submitting_refusal_unkeyed : (v : Volume) (live : Live) (offset len : ℕ) → submitting_refusal (unkeyed_volume v) (unkeyed_live live) offset len ≡ submitting_refusal v live offset len
unfolding submitting_refusal
submitting_refusal_unkeyed v live offset len = rw (issued_end_unkeyed v live.file, queue_refusal_unkeyed v.queue len)

submit_now_unkeyed : (m : Mounted) (live : Live) (offset : ℕ) (bytes : List ℕ) → submit_now (unkeyed m) (unkeyed_live live) offset bytes ≡ unkeyed_answer (submit_now m live offset bytes)
submit_now_unkeyed m live offset bytes =
    let queue = m.volume.queue in
    let new : Request = record { ticket = queue.last_ticket + 1; file = live.file; handle = live.handle; offset = offset; bytes = bytes } in
    ap (λ (requests : List Request). let answer : Answer ℕ = answered (queue.last_ticket + 1) (record m { volume = record (unkeyed_volume m.volume) { queue = record { queued = requests; finished = queue.finished; last_ticket = queue.last_ticket + 1 } } }) in answer)
    (sym (map-append unkeyed_request queue.queued (new ∷ [])))

submit_by_unkeyed : (found : Option Live) (m : Mounted) (offset : ℕ) (bytes : List ℕ) → submit_by (option_map unkeyed_live found) (unkeyed m) offset bytes ≡ unkeyed_answer (submit_by found m offset bytes)
submit_by_unkeyed None m offset bytes = refl
submit_by_unkeyed (Some live) m offset bytes =
    ap (λ check. unless (as_refused check) (unkeyed m) (submit_now (unkeyed m) (unkeyed_live live) offset bytes)) (submitting_refusal_unkeyed m.volume live offset (length bytes))
    ∙ unless_unkeyed (as_refused (submitting_refusal m.volume live offset (length bytes))) m (submit_now (unkeyed m) (unkeyed_live live) offset bytes) (submit_now m live offset bytes) (submit_now_unkeyed m live offset bytes)

pub submit_unkeyed : (m : Mounted) (h : Handle) (offset : ℕ) (bytes : List ℕ) (live : Live) → IsUsedOnce m.volume → live_at m.volume.handles h ≡ Some live → submit_call (unkeyed m) (unkeyed_handle h) offset bytes ≡ unkeyed_answer (submit_call m h offset bytes)
unfolding submit_call
submit_unkeyed m h offset bytes live once e = with_power_unkeyed m _ (submit_by (live_at m.volume.handles h) m offset bytes)
    (on_live (λ found. submit_by found m offset bytes) (λ found. submit_by found (unkeyed m) offset bytes) m h live once e (λ found. submit_by_unkeyed found m offset bytes))

-- ---- complete

complete_recovered_unkeyed : (found : Finding) (m : Mounted) (request : Request) (waiting : List Request) (error : DevError)
    → complete_recovered found (unkeyed m) (unkeyed_request request) (map unkeyed_request waiting) error ≡ unkeyed_answer (complete_recovered found m request waiting error)
complete_recovered_unkeyed (Err lost) m request waiting error = ap (λ (after : Mounted). let answer : Answer ℕ = refused (refusal_of lost) after in answer) (recovered_unkeyed false m request.file)
complete_recovered_unkeyed (Ok found) m request waiting error =
    ap (λ (after : Mounted). let answer : Answer ℕ = answered request.ticket after in answer)
    (recovered_unkeyed false (record m { volume = finished m.volume request waiting (outcome_of error) }) request.file)

after_complete_unkeyed : (reply : Reply) (m : Mounted) (request : Request) (waiting : List Request) → after_complete reply (unkeyed m) (unkeyed_request request) (map unkeyed_request waiting) ≡ unkeyed_answer (after_complete reply m request waiting)
after_complete_unkeyed (Ok unit) m request waiting = refl
after_complete_unkeyed (Err error) m request waiting =
    chosen_unkeyed (is_passed_on error) (refused (refusal_of error) (unkeyed m)) (complete_recovered (finding_of m request.file) (unkeyed m) (unkeyed_request request) (map unkeyed_request waiting) error)
    (refused (refusal_of error) m) (complete_recovered (finding_of m request.file) m request waiting error) refl (complete_recovered_unkeyed (finding_of m request.file) m request waiting error)

complete_now_unkeyed : (m : Mounted) (request : Request) (waiting : List Request) → complete_now (unkeyed m) (unkeyed_request request) (map unkeyed_request waiting) ≡ unkeyed_answer (complete_now m request waiting)
unfolding complete_now
complete_now_unkeyed m request waiting =
    let orders = issue_all m.world (write_orders m.volume request.file request.offset request.bytes) in
    after_complete_unkeyed orders.reply (record m { world = orders.world }) request waiting

complete_by_unkeyed : (requests : List Request) (m : Mounted) → complete_by (map unkeyed_request requests) (unkeyed m) ≡ unkeyed_answer (complete_by requests m)
complete_by_unkeyed [] m = refl
complete_by_unkeyed (request ∷ waiting) m = complete_now_unkeyed m request waiting

pub complete_unkeyed : (m : Mounted) → complete_call (unkeyed m) ≡ unkeyed_answer (complete_call m)
unfolding complete_call
complete_unkeyed m = with_power_unkeyed m (complete_by (map unkeyed_request m.volume.queue.queued) (unkeyed m)) (complete_by m.volume.queue.queued m) (complete_by_unkeyed m.volume.queue.queued m)

-- ---- reap

reap_by_unkeyed : (ended : List Done) (m : Mounted) → reap_by ended (unkeyed m) ≡ unkeyed_answer (reap_by ended m)
reap_by_unkeyed [] m = refl
reap_by_unkeyed (first ∷ rest) m = refl

pub reap_unkeyed : (m : Mounted) → reap_call (unkeyed m) ≡ unkeyed_answer (reap_call m)
unfolding reap_call
reap_unkeyed m = with_power_unkeyed m (reap_by m.volume.queue.finished (unkeyed m)) (reap_by m.volume.queue.finished m) (reap_by_unkeyed m.volume.queue.finished m)
