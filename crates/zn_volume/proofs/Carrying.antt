-- Requests in flight: submits, and what becomes of the oldest request.
use Rattle.std.proofs.Common.{◌≡◌, ℕ, ◌+◌, ◌<◌, ◌≤◌, Bool, true, false, not, cond, eqb, List, [], ◌∷◌, ◌++◌, length, map, filter, take, drop, Option, Some, None, Result, Ok, Err, refl, sym, ap, ◌∙◌, subst, inl, inr, arith, length-append, append_assoc}
use Rattle.std.specs.Prelude.{option_map, if◌then◌else◌, slice_index, is_some, IfSome, IfOk, IfErr, IsErr}
use Rattle.std.proofs.lemmas.Bool.{false≢true, not-false, eq-eqb}
use Rattle.std.proofs.lemmas.List.{take-append-le}
use Rattle.std.proofs.lemmas.Option.{same_Some}
use Rattle.zn_truth.specs.declared.DevError.{DevError}
use Rattle.zn_model.specs.declared.limits.TheConstants.{MOST_BYTES}
use Rattle.zn_truth.specs.declared.DevError.TheVariants.{PowerLost, Broken, Memory, TooManyActive, TooManyOpen}
use Rattle.zn_truth.specs.declared.Shape.{Shape}
use Rattle.zn_truth.specs.Orders.{Order, Reply}
use Rattle.zn_truth.specs.OrderLists.{issue_all}
use Rattle.zn_truth.specs.World.{World, issue}
use Rattle.zn_truth.specs.Obeying.{is_answered}
use Rattle.zn_device.specs.States.{DeviceState, Ordered}
use Rattle.zn_model.specs.declared.answers.Outcome.{Outcome}
use Rattle.zn_model.specs.declared.answers.Outcome.TheVariants.{Ok as was_done, IoError as had_io_error}
use Rattle.zn_model.specs.declared.answers.Refusal.{Refusal}
use Rattle.zn_model.specs.declared.answers.Refusal.TheVariants.{IoError, NothingQueued, PowerLost as refused_power}
use Rattle.zn_model.specs.declared.files.FileZones.{FileZones}
use Rattle.zn_model.specs.declared.files.Policy.{Policy}
use Rattle.zn_model.specs.declared.files.Shown.{Shown}
use Rattle.zn_model.specs.declared.handles.Done.{Done}
use Rattle.zn_model.specs.declared.handles.Handle.{Handle}
use Rattle.zn_model.specs.CallAnswers.{Answer, refused, answered, with_power}
use Rattle.zn_model.specs.Recovery.{Finding, finding, finding_of, refusal_of, is_passed_on, report_of, applied, inodes_after, volume_after, recovered}
use Rattle.zn_model.specs.Requests.{submit_call, submit_by, complete_by, complete_now, after_complete, complete_recovered, outcome_of, finished}
use Rattle.zn_model.specs.Volume.{Mounted, Volume, Inodes, Queue, Request, Live, live_at, file_at, shown_at, failed, failed_request as failed_request_of}
use Rattle.zn_model.specs.Pieces.{writes}
use Rattle.zn_model.specs.Writing.{area_of, write_orders, grown_volume}
use Rattle.zn_handle.specs.declared.handles.Open.{Open}
use Rattle.zn_handle.specs.HandleState.{open_of}
use Rattle.zn_queue.specs.declared.queue.Request.{Request as Told}
use Rattle.zn_queue.specs.QueueState.{request_of, with_outcome}
use Rattle.zn_io.specs.Files.{as_reply, shape_of}
use Rattle.zn_io.specs.Findings.{Recovers, is_applied}
use Rattle.zn_volume.specs.Causes.{CallCause}
use Rattle.zn_volume.specs.IoErrors.{HasIoCause, IoOutcomeCause}
use Rattle.zn_volume.specs.Refusals.{is_failure, IsRefusedBy, some_first, complete_refusal}
use Rattle.zn_volume.specs.VolumeState.{VolumeState}
use Rattle.zn_volume.proofs.Causing.{told_caused, then_caused}
use Rattle.zn_volume.proofs.Closings.{live_is}

-- ---- submit

powered_call : {X : Type 0} (m : Mounted) (answer : Answer X) → m.world.powered ≡ true → with_power m answer ≡ answer
powered_call m answer on = ap (λ (b : Bool). cond b answer (refused refused_power m)) on

-- what holds of the live handle that a call was given
of_live : (m : Mounted) (h : Handle) (on : Open) (P : Option Live → Type 0) (found : Option Live) → live_at m.volume.handles h ≡ found → Some on ≡ option_map open_of found
    → ((live : Live) → live.file ≡ on.file → live.mode ≡ on.mode → live.handle ≡ h → P (Some live)) → P found
of_live m h on P None found is each = absurd (cc)
of_live m h on P (Some live) found is each =
    let same : on ≡ open_of live = same_Some _ _ is in
    each live (ap (λ (o : Open). o.file) (sym same)) (ap (λ (o : Open). o.mode) (sym same)) (live_is m.volume.handles h live found)

pub submit_reply : (m : Mounted) (h : Handle) (on : Open) (offset : ℕ) (bytes : List ℕ) (result : Result ℕ Refusal) → m.world.powered ≡ true → Some on ≡ option_map open_of (live_at m.volume.handles h)
    → ((live : Live) → live.file ≡ on.file → live.mode ≡ on.mode → live.handle ≡ h → result ≡ (submit_by (Some live) m offset bytes).reply) → result ≡ (submit_call m h offset bytes).reply
unfolding submit_call
submit_reply m h on offset bytes result powered is each =
    of_live m h on (λ found. result ≡ (submit_by found m offset bytes).reply) (live_at m.volume.handles h) refl is each
    ∙ ap (λ (a : Answer ℕ). a.reply) (sym (powered_call m (submit_by (live_at m.volume.handles h) m offset bytes) powered))

pub submit_mounted : (m : Mounted) (h : Handle) (on : Open) (offset : ℕ) (bytes : List ℕ) (new : Mounted) → m.world.powered ≡ true → Some on ≡ option_map open_of (live_at m.volume.handles h)
    → ((live : Live) → live.file ≡ on.file → live.mode ≡ on.mode → live.handle ≡ h → new ≡ (submit_by (Some live) m offset bytes).mounted) → new ≡ (submit_call m h offset bytes).mounted
unfolding submit_call
submit_mounted m h on offset bytes new powered is each =
    of_live m h on (λ found. new ≡ (submit_by found m offset bytes).mounted) (live_at m.volume.handles h) refl is each
    ∙ ap (λ (a : Answer ℕ). a.mounted) (sym (powered_call m (submit_by (live_at m.volume.handles h) m offset bytes) powered))

-- ---- complete

-- where none waits that is the refusal; else a refusal is a failure of the device
pub complete_refused : (m : Mounted) (result : Result ℕ Refusal) → m.world.powered ≡ true → (m.volume.queue.queued ≡ [] → result ≡ Err NothingQueued)
    → ((oldest : Request) (waiting : List Request) → m.volume.queue.queued ≡ oldest ∷ waiting → IfErr result (λ refusal. is_failure refusal ≡ true)) → IsRefusedBy (complete_refusal m) result
complete_refused m result powered none failure =
    subst (λ (check : Option Refusal). IsRefusedBy check result) (sym (ap (λ (b : Bool). cond b (some_first m.volume.queue.queued NothingQueued) (Some refused_power)) powered)) (by_queue m.volume.queue.queued none failure)
  where
    by_queue : (queued : List Request) → (queued ≡ [] → result ≡ Err NothingQueued) → ((oldest : Request) (waiting : List Request) → queued ≡ oldest ∷ waiting → IfErr result (λ refusal. is_failure refusal ≡ true)) → IsRefusedBy (some_first queued NothingQueued) result
    by_queue [] none failure = record {
      refused = λ refusal is. none refl ∙ ap (λ (r : Refusal). let e : Result ℕ Refusal = Err r in e) (same_Some NothingQueued refusal is);
      passed = λ is. absurd (cc);
    }
    by_queue (oldest ∷ waiting) none failure = record {
      refused = λ refusal is. absurd (cc);
      passed = λ is refusal told. fails_so result (failure oldest waiting refl) refusal told;
    }
      where
        fails_so : (r : Result ℕ Refusal) → IfErr r (λ refusal. is_failure refusal ≡ true) → (refusal : Refusal) → r ≡ Err refusal → is_failure refusal ≡ true
        fails_so (Ok ticket) fails refusal told = absurd (cc)
        fails_so (Err other) fails refusal told = let same : other ≡ refusal = cc in subst (λ (e : Refusal). is_failure e ≡ true) same fails

-- the oldest request's orders, by their reply
pub by_orders : (m : Mounted) (oldest : Request) (waiting : List Request) (reply : Reply) (world : World) → m.volume.queue.queued ≡ oldest ∷ waiting
    → reply ≡ (issue_all m.world (write_orders m.volume oldest.file oldest.offset oldest.bytes)).reply
    → world ≡ (issue_all m.world (write_orders m.volume oldest.file oldest.offset oldest.bytes)).world
    → complete_by m.volume.queue.queued m ≡ after_complete reply (record m { world = world }) oldest waiting
unfolding complete_now
by_orders m oldest waiting reply world first replied left =
    ap (λ (l : List Request). complete_by l m) first
    ∙ ap (λ (r : Reply). after_complete r (record m { world = (issue_all m.world (write_orders m.volume oldest.file oldest.offset oldest.bytes)).world }) oldest waiting) (sym replied)
    ∙ ap (λ (w : World). after_complete reply (record m { world = w }) oldest waiting) (sym left)

-- what a failed request makes of the volume, where its failure is not passed on
pub here_is : (m : Mounted) (oldest : Request) (waiting : List Request) (error : DevError) → is_passed_on error ≡ false
    → after_complete (Err error) m oldest waiting ≡ complete_recovered (finding_of m oldest.file) m oldest waiting error
here_is m oldest waiting error here = ap (λ (b : Bool). cond b (refused (refusal_of error) m) (complete_recovered (finding_of m oldest.file) m oldest waiting error)) here

pub passed_is : (m : Mounted) (oldest : Request) (waiting : List Request) (error : DevError) → is_passed_on error ≡ true → after_complete (Err error) m oldest waiting ≡ refused (refusal_of error) m
passed_is m oldest waiting error passed = ap (λ (b : Bool). cond b (refused (refusal_of error) m) (complete_recovered (finding_of m oldest.file) m oldest waiting error)) passed

-- what an answered recovery was
answered_then : (after_read : Bool) (policy : Policy) (f : ℕ) (result : Result Bool DevError) (old new : DeviceState) (before after : Inodes)
    → Recovers after_read policy f result old new before after → new.spoilt ≡ false → is_answered (as_reply result) ≡ true
answered_then after_read policy f result old new before after step unspoilt =
    step.reported.alike ∙ not-false (is_answered step.reported.reply) (sym step.reported.caused.spoilt ∙ unspoilt)

-- a report that fails in a way that is passed on
lost_found : (finding : Finding) (m : Mounted) (oldest : Request) (waiting : List Request) (error lost : DevError) (world : World) → finding_of m oldest.file ≡ finding → as_reply {T = Bool} (Err lost) ≡ as_reply finding
    → world ≡ (issue m.world (report_of (file_at m.volume.inodes oldest.file))).world
    → complete_recovered finding m oldest waiting error ≡ refused (refusal_of lost) (record m { world = world })
unfolding recovered
lost_found (Ok found) m oldest waiting error lost world is replied left = absurd (cc)
lost_found (Err other) m oldest waiting error lost world is replied left =
    let e : other ≡ lost = cc in
    ap (λ (f : Finding). refused {X = ℕ} (refusal_of other) (record { world = (issue m.world (report_of (file_at m.volume.inodes oldest.file))).world; volume = volume_after (applied false f (shown_at m.volume.inodes oldest.file)) m.volume oldest.file })) is
    ∙ ap (λ (d : DevError). refused {X = ℕ} (refusal_of d) (record { world = (issue m.world (report_of (file_at m.volume.inodes oldest.file))).world; volume = m.volume })) e
    ∙ ap (λ (w : World). refused {X = ℕ} (refusal_of lost) (record { world = w; volume = m.volume })) (sym left)

pub lost_is : (v : Volume) (old new : DeviceState) (after : Inodes) (oldest : Request) (waiting : List Request) (error lost : DevError) (f : ℕ) → oldest.file ≡ f → is_passed_on error ≡ false
    → Recovers false v.policy f (Err lost) old new v.inodes after → new.spoilt ≡ false
    → after_complete (Err error) (record { world = old.world; volume = v }) oldest waiting ≡ refused (refusal_of lost) (record { world = new.world; volume = record v { inodes = after } })
lost_is v old new after oldest waiting error lost f is here step unspoilt =
    let m : Mounted = record { world = old.world; volume = v } in
    let there : Recovers false v.policy oldest.file (Err lost) old new v.inodes after = subst (λ (k : ℕ). Recovers false v.policy k (Err lost) old new v.inodes after) (sym is) step in
    let answered = answered_then false v.policy oldest.file (Err lost) old new v.inodes after there unspoilt in
    here_is m oldest waiting error here
    ∙ lost_found (finding_of m oldest.file) m oldest waiting error lost new.world refl (there.reply answered) (there.world answered)
    ∙ ap (λ (i : Inodes). refused {X = ℕ} (refusal_of lost) (record { world = new.world; volume = record v { inodes = i } })) (sym (there.failed refl))

-- the oldest ended so, and then the others of its file
ended_is : (v : Volume) (oldest : Request) (waiting : List Request) (outcome : Outcome) → v.queue.queued ≡ oldest ∷ waiting → with_outcome v.queue outcome ≡ (finished v oldest waiting outcome).queue
ended_is v oldest waiting outcome first =
    ap (λ (l : List Request). let q : Queue = record v.queue { queued = drop 1 l; finished = v.queue.finished ++ map (λ request. let d : Done = record { ticket = request.ticket; outcome = outcome } in d) (take 1 l) } in q) first

pub recovered_found : (finding : Finding) (m : Mounted) (oldest : Request) (waiting : List Request) (error : DevError) (changed : Bool) (world : World) (inodes : Inodes) (queue : Queue) → finding_of m oldest.file ≡ finding
    → as_reply (Ok changed) ≡ as_reply finding → world ≡ (issue m.world (report_of (file_at m.volume.inodes oldest.file))).world
    → inodes ≡ inodes_after (applied false finding (shown_at m.volume.inodes oldest.file)) m.volume.policy m.volume.inodes oldest.file
    → queue ≡ failed (finished m.volume oldest waiting (outcome_of error)).queue oldest.file
    → complete_recovered finding m oldest waiting error ≡ answered oldest.ticket (record { world = world; volume = record m.volume { inodes = inodes; queue = queue } })
unfolding recovered
recovered_found (Err lost) m oldest waiting error changed world inodes queue is replied left same ends = absurd (cc)
recovered_found (Ok found) m oldest waiting error changed world inodes queue is replied left same ends =
    ap (λ (f : Finding). answered oldest.ticket (record { world = (issue m.world (report_of (file_at m.volume.inodes oldest.file))).world; volume = volume_after (applied false f (shown_at m.volume.inodes oldest.file)) (finished m.volume oldest waiting (outcome_of error)) oldest.file })) is
    ∙ ap (λ (w : World). answered oldest.ticket (record { world = w; volume = volume_after (Some found) (finished m.volume oldest waiting (outcome_of error)) oldest.file })) (sym left)
    ∙ ap (λ (i : Inodes). answered oldest.ticket (record { world = world; volume = record m.volume { inodes = i; queue = failed (finished m.volume oldest waiting (outcome_of error)).queue oldest.file } })) (sym same)
    ∙ ap (λ (q : Queue). answered oldest.ticket (record { world = world; volume = record m.volume { inodes = inodes; queue = q } })) (sym ends)

pub recovered_is : (v : Volume) (old new : DeviceState) (after : Inodes) (queue : Queue) (oldest : Request) (waiting : List Request) (error : DevError) (changed : Bool) (f : ℕ) → v.queue.queued ≡ oldest ∷ waiting → oldest.file ≡ f → is_passed_on error ≡ false
    → Recovers false v.policy f (Ok changed) old new v.inodes after → queue ≡ failed (with_outcome v.queue (outcome_of error)) f
    → after_complete (Err error) (record { world = old.world; volume = v }) oldest waiting ≡ answered oldest.ticket (record { world = new.world; volume = record v { inodes = after; queue = queue } })
recovered_is v old new after queue oldest waiting error changed f first is here step ends =
    let m : Mounted = record { world = old.world; volume = v } in
    let there : Recovers false v.policy oldest.file (Ok changed) old new v.inodes after = subst (λ (k : ℕ). Recovers false v.policy k (Ok changed) old new v.inodes after) (sym is) step in
    let ended : queue ≡ failed (finished v oldest waiting (outcome_of error)).queue oldest.file =
    ends ∙ ap (λ (k : ℕ). failed (with_outcome v.queue (outcome_of error)) k) (sym is) ∙ ap (λ (q : Queue). failed q oldest.file) (ended_is v oldest waiting (outcome_of error) first) in
    here_is m oldest waiting error here
    ∙ recovered_found (finding_of m oldest.file) m oldest waiting error changed new.world after queue refl (there.reply refl) (there.world refl) (there.inodes refl) ended

-- a recovery that doesn't follow a read is applied, where its report is answered
applied_found : (finding : Finding) (shown : Shown) (changed : Bool) → as_reply (Ok changed) ≡ as_reply finding → is_some (applied false finding shown) ≡ true
applied_found (Ok found) shown changed replied = refl
applied_found (Err lost) shown changed replied = absurd (cc)

-- the oldest ended, and then its file's others: the requests that are left
others_left : (l : List Request) (f : ℕ) → 0 < length l → ((oldest : Request) (waiting : List Request) → l ≡ oldest ∷ waiting → oldest.file ≡ f) → filter (λ r. not (eqb r.file f)) (drop 1 l) ≡ filter (λ r. not (eqb r.file f)) l
others_left [] f some file = absurd (omega arith)
others_left (oldest ∷ waiting) f some file =
    ap (λ (b : Bool). cond (not b) (oldest ∷ filter (λ r. not (eqb r.file f)) waiting) (filter (λ r. not (eqb r.file f)) waiting)) (sym (eq-eqb oldest.file f (file oldest waiting refl)))

pub left_of : (policy : Policy) (f : ℕ) (changed : Bool) (outcome : Outcome) (old new : DeviceState) (before after : Inodes) (queue left : Queue) → Recovers false policy f (Ok changed) old new before after
    → 0 < length queue.queued → ((oldest : Request) (waiting : List Request) → queue.queued ≡ oldest ∷ waiting → oldest.file ≡ f) → left ≡ failed (with_outcome queue outcome) f
    → left.queued ≡ (if is_applied (Ok changed) then failed queue f else queue).queued
left_of policy f changed outcome old new before after queue left step some file ends =
    let always : changed ≡ true = step.applies refl ∙ applied_found (finding old.world (file_at before f)) (shown_at before f) changed (step.reply refl) in
    ap (λ (q : Queue). q.queued) ends ∙ others_left queue.queued f some file ∙ ap (λ (b : Bool). (if b then failed queue f else queue).queued) (sym always)

-- ---- causes

-- a request's orders that failed, and what followed them
pub failed_request : {X : Type 0} (orders : List Order) (error : DevError) (result : Result X Refusal) (old mid new : DeviceState) → Ordered orders (Err error) old mid
    → (is_passed_on error ≡ true → result ≡ Err (refusal_of error)) → (is_passed_on error ≡ true → new ≡ mid) → (is_passed_on error ≡ false → CallCause result mid new) → CallCause result old new
failed_request {X = X} orders error result old mid new h passed_on still caused = elim (is_passed_on error) as (λ (b : Bool). is_passed_on error ≡ b → CallCause result old new) [
  | true ↦ λ passed.
      let told : CallCause {X = X} (Err (refusal_of error)) old mid = told_caused orders error old mid h in
      subst (λ (s : DeviceState). CallCause result old s) (sym (still passed)) (subst (λ (r : Result X Refusal). CallCause r old mid) (sym (passed_on passed)) told)
  | false ↦ λ here. then_caused orders error result old mid new here h (caused here)
] refl

pub faults_later : {X : Type 0} (error : DevError) (result : Result X Refusal) (mid new : DeviceState) → (is_passed_on error ≡ true → new ≡ mid) → (is_passed_on error ≡ false → CallCause result mid new) → mid.faults ≤ new.faults
faults_later error result mid new still caused = elim (is_passed_on error) as (λ (b : Bool). is_passed_on error ≡ b → mid.faults ≤ new.faults) [
  | true ↦ λ passed. subst (λ (s : DeviceState). mid.faults ≤ s.faults) (sym (still passed)) (omega arith)
  | false ↦ λ here. (caused here).later
] refl

-- an outcome that is an input or output error, of a failure that is not passed on
outcome_io : (error : DevError) → is_passed_on error ≡ false → outcome_of error ≡ had_io_error → refusal_of error ≡ IoError
outcome_io PowerLost here is = absurd (cc)
outcome_io Broken here is = absurd (cc)
outcome_io Memory here is = absurd (cc)
outcome_io TooManyActive here is = absurd (cc)
outcome_io TooManyOpen here is = absurd (cc)
outcome_io _ here is = refl

none_behind : (l : List Done) (first : Done) (others : List Done) → l ≡ l ++ first ∷ others → ⊥
none_behind l first others is =
    let a : length l ≡ length (l ++ first ∷ others) = ap (λ (k : List Done). length k) is in
    let b : length (l ++ first ∷ others) ≡ length l + length (first ∷ others) = length-append l (first ∷ others) in
    omega (arith, a, b)

first_same : (l : List Done) (a b : Done) (xs ys : List Done) → l ++ a ∷ xs ≡ l ++ b ∷ ys → a ≡ b
first_same [] a b xs ys is = cc
first_same (d ∷ l) a b xs ys is = first_same l a b xs ys (cc)

-- where no request ended
pub unended : (old new : VolumeState) → new.volume.queue.finished ≡ old.volume.queue.finished → IoOutcomeCause old new
unended old new same = record { cause = λ oldest waiting first others was now is. absurd (none_behind old.volume.queue.finished first others (sym same ∙ now)) }

-- where the oldest ended with another outcome, or such an outcome has its cause
pub ended_so : (old new : VolumeState) (outcome : Outcome)
    → ((oldest : Request) (waiting : List Request) → old.volume.queue.queued ≡ oldest ∷ waiting → (others : List Done) × (new.volume.queue.finished ≡ old.volume.queue.finished ++ record { ticket = oldest.ticket; outcome = outcome } ∷ others))
    → ((oldest : Request) (waiting : List Request) → old.volume.queue.queued ≡ oldest ∷ waiting → outcome ≡ had_io_error → HasIoCause (file_at old.volume.inodes oldest.file) (shown_at old.volume.inodes oldest.file) old.device new.device)
    → IoOutcomeCause old new
ended_so old new outcome ends why = record {
  cause = λ oldest waiting first others was now is.
      let there = ends oldest waiting was in
      let same = first_same old.volume.queue.finished (record { ticket = oldest.ticket; outcome = outcome }) first there.0 others (sym there.1 ∙ now) in
      why oldest waiting was (ap (λ (d : Done). d.outcome) same ∙ is);
}

-- the outcomes behind a failed request, and behind one that was done
pub ended_then_failed : (queue : Queue) (oldest : Request) (waiting : List Request) (outcome : Outcome) (f : ℕ) → queue.queued ≡ oldest ∷ waiting
    → (others : List Done) × ((failed (with_outcome queue outcome) f).finished ≡ queue.finished ++ record { ticket = oldest.ticket; outcome = outcome } ∷ others)
ended_then_failed queue oldest waiting outcome f first = (
  map failed_request_of (filter (λ r. eqb r.file f) (drop 1 queue.queued)),
  append_assoc queue.finished (map (λ r. let d : Done = record { ticket = r.ticket; outcome = outcome } in d) (take 1 queue.queued)) (map failed_request_of (filter (λ r. eqb r.file f) (drop 1 queue.queued)))
      ∙ ap (λ (l : List Request). queue.finished ++ (map (λ r. let d : Done = record { ticket = r.ticket; outcome = outcome } in d) (take 1 l) ++ map failed_request_of (filter (λ r. eqb r.file f) (drop 1 queue.queued)))) first,
)

pub ended_done : (queue : Queue) (oldest : Request) (waiting : List Request) (outcome : Outcome) → queue.queued ≡ oldest ∷ waiting
    → (others : List Done) × ((with_outcome queue outcome).finished ≡ queue.finished ++ record { ticket = oldest.ticket; outcome = outcome } ∷ others)
ended_done queue oldest waiting outcome first = (
  [],
  ap (λ (l : List Request). queue.finished ++ map (λ r. let d : Done = record { ticket = r.ticket; outcome = outcome } in d) (take 1 l)) first,
)

-- ---- the oldest request, in the front of a buffer

pub oldest_there : (found : Option Told) (queued : List Request) (out rest : List ℕ) → IfSome found (λ it. queued ≡ request_of it (take it.len out) ∷ drop 1 queued) → IfSome found (λ it. it.len ≤ MOST_BYTES) → length out ≡ MOST_BYTES
    → IfSome found (λ it. queued ≡ request_of it (take it.len (out ++ rest)) ∷ drop 1 queued)
oldest_there None queued out rest is len long = tt
oldest_there (Some it) queued out rest is len long = subst (λ (l : List ℕ). queued ≡ request_of it l ∷ drop 1 queued) (sym (take-append-le it.len out rest (omega (arith, len, long)))) is

-- ---- the oldest request's orders

pub issued_so : (v : Volume) (file : FileZones) (f offset : ℕ) (bytes there : List ℕ) (reply : Reply) (old new : DeviceState) → file ≡ file_at v.inodes f → v.inodes.shape ≡ shape_of old.world → there ≡ bytes
    → Ordered (writes (area_of (shape_of old.world) file offset (length there)) there) reply old new → Ordered (write_orders v f offset bytes) reply old new
issued_so v file f offset bytes there reply old new is shape same h =
    subst (λ (l : List ℕ). Ordered (write_orders v f offset l) reply old new) same
    (subst (λ (s : Shape). Ordered (writes (area_of s (file_at v.inodes f) offset (length there)) there) reply old new) (sym shape)
    (subst (λ (z : FileZones). Ordered (writes (area_of (shape_of old.world) z offset (length there)) there) reply old new) is h))

-- a failure that spoils the device is passed on
first_answered : (error : DevError) (mid new : DeviceState) → mid.spoilt ≡ not (is_answered (Err error)) → (is_passed_on error ≡ true → new ≡ mid) → new.spoilt ≡ false → is_answered (Err error) ≡ true
first_answered Broken mid new spoilt still unspoilt = absurd (false≢true (sym unspoilt ∙ ap (λ (s : DeviceState). s.spoilt) (still refl) ∙ spoilt))
first_answered Memory mid new spoilt still unspoilt = absurd (false≢true (sym unspoilt ∙ ap (λ (s : DeviceState). s.spoilt) (still refl) ∙ spoilt))
first_answered _ mid new spoilt still unspoilt = refl

pub failed_is : (v : Volume) (old mid new : DeviceState) (oldest : Request) (waiting : List Request) (error : DevError) → v.queue.queued ≡ oldest ∷ waiting
    → Ordered (write_orders v oldest.file oldest.offset oldest.bytes) (Err error) old mid → (is_passed_on error ≡ true → new ≡ mid) → new.spoilt ≡ false
    → complete_by v.queue.queued (record { world = old.world; volume = v }) ≡ after_complete (Err error) (record { world = mid.world; volume = v }) oldest waiting
failed_is v old mid new oldest waiting error first h still unspoilt =
    let answered = first_answered error mid new h.caused.spoilt still unspoilt in
    by_orders (record { world = old.world; volume = v }) oldest waiting (Err error) mid.world first (h.obeys.reply answered) (h.obeys.world answered)

pub done_is : (v : Volume) (old new : DeviceState) (after : Inodes) (queue : Queue) (oldest : Request) (waiting : List Request) → v.queue.queued ≡ oldest ∷ waiting
    → Ordered (write_orders v oldest.file oldest.offset oldest.bytes) (Ok tt) old new → after ≡ (grown_volume v oldest.file (length oldest.bytes)).inodes → queue ≡ with_outcome v.queue was_done
    → complete_by v.queue.queued (record { world = old.world; volume = v }) ≡ answered oldest.ticket (record { world = new.world; volume = record v { inodes = after; queue = queue } })
done_is v old new after queue oldest waiting first h grows ends =
    by_orders (record { world = old.world; volume = v }) oldest waiting (Ok tt) new.world first (h.obeys.reply refl) (h.obeys.world refl)
    ∙ ap (λ (q : Queue). answered oldest.ticket (record { world = new.world; volume = record (grown_volume v oldest.file (length oldest.bytes)) { queue = q } })) (sym (ends ∙ ended_is v oldest waiting was_done first))
    ∙ ap (λ (i : Inodes). answered oldest.ticket (record { world = new.world; volume = record v { inodes = i; queue = queue } })) (sym grows)

pub first_ticket : (queued : List Request) (oldest : Request) (waiting : List Request) (ticket : ℕ) → queued ≡ oldest ∷ waiting → ticket ≡ slice_index (map (λ request. request.ticket) queued) 0 → ticket ≡ oldest.ticket
first_ticket queued oldest waiting ticket first is = is ∙ ap (λ (l : List Request). slice_index (map (λ (request : Request). request.ticket) l) 0) first

-- ---- its outcome

pub failed_outcome : (old new : VolumeState) (mid : DeviceState) (result : Result ℕ Refusal) (error : DevError) (f : ℕ) (oldest : Request) (waiting : List Request) → old.volume.queue.queued ≡ oldest ∷ waiting
    → (IsErr result → new.volume.queue ≡ old.volume.queue) → IfOk result (λ ticket. new.volume.queue ≡ failed (with_outcome old.volume.queue (outcome_of error)) f) → (is_passed_on error ≡ true → result ≡ Err (refusal_of error))
    → (refusal_of error ≡ IoError → HasIoCause (file_at old.volume.inodes oldest.file) (shown_at old.volume.inodes oldest.file) old.device mid) → mid.faults ≤ new.device.faults → IoOutcomeCause old new
failed_outcome old new mid (Err refusal) error f oldest waiting first waits ends passed_on why later = unended old new (ap (λ (q : Queue). q.finished) (waits refl))
failed_outcome old new mid (Ok ticket) error f oldest waiting first waits ends passed_on why later =
    ended_so old new (outcome_of error)
    (λ other others was.
    let there = ended_then_failed old.volume.queue other others (outcome_of error) f was in
    (there.0, ap (λ (q : Queue). q.finished) ends ∙ there.1))
    (λ other others was is.
    subst (λ (r : Request). HasIoCause (file_at old.volume.inodes r.file) (shown_at old.volume.inodes r.file) old.device new.device) (head_same (sym first ∙ was))
    (lifted (why (outcome_io error here is))))
  where
    head_same : {a b : Request} {k l : List Request} → a ∷ k ≡ b ∷ l → a ≡ b
    head_same h = cc

    here : is_passed_on error ≡ false
    here = elim (is_passed_on error) as (λ (b : Bool). is_passed_on error ≡ b → b ≡ false) [
      | true ↦ λ passed. absurd (none (passed_on passed))
      | false ↦ λ _. refl
    ] refl
      where
        none : (let r : Result ℕ Refusal = Ok ticket in r ≡ Err (refusal_of error)) → ⊥
        none h = cc

    lifted : HasIoCause (file_at old.volume.inodes oldest.file) (shown_at old.volume.inodes oldest.file) old.device mid → HasIoCause (file_at old.volume.inodes oldest.file) (shown_at old.volume.inodes oldest.file) old.device new.device
    lifted (inl rose) = inl (omega (arith, rose, later))
    lifted (inr zones) = inr zones

pub done_outcome : (old new : VolumeState) → new.volume.queue ≡ with_outcome old.volume.queue was_done → IoOutcomeCause old new
done_outcome old new ends =
    ended_so old new was_done
    (λ oldest waiting was.
    let there = ended_done old.volume.queue oldest waiting was_done was in
    (there.0, ap (λ (q : Queue). q.finished) ends ∙ there.1))
    (λ oldest waiting was is. absurd (never is))
  where
    never : was_done ≡ had_io_error → ⊥
    never h = cc
