-- The calls that submit, complete and reap.
use Rattle.std.proofs.Common.{◌≡◌, ℕ, ◌+◌, ◌≤◌, Bool, true, false, List, [], ◌∷◌, ◌++◌, length, Option, Some, None, Ok, Err, refl, sym, ap, ◌∙◌, subst, arith, eq-eqb}
use Rattle.std.specs.Prelude.{if◌then◌else◌, ◌==◌}
use Rattle.std.specs.List.{All}
use Rattle.std.proofs.lemmas.Bool.{eqb-true}
use Rattle.std.proofs.lemmas.List.Elements.{All-head, All-tail, All-push}
use Rattle.zn_truth.specs.declared.DevError.{DevError}
use Rattle.zn_truth.specs.Truth.{Geometry}
use Rattle.zn_truth.specs.Orders.{Reply}
use Rattle.zn_truth.specs.OrderLists.{issue_all}
use Rattle.zn_truth.specs.World.{World}
use Rattle.zn_model.specs.declared.answers.Refusal.{Refusal}
use Rattle.zn_model.specs.declared.handles.Done.{Done}
use Rattle.zn_model.specs.declared.handles.Handle.{Handle}
use Rattle.zn_model.specs.CallAnswers.{refused, as_refused}
use Rattle.zn_model.specs.Recovery.{Finding, refusal_of, is_passed_on, finding_of}
use Rattle.zn_model.specs.Requests.{submitting_refusal, submit_now, submit_by, submit_call, outcome_of, finished, complete_recovered, after_complete, complete_now, complete_by, complete_call, reap_by, reap_call}
use Rattle.zn_model.specs.Volume.{Live, Volume, Request, Mounted, file_at, capacity_at, shown_at, live_at}
use Rattle.zn_model.specs.Writing.{write_orders, grown_volume}
use Rattle.zn_model.proofs.KeysKept.{chosen_holds, with_power_holds}
use Rattle.zn_remains.specs.LineEvents.{in_file, in_first}
use Rattle.zn_remains.proofs.Agreement.{Agrees, IsRequestFor, Fewer, waiting_bytes, bytes-cons}
use Rattle.zn_remains.proofs.CallOrders.{OrdersOf, all_went, ended_went}
use Rattle.zn_remains.proofs.CallsOnFiles.{write_commands, writes_are, grown_agrees}
use Rattle.zn_remains.proofs.Checks.{IsSubmitFor, unless_if, submit_passed}
use Rattle.zn_remains.proofs.Reached.{reached_none}
use Rattle.zn_remains.proofs.Recovering.{Went, VolumeAgrees, went_nowhere}
use Rattle.zn_remains.proofs.Standing.{Stands}

-- ---- submit

-- a call that issues no order
abbrev pub StaysWent : Geometry → World → Mounted → Type 0
StaysWent g w after = Went g (OrdersOf g [] (λ z. false)) w after

-- the bytes that wait with one request more
bytes_more : (requests : List Request) (request : Request) (f : ℕ) → waiting_bytes (requests ++ request ∷ []) f ≡ waiting_bytes requests f + (if request.file == f then length request.bytes else 0)
bytes_more [] request f = bytes-cons request [] f ∙ omega arith
bytes_more (first ∷ requests) request f =
    let more = bytes_more requests request f in
    let here = bytes-cons first requests f in
    let there = bytes-cons first (requests ++ request ∷ []) f in
    omega (arith, more, here, there)

submitted_end : (g : Geometry) (v : Volume) (request : Request) (k : ℕ) → VolumeAgrees g v → ((file_at v.inodes request.file).seq ≡ true → (shown_at v.inodes request.file).size + waiting_bytes v.queue.queued request.file + length request.bytes ≤ capacity_at v.inodes request.file)
    → (file_at v.inodes k).seq ≡ true → (same : Bool) → (request.file == k) ≡ same → (shown_at v.inodes k).size + waiting_bytes (v.queue.queued ++ request ∷ []) k ≤ capacity_at v.inodes k
submitted_end g v request k agrees room seq true is =
    let here : request.file ≡ k = eqb-true request.file k is in
    let fits = subst (λ (n : ℕ). (file_at v.inodes n).seq ≡ true → (shown_at v.inodes n).size + waiting_bytes v.queue.queued n + length request.bytes ≤ capacity_at v.inodes n) here room seq in
    let bytes = bytes_more v.queue.queued request k ∙ ap (λ (b : Bool). waiting_bytes v.queue.queued k + (if b then length request.bytes else 0)) is in
    omega (arith, fits, bytes)
submitted_end g v request k agrees room seq false is =
    let bytes = bytes_more v.queue.queued request k ∙ ap (λ (b : Bool). waiting_bytes v.queue.queued k + (if b then length request.bytes else 0)) is in
    omega (arith, agrees.ends k seq, bytes)

-- one request more, which fits
submitted_agrees : (g : Geometry) (v : Volume) (request : Request) → VolumeAgrees g v → IsRequestFor v.inodes request
    → ((file_at v.inodes request.file).seq ≡ true → (shown_at v.inodes request.file).size + waiting_bytes v.queue.queued request.file + length request.bytes ≤ capacity_at v.inodes request.file)
    → Agrees g v.inodes (v.queue.queued ++ request ∷ [])
submitted_agrees g v request agrees fits room = record {
  files = agrees.files;
  shape = agrees.shape;
  sizes = agrees.sizes;
  ends = λ k seq. submitted_end g v request k agrees room seq (request.file == k) refl;
  held = agrees.held;
  waiting = All-push (IsRequestFor v.inodes) v.queue.queued request agrees.waiting fits;
}

submit_now_went : (g : Geometry) (m : Mounted) (live : Live) (offset : ℕ) (bytes : List ℕ) → VolumeAgrees g m.volume → IsSubmitFor m.volume live.file offset (length bytes) → StaysWent g m.world (submit_now m live offset bytes).mounted
submit_now_went g m live offset bytes agrees is =
    let request : Request = record { ticket = m.volume.queue.last_ticket + 1; file = live.file; handle = live.handle; offset = offset; bytes = bytes } in
    record {
      reached = reached_none (OrdersOf g [] (λ z. false)) m.world;
      agrees = submitted_agrees g m.volume request agrees (record { some = is.some; aligned = is.area.aligned; whole = is.area.whole; inside = is.area.inside })
          (λ seq. let end = is.area.at_end seq in omega (arith, is.area.inside, end));
    }

submit_by_went : (g : Geometry) (found : Option Live) (m : Mounted) (offset : ℕ) (bytes : List ℕ) → VolumeAgrees g m.volume → StaysWent g m.world (submit_by found m offset bytes).mounted
submit_by_went g None m offset bytes agrees = went_nowhere g (OrdersOf g [] (λ z. false)) m agrees
submit_by_went g (Some live) m offset bytes agrees =
    unless_if (StaysWent g m.world) (as_refused (submitting_refusal m.volume live offset (length bytes))) m (submit_now m live offset bytes) (went_nowhere g (OrdersOf g [] (λ z. false)) m agrees)
    (λ none. submit_now_went g m live offset bytes agrees (submit_passed m.volume live offset (length bytes) (check_none (submitting_refusal m.volume live offset (length bytes)) none)))
  where
    check_none : (check : Option Refusal) → as_refused {X = ℕ} check ≡ None → check ≡ None
    check_none None none = refl
    check_none (Some refusal) none = absurd (cc)

pub submit_went : (g : Geometry) (m : Mounted) (h : Handle) (offset : ℕ) (bytes : List ℕ) → VolumeAgrees g m.volume → StaysWent g m.world (submit_call m h offset bytes).mounted
unfolding submit_call
submit_went g m h offset bytes agrees =
    with_power_holds (StaysWent g m.world) m (submit_by (live_at m.volume.handles h) m offset bytes) (went_nowhere g (OrdersOf g [] (λ z. false)) m agrees) (submit_by_went g (live_at m.volume.handles h) m offset bytes agrees)

-- ---- complete

abbrev CompleteWent : Geometry → (ℕ → Bool) → World → Mounted → Type 0
CompleteWent g zones w after = Went g (OrdersOf g write_commands zones) w after

-- the requests behind the first
fewer_behind : (request : Request) (waiting : List Request) → Fewer (request ∷ waiting) waiting
fewer_behind request waiting f = omega (arith, bytes-cons request waiting f)

-- what waits, of which this is the first
module _ (g : Geometry) (m : Mounted) (request : Request) (waiting : List Request) (is : m.volume.queue.queued ≡ request ∷ waiting) (agrees : VolumeAgrees g m.volume) where
  all_wait : Agrees g m.volume.inodes (request ∷ waiting)
  all_wait = subst (λ (requests : List Request). Agrees g m.volume.inodes requests) is agrees

  first_fits : IsRequestFor m.volume.inodes request
  first_fits = All-head (IsRequestFor m.volume.inodes) request waiting all_wait.waiting

  behind_fit : All (IsRequestFor m.volume.inodes) waiting
  behind_fit = All-tail (IsRequestFor m.volume.inodes) request waiting all_wait.waiting

  -- the request has ended, and its file shows what it did
  behind_agrees : Agrees g m.volume.inodes waiting
  behind_agrees = record {
    files = agrees.files;
    shape = agrees.shape;
    sizes = agrees.sizes;
    ends = λ k seq. omega (arith, all_wait.ends k seq, fewer_behind request waiting k);
    held = agrees.held;
    waiting = behind_fit;
  }

  grown_behind : Agrees g (grown_volume m.volume request.file (length request.bytes)).inodes waiting
  grown_behind = grown_agrees g m.volume request.file (length request.bytes) waiting agrees
      (λ seq. let end = all_wait.ends request.file seq in
      let bytes = bytes-cons request waiting request.file ∙ ap (λ (b : Bool). (if b then length request.bytes else 0) + waiting_bytes waiting request.file) (eq-eqb request.file request.file refl) in
      omega (arith, end, bytes))
      (subst (λ (requests : List Request). Fewer requests waiting) (sym is) (fewer_behind request waiting))
      behind_fit

  recovered_went : (zones : ℕ → Bool) (found : Finding) (w : World) (error : DevError) → Stands g w → CompleteWent g zones w (complete_recovered found (record m { world = w }) request waiting error).mounted
  recovered_went zones (Err lost) w error stands = ended_went g write_commands zones false (record m { world = w }) request.file refl stands agrees
  recovered_went zones (Ok found) w error stands =
      ended_went g write_commands zones false (record { world = w; volume = finished m.volume request waiting (outcome_of error) }) request.file refl stands behind_agrees

  after_complete_went : (zones : ℕ → Bool) (reply : Reply) (w : World) → Stands g w → CompleteWent g zones w (after_complete reply (record m { world = w }) request waiting).mounted
  after_complete_went zones (Ok unit) w stands = record { reached = reached_none (OrdersOf g write_commands zones) w; agrees = grown_behind }
  after_complete_went zones (Err error) w stands =
      let now = record m { world = w } in
      chosen_holds (CompleteWent g zones w) (is_passed_on error) (refused (refusal_of error) now) (complete_recovered (finding_of now request.file) now request waiting error)
      (went_nowhere g (OrdersOf g write_commands zones) now agrees) (recovered_went zones (finding_of now request.file) w error stands)

  complete_now_went : Stands g m.world → CompleteWent g (in_file m.volume request.file) m.world (complete_now m request waiting).mounted
  unfolding complete_now
  complete_now_went stands =
      let orders = write_orders m.volume request.file request.offset request.bytes in
      let done = issue_all m.world orders in
      all_went g write_commands (in_file m.volume request.file) m.world orders (after_complete done.reply (record m { world = done.world }) request waiting).mounted stands
      (writes_are g m.volume request.file request.offset request.bytes agrees first_fits.some first_fits.aligned first_fits.whole first_fits.inside)
      (λ later. after_complete_went (in_file m.volume request.file) done.reply done.world later)

complete_by_went : (g : Geometry) (m : Mounted) (requests : List Request) → m.volume.queue.queued ≡ requests → Stands g m.world → VolumeAgrees g m.volume → CompleteWent g (in_first m.volume requests) m.world (complete_by requests m).mounted
complete_by_went g m [] is stands agrees = went_nowhere g (OrdersOf g write_commands (in_first m.volume [])) m agrees
complete_by_went g m (request ∷ waiting) is stands agrees = complete_now_went g m request waiting is agrees stands

pub complete_went : (g : Geometry) (m : Mounted) → Stands g m.world → VolumeAgrees g m.volume → CompleteWent g (in_first m.volume m.volume.queue.queued) m.world (complete_call m).mounted
unfolding complete_call
complete_went g m stands agrees =
    let requests = m.volume.queue.queued in
    with_power_holds (CompleteWent g (in_first m.volume requests) m.world) m (complete_by requests m)
    (went_nowhere g (OrdersOf g write_commands (in_first m.volume requests)) m agrees) (complete_by_went g m requests refl stands agrees)

-- ---- reap

reap_by_went : (g : Geometry) (ended : List Done) (m : Mounted) → VolumeAgrees g m.volume → StaysWent g m.world (reap_by ended m).mounted
reap_by_went g [] m agrees = went_nowhere g (OrdersOf g [] (λ z. false)) m agrees
reap_by_went g (first ∷ rest) m agrees = record { reached = reached_none (OrdersOf g [] (λ z. false)) m.world; agrees = agrees }

pub reap_went : (g : Geometry) (m : Mounted) → VolumeAgrees g m.volume → StaysWent g m.world (reap_call m).mounted
unfolding reap_call
reap_went g m agrees = with_power_holds (StaysWent g m.world) m (reap_by m.volume.queue.finished m) (went_nowhere g (OrdersOf g [] (λ z. false)) m agrees) (reap_by_went g m.volume.queue.finished m agrees)
