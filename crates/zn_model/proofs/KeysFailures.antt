-- Requests, and what follows a failed command, without keys.
use Rattle.std.proofs.Common.{◌≡◌, ℕ, ◌+◌, ◌/◌, Bool, true, false, List, [], ◌∷◌, ◌++◌, length, map, Option, Some, None, Result, refl, ap, ◌∙◌}
use mathlib.Core.Path.{fun_ext}
use Rattle.std.specs.Prelude.{filter, not, ◌==◌, ◌&&◌, nat_lt, count_by, if◌then◌else◌}
use Rattle.std.specs.List.{range_with_len}
use Rattle.zn_truth.specs.declared.DevError.{DevError}
use Rattle.zn_truth.specs.World.{issue}
use Rattle.zn_model.specs.declared.answers.Refusal.{Refusal}
use Rattle.zn_model.specs.declared.answers.Refusal.TheVariants.{PowerLost}
use Rattle.zn_model.specs.declared.files.Found.{Found}
use Rattle.zn_model.specs.declared.handles.Done.{Done}
use Rattle.zn_model.specs.ZoneFiles.{files_of}
use Rattle.zn_model.specs.Volume.{Request, Queue, Volume, Mounted, file_at, shown_at, wro, queued_bytes, queued_blocks, is_queued, failed, failed_request, issued_end}
use Rattle.zn_model.specs.Recovery.{Failed, told_after, volume_after, queue_after, inodes_after, applied, finding_of, report_of, recovered, failed_by, is_passed_on, refusal_of, after_failure}
use Rattle.zn_model.specs.CallAnswers.{Answer, as_answer, refused, unless, with_power}
use Rattle.zn_model.specs.Keys.{unkeyed_request, unkeyed_queue, unkeyed_volume, unkeyed, unkeyed_answer}
use Rattle.zn_model.proofs.KeysLists.{filter-map, list_any-map, sum_by-map}
use Rattle.zn_model.proofs.KeysHandles.{writers_unkeyed}

-- ---- what is counted

pub wro_unkeyed : (v : Volume) → wro (unkeyed_volume v) ≡ wro v
wro_unkeyed v =
    ap (λ (writers : ℕ → ℕ). count_by (λ f. (file_at v.inodes f).seq && nat_lt 0 (writers f)) (range_with_len 0 (length (files_of v.inodes.layout))))
    (fun_ext (λ f. writers_unkeyed v.handles f))

pub queued_bytes_unkeyed : (queue : Queue) (f : ℕ) → queued_bytes (unkeyed_queue queue) f ≡ queued_bytes queue f
queued_bytes_unkeyed queue f = sum_by-map unkeyed_request (λ (request : Request). if request.file == f then length request.bytes else 0) queue.queued

pub queued_blocks_unkeyed : (queue : Queue) → queued_blocks (unkeyed_queue queue) ≡ queued_blocks queue
queued_blocks_unkeyed queue = sum_by-map unkeyed_request (λ (request : Request). length request.bytes / 4096) queue.queued

pub is_queued_unkeyed : (queue : Queue) (f : ℕ) → is_queued (unkeyed_queue queue) f ≡ is_queued queue f
is_queued_unkeyed queue f = list_any-map unkeyed_request (λ (request : Request). request.file == f) (λ (request : Request). request.file == f) queue.queued (λ k d below. refl)

pub issued_end_unkeyed : (v : Volume) (f : ℕ) → issued_end (unkeyed_volume v) f ≡ issued_end v f
issued_end_unkeyed v f = ap (λ n. (shown_at v.inodes f).size + n) (queued_bytes_unkeyed v.queue f)

-- ---- requests that end

ended_unkeyed : (requests : List Request) → map failed_request (map unkeyed_request requests) ≡ map failed_request requests
ended_unkeyed [] = refl
ended_unkeyed (request ∷ requests) = ap (λ (rest : List Done). failed_request request ∷ rest) (ended_unkeyed requests)

pub failed_unkeyed : (queue : Queue) (f : ℕ) → failed (unkeyed_queue queue) f ≡ unkeyed_queue (failed queue f)
failed_unkeyed queue f =
    let others : Request → Bool = λ request. not (request.file == f) in
    let own : Request → Bool = λ request. request.file == f in
    let waiting : filter others (map unkeyed_request queue.queued) ≡ map unkeyed_request (filter others queue.queued) = filter-map unkeyed_request others others queue.queued (λ k d below. refl) in
    let ending : filter own (map unkeyed_request queue.queued) ≡ map unkeyed_request (filter own queue.queued) = filter-map unkeyed_request own own queue.queued (λ k d below. refl) in
    ap (λ (requests : List Request). let new : Queue = record { queued = requests; finished = queue.finished ++ map failed_request (filter own (map unkeyed_request queue.queued)); last_ticket = queue.last_ticket } in new) waiting
    ∙ ap (λ (ended : List Done). let new : Queue = record { queued = map unkeyed_request (filter others queue.queued); finished = queue.finished ++ ended; last_ticket = queue.last_ticket } in new)
    (ap (map failed_request) ending ∙ ended_unkeyed (filter own queue.queued))

-- ---- recovery

queue_after_unkeyed : (found : Option Found) (queue : Queue) (f : ℕ) → queue_after found (unkeyed_queue queue) f ≡ unkeyed_queue (queue_after found queue f)
queue_after_unkeyed None queue f = refl
queue_after_unkeyed (Some found) queue f = failed_unkeyed queue f

volume_after_unkeyed : (found : Option Found) (v : Volume) (f : ℕ) → volume_after found (unkeyed_volume v) f ≡ unkeyed_volume (volume_after found v f)
volume_after_unkeyed found v f =
    ap (λ (queue : Queue). let new : Volume = record (unkeyed_volume v) { inodes = inodes_after found v.policy v.inodes f; queue = queue } in new) (queue_after_unkeyed found v.queue f)

pub recovered_unkeyed : (after_read : Bool) (m : Mounted) (f : ℕ) → recovered after_read (unkeyed m) f ≡ unkeyed (recovered after_read m f)
unfolding recovered
recovered_unkeyed after_read m f =
    ap (λ (v : Volume). let new : Mounted = record { world = (issue m.world (report_of (file_at m.volume.inodes f))).world; volume = v } in new)
    (volume_after_unkeyed (applied after_read (finding_of m f) (shown_at m.volume.inodes f)) m.volume f)

abbrev pub unkeyed_failed : Failed → Failed
unkeyed_failed after = record after { mounted = unkeyed after.mounted }

failed_by_unkeyed : (passed_on after_read : Bool) (refusal : Refusal) (m : Mounted) (f : ℕ) → failed_by passed_on after_read refusal (unkeyed m) f ≡ unkeyed_failed (failed_by passed_on after_read refusal m f)
failed_by_unkeyed true after_read refusal m f = refl
failed_by_unkeyed false after_read refusal m f =
    ap (λ (after : Mounted). let new : Failed = record { refusal = told_after (finding_of m f) refusal; mounted = after } in new) (recovered_unkeyed after_read m f)

pub after_failure_unkeyed : (after_read : Bool) (error : DevError) (m : Mounted) (f : ℕ) → after_failure after_read error (unkeyed m) f ≡ unkeyed_failed (after_failure after_read error m f)
unfolding after_failure
after_failure_unkeyed after_read error m f = failed_by_unkeyed (is_passed_on error) after_read (refusal_of error) m f

-- ---- answers

module _ {X : Type 0} where
  pub as_answer_unkeyed : (after_read : Bool) (error : DevError) (m : Mounted) (f : ℕ) → as_answer {X = X} (after_failure after_read error (unkeyed m) f) ≡ unkeyed_answer (as_answer (after_failure after_read error m f))
  as_answer_unkeyed after_read error m f = ap (as_answer {X = X}) (after_failure_unkeyed after_read error m f)

  pub unless_unkeyed : (check : Option (Result X Refusal)) (m : Mounted) (plain keyed : Answer X) → plain ≡ unkeyed_answer keyed → unless check (unkeyed m) plain ≡ unkeyed_answer (unless check m keyed)
  unless_unkeyed (Some reply) m plain keyed e = refl
  unless_unkeyed None m plain keyed e = e

  pub chosen_unkeyed : (b : Bool) (plain plain' keyed keyed' : Answer X) → plain ≡ unkeyed_answer keyed → plain' ≡ unkeyed_answer keyed' → (if b then plain else plain') ≡ unkeyed_answer (if b then keyed else keyed')
  chosen_unkeyed true plain plain' keyed keyed' e e' = e
  chosen_unkeyed false plain plain' keyed keyed' e e' = e'

  pub with_power_unkeyed : (m : Mounted) (plain keyed : Answer X) → plain ≡ unkeyed_answer keyed → with_power (unkeyed m) plain ≡ unkeyed_answer (with_power m keyed)
  with_power_unkeyed m plain keyed e = chosen_unkeyed m.world.powered plain (refused PowerLost (unkeyed m)) keyed (refused PowerLost m) e refl
