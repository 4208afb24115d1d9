-- Writes that are queued and carried out later, oldest first. (own)
use Rattle.std.specs.Prelude.{ℕ, ◌+◌, ◌-◌, ◌/◌, false, not, ◌==◌, nat_lt, nat_le, List, [], ◌∷◌, ◌++◌, length, if◌then◌else◌, Option, Some, None, Ok, Err}
use Rattle.zn_truth.specs.declared.limits.TheConstants.{BLOCK_SIZE}
use Rattle.zn_model.specs.declared.limits.TheConstants.{MAX_REQUESTS, POOL_BLOCKS}
use Rattle.zn_truth.specs.declared.DevError.{DevError}
use Rattle.zn_truth.specs.declared.DevError.TheVariants.{TooManyActive, TooManyOpen}
use Rattle.zn_truth.specs.Orders.{Reply}
use Rattle.zn_truth.specs.OrderLists.{issue_all}
use Rattle.zn_model.specs.declared.handles.Handle.{Handle}
use Rattle.zn_model.specs.declared.handles.Done.{Done}
use Rattle.zn_model.specs.declared.answers.Outcome.{Outcome}
use Rattle.zn_model.specs.declared.answers.Outcome.TheVariants.{Ok as was_done, IoError as had_io_error, TooManyActive as had_too_many_active, TooManyOpen as had_too_many_open}
use Rattle.zn_model.specs.declared.answers.Refusal.{Refusal}
use Rattle.zn_model.specs.declared.answers.Refusal.TheVariants.{BadHandle, BadMode, Unaligned as not_aligned, QueueFull, PoolEmpty, NothingQueued, NothingDone}
use Rattle.zn_model.specs.Access.{writes}
use Rattle.zn_model.specs.Volume.{Volume, Mounted, Live, Queue, Request, file_at, shown_at, live_at, queued_blocks, issued_end}
use Rattle.zn_model.specs.Recovery.{Finding, refusal_of, is_passed_on, finding_of, recovered}
use Rattle.zn_model.specs.Writing.{area_refusal, write_orders, grown_volume}
use Rattle.zn_model.specs.CallAnswers.{Answer, refused, answered, unless, with_power, rights_refusal, or_else, as_refused}

-- ---- submit

-- room for a request, and for its blocks
abbrev pub queue_refusal : Queue → ℕ → Option Refusal
queue_refusal queue len =
    if nat_le MAX_REQUESTS (length queue.queued + length queue.finished) then Some QueueFull
    else if nat_lt (POOL_BLOCKS - queued_blocks queue) (len / BLOCK_SIZE) then Some PoolEmpty
    else None

-- a submit of no bytes counts as unaligned
abbrev pub empty_refusal : ℕ → Option Refusal
empty_refusal len = if len == 0 then Some not_aligned else None

-- the checks of a submit: those of a write, but that no bytes are unaligned, and then the room
unfoldable pub submitting_refusal : Volume → Live → ℕ → ℕ → Option Refusal
submitting_refusal v live offset len =
    if not (writes live.mode) then Some BadMode
    else or_else (rights_refusal v.inodes.read_only (shown_at v.inodes live.file))
    (or_else (empty_refusal len)
    (or_else (area_refusal v.inodes.shape (file_at v.inodes live.file) (issued_end v live.file) offset len)
    (queue_refusal v.queue len)))

-- the write waits behind all others, with the next ticket
abbrev pub submitted : Queue → Live → ℕ → List ℕ → Queue
submitted queue live offset bytes = record queue {
  queued = queue.queued ++ (record { ticket = queue.last_ticket + 1; file = live.file; handle = live.handle; offset = offset; bytes = bytes }) ∷ [];
  last_ticket = queue.last_ticket + 1;
}

-- the write is queued, without a command to the device, and its ticket is answered
abbrev pub submit_now : Mounted → Live → ℕ → List ℕ → Answer ℕ
submit_now m live offset bytes = answered (m.volume.queue.last_ticket + 1)
    (record m { volume = record m.volume { queue = submitted m.volume.queue live offset bytes } })

-- a handle that isn't live is refused; else the checks refuse, or the write is queued
abbrev pub submit_by : Option Live → Mounted → ℕ → List ℕ → Answer ℕ
submit_by None m offset bytes = refused BadHandle m
submit_by (Some live) m offset bytes = unless (as_refused (submitting_refusal m.volume live offset (length bytes))) m (submit_now m live offset bytes)

-- Queues a write, and answers its ticket: 1, 2, 3 and so on since the mount.
unfoldable pub submit_call : Mounted → Handle → ℕ → List ℕ → Answer ℕ
submit_call m h offset bytes = with_power m (submit_by (live_at m.volume.handles h) m offset bytes)

-- ---- complete

-- how a failed request ends
abbrev pub outcome_of : DevError → Outcome
outcome_of TooManyActive = had_too_many_active
outcome_of TooManyOpen = had_too_many_open
outcome_of error = had_io_error

-- the oldest request has ended so, and the others wait
abbrev pub finished : Volume → Request → List Request → Outcome → Volume
finished v request waiting outcome = record v {
  queue = record v.queue { queued = waiting; finished = v.queue.finished ++ (record { ticket = request.ticket; outcome = outcome }) ∷ [] };
}

-- A report that fails in a way that is passed on leaves the request queued; else it has its own outcome, and
-- recovery follows, which ends the file's other requests after it.
abbrev pub complete_recovered : Finding → Mounted → Request → List Request → DevError → Answer ℕ
complete_recovered (Err lost) m request waiting error = refused (refusal_of lost) (recovered false m request.file)
complete_recovered (Ok found) m request waiting error =
    answered request.ticket (recovered false (record m { volume = finished m.volume request waiting (outcome_of error) }) request.file)

-- what follows the orders of a request, by their reply
abbrev pub after_complete : Reply → Mounted → Request → List Request → Answer ℕ
after_complete (Ok unit) m request waiting =
    answered request.ticket (record m { volume = finished (grown_volume m.volume request.file (length request.bytes)) request waiting was_done })
after_complete (Err error) m request waiting =
    if is_passed_on error then refused (refusal_of error) m
    else complete_recovered (finding_of m request.file) m request waiting error

-- the request's orders go to the device, and their reply decides the rest
unfoldable pub complete_now : Mounted → Request → List Request → Answer ℕ
complete_now m request waiting =
    let orders = issue_all m.world (write_orders m.volume request.file request.offset request.bytes) in
    after_complete orders.reply (record m { world = orders.world }) request waiting

-- the first that waits is carried out; where none waits, the call is refused
abbrev pub complete_by : List Request → Mounted → Answer ℕ
complete_by [] m = refused NothingQueued m
complete_by (request ∷ waiting) m = complete_now m request waiting

-- Carries out the oldest request, without asking rights again, and answers its ticket whatever its outcome.
unfoldable pub complete_call : Mounted → Answer ℕ
complete_call m = with_power m (complete_by m.volume.queue.queued m)

-- ---- reap

-- the first outcome is taken from the queue; where there is none, the call is refused
abbrev pub reap_by : List Done → Mounted → Answer Done
reap_by [] m = refused NothingDone m
reap_by (first ∷ rest) m = answered first (record m { volume = record m.volume { queue = record m.volume.queue { finished = rest } } })

-- Takes the outcome of the request that ended first.
unfoldable pub reap_call : Mounted → Answer Done
reap_call m = with_power m (reap_by m.volume.queue.finished m)
