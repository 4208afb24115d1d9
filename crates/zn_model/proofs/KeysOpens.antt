-- The calls that open and close, without keys.
use Rattle.std.proofs.Common.{◌≡◌, ℕ, Bool, true, false, List, Option, Some, None, Ok, Err, refl, sym, ap, ◌∙◌, subst}
use Rattle.std.specs.Prelude.{option_map, ◌&&◌, ◌==◌, if◌then◌else◌, IsSome}
use Rattle.std.proofs.lemmas.List.{length-map}
use Rattle.std.proofs.lemmas.List.Elements.{All-weaker}
use Rattle.zn_truth.specs.declared.DevError.{DevError}
use Rattle.zn_truth.specs.declared.ZoneOp.TheVariants.{Open, Close}
use Rattle.zn_truth.specs.Orders.{Manage, Reply}
use Rattle.zn_truth.specs.World.{issue}
use Rattle.zn_model.specs.declared.answers.Refusal.{Refusal}
use Rattle.zn_model.specs.declared.answers.Refusal.TheVariants.{Busy}
use Rattle.zn_model.specs.declared.handles.Handle.{Handle}
use Rattle.zn_model.specs.declared.handles.Mode.{Mode}
use Rattle.zn_model.specs.declared.handles.Who.{Who}
use Rattle.zn_model.specs.ZoneFiles.{file_named}
use Rattle.zn_model.specs.Access.{writes}
use Rattle.zn_model.specs.Volume.{Live, Handles, Request, Volume, Mounted, file_at, shown_at, live_at, writers_of, is_same_handle, is_queued_through, next_handle}
use Rattle.zn_model.specs.OpenClose.{begins_writing, opening_refusal, held_open, opened, is_limit, after_open, open_now, open_by, open_call, after_close, ended, unheld, close_now, close_by, close_call}
use Rattle.zn_model.specs.Recovery.{refusal_of, after_failure}
use Rattle.zn_model.specs.CallAnswers.{Answer, answered, refused, as_answer, as_refused, unless}
use Rattle.zn_model.specs.Keys.{unkeyed_handle, unkeyed_live, unkeyed_handles, unkeyed_request, unkeyed_queue, unkeyed_volume, unkeyed, unkeyed_answer, unkeyed_opened, IsUsedOnce}
use Rattle.zn_model.proofs.KeysLists.{list_any-map, All-find, passes-find}
use Rattle.zn_model.proofs.KeysHandles.{same_handle, agrees, KnownAs, IsKnown, is_known, live_at_unkeyed, writers_unkeyed, with_live_unkeyed, without_live_unkeyed}
use Rattle.zn_model.proofs.KeysFailures.{wro_unkeyed, after_failure_unkeyed, as_answer_unkeyed, chosen_unkeyed, with_power_unkeyed}

-- ---- open

begins_writing_unkeyed : (v : Volume) (f : ℕ) (mode : Mode) → begins_writing (unkeyed_volume v) f mode ≡ begins_writing v f mode
begins_writing_unkeyed v f mode = ap (λ n. v.explicit_open && writes mode && (file_at v.inodes f).seq && (n == 0)) (writers_unkeyed v.handles f)

opening_refusal_unkeyed : (max_open : ℕ) (v : Volume) (f : ℕ) (mode : Mode) (who : Who) → opening_refusal max_open (unkeyed_volume v) f mode who ≡ opening_refusal max_open v f mode who
unfolding opening_refusal
opening_refusal_unkeyed max_open v f mode who = rw (length-map v.handles.live unkeyed_live, begins_writing_unkeyed v f mode, wro_unkeyed v)

opened_unkeyed : (m : Mounted) (key f : ℕ) (mode : Mode) → opened (unkeyed m) 0 f mode ≡ unkeyed_opened (opened m key f mode)
opened_unkeyed m key f mode =
    ap (λ (handles : Handles). let new : Answer Handle = answered (next_handle (unkeyed_handles m.volume.handles) 0) (record m { volume = record (unkeyed_volume m.volume) { handles = handles } }) in new)
    (with_live_unkeyed m.volume.handles (record { handle = next_handle m.volume.handles key; file = f; mode = mode }))

refused_open : (limit : Bool) (error : DevError) (m : Mounted) (f : ℕ)
    → (if limit then refused (refusal_of error) (unkeyed m) else as_answer (after_failure false error (unkeyed m) f)) ≡ unkeyed_opened (if limit then refused (refusal_of error) m else as_answer (after_failure false error m f))
refused_open true error m f = refl
refused_open false error m f = ap (as_answer {X = Handle}) (after_failure_unkeyed false error m f)

after_open_unkeyed : (reply : Reply) (m : Mounted) (key f : ℕ) (mode : Mode) → after_open reply (unkeyed m) 0 f mode ≡ unkeyed_opened (after_open reply m key f mode)
after_open_unkeyed (Ok unit) m key f mode = opened_unkeyed (record m { volume = record m.volume { inodes = held_open m.volume.inodes f true } }) key f mode
after_open_unkeyed (Err error) m key f mode = refused_open (is_limit error) error m f

chosen_open : (b : Bool) (plain plain' : Answer Handle) (keyed keyed' : Answer Handle) → plain ≡ unkeyed_opened keyed → plain' ≡ unkeyed_opened keyed' → (if b then plain else plain') ≡ unkeyed_opened (if b then keyed else keyed')
chosen_open true plain plain' keyed keyed' e e' = e
chosen_open false plain plain' keyed keyed' e e' = e'

open_now_unkeyed : (m : Mounted) (key f : ℕ) (mode : Mode) → open_now (unkeyed m) 0 f mode ≡ unkeyed_opened (open_now m key f mode)
unfolding open_now
open_now_unkeyed m key f mode =
    let done = issue m.world (Manage (file_at m.volume.inodes f).first Open) in
    rw (begins_writing_unkeyed m.volume f mode)
    (chosen_open _ _ _ _ _ (after_open_unkeyed done.reply (record m { world = done.world }) key f mode) (opened_unkeyed m key f mode))

unless_opened : (check : Option Refusal) (m : Mounted) (plain keyed : Answer Handle) → plain ≡ unkeyed_opened keyed → unless (as_refused check) (unkeyed m) plain ≡ unkeyed_opened (unless (as_refused check) m keyed)
unless_opened (Some refusal) m plain keyed e = refl
unless_opened None m plain keyed e = e

open_by_unkeyed : (found : Option ℕ) (m : Mounted) (key : ℕ) (mode : Mode) (who : Who) → open_by found (unkeyed m) 0 mode who ≡ unkeyed_opened (open_by found m key mode who)
open_by_unkeyed None m key mode who = refl
open_by_unkeyed (Some f) m key mode who =
    ap (λ check. unless (as_refused check) (unkeyed m) (open_now (unkeyed m) 0 f mode)) (opening_refusal_unkeyed m.world.truth.shape.max_open m.volume f mode who)
    ∙ unless_opened (opening_refusal m.world.truth.shape.max_open m.volume f mode who) m (open_now (unkeyed m) 0 f mode) (open_now m key f mode) (open_now_unkeyed m key f mode)

pub open_unkeyed : (m : Mounted) (key : ℕ) (path : List ℕ) (mode : Mode) (who : Who) → open_call (unkeyed m) 0 path mode who ≡ unkeyed_opened (open_call m key path mode who)
unfolding open_call
open_unkeyed m key path mode who = chosen_open m.world.powered _ _ _ _ (open_by_unkeyed (file_named m.volume.inodes.layout path) m key mode who) refl

-- ---- close

after_close_unkeyed : (reply : Reply) (m : Mounted) (f : ℕ) → after_close reply (unkeyed m) f ≡ unkeyed_answer (after_close reply m f)
after_close_unkeyed (Ok unit) m f = refl
after_close_unkeyed (Err error) m f = as_answer_unkeyed false error m f

ended_unkeyed : (m : Mounted) (h : Handle) → IsKnown m.volume.handles.live h → ended (unkeyed m) (unkeyed_handle h) ≡ unkeyed (ended m h)
ended_unkeyed m h known = ap (λ (handles : Handles). let new : Mounted = record m { volume = record (unkeyed_volume m.volume) { handles = handles } } in new) (without_live_unkeyed m.volume.handles h known)

-- where so many writers are left, the file isn't held open any more
abbrev is_last : Mounted → Live → ℕ → Bool
is_last m live writers = writes live.mode && (writers == 0) && (shown_at m.volume.inodes live.file).held_open

-- a close of a file with so many writers left, from what the end of the handle leaves
abbrev close_from : Mounted → Mounted → Live → Answer (Unit {0})
close_from m after live =
    let done = issue m.world (Manage (file_at m.volume.inodes live.file).first Close) in
    after_close done.reply (record (unheld after live.file) { world = done.world }) live.file

abbrev closed : Mounted → Mounted → Live → ℕ → Answer (Unit {0})
closed m after live writers = if is_last m live writers then close_from m after live else answered tt after

close_from_unkeyed : (m after : Mounted) (live : Live) → close_from (unkeyed m) (unkeyed after) (unkeyed_live live) ≡ unkeyed_answer (close_from m after live)
close_from_unkeyed m after live =
    let done = issue m.world (Manage (file_at m.volume.inodes live.file).first Close) in
    after_close_unkeyed done.reply (record (unheld after live.file) { world = done.world }) live.file

closed_unkeyed : (m after : Mounted) (live : Live) → closed (unkeyed m) (unkeyed after) (unkeyed_live live) (writers_of (unkeyed after).volume.handles live.file) ≡ unkeyed_answer (closed m after live (writers_of after.volume.handles live.file))
closed_unkeyed m after live =
    ap (closed (unkeyed m) (unkeyed after) (unkeyed_live live)) (writers_unkeyed after.volume.handles live.file)
    ∙ chosen_unkeyed (is_last m live (writers_of after.volume.handles live.file)) (close_from (unkeyed m) (unkeyed after) (unkeyed_live live)) (answered tt (unkeyed after)) (close_from m after live) (answered tt after) (close_from_unkeyed m after live) refl

close_now_unkeyed : (m : Mounted) (live : Live) → IsKnown m.volume.handles.live live.handle → close_now (unkeyed m) (unkeyed_live live) ≡ unkeyed_answer (close_now m live)
unfolding close_now
close_now_unkeyed m live known =
    ap (λ (after : Mounted). closed (unkeyed m) after (unkeyed_live live) (writers_of after.volume.handles live.file)) (ended_unkeyed m live.handle known)
    ∙ closed_unkeyed m (ended m live.handle) live

-- a request that waits was submitted through a live handle, so it is known by its generation
queued_through : (v : Volume) (request : Handle) (found : Option Live) (h : Handle) (live : Live) → IsUsedOnce v → live_at v.handles h ≡ Some live → live_at v.handles request ≡ found → IsSome found
    → is_same_handle (unkeyed_handle request) (unkeyed_handle live.handle) ≡ is_same_handle request live.handle
queued_through v request None h live once e e' some = absurd (cc some)
queued_through v request (Some through) h live once e e' some =
    agrees request live.handle (λ same. sym (All-find (KnownAs request) (λ l. is_same_handle l.handle h) v.handles.live live (is_known v request through once e') e (sym same)))

is_queued_through_unkeyed : (v : Volume) (h : Handle) (live : Live) → IsUsedOnce v → live_at v.handles h ≡ Some live
    → is_queued_through (unkeyed_queue v.queue) (unkeyed_handle live.handle) ≡ is_queued_through v.queue live.handle
is_queued_through_unkeyed v h live once e =
    list_any-map unkeyed_request (λ (request : Request). is_same_handle request.handle live.handle) (λ (request : Request). is_same_handle request.handle (unkeyed_handle live.handle)) v.queue.queued
    (All-weaker (λ (request : Request). IsSome (live_at v.handles request.handle)) (λ (request : Request). is_same_handle (unkeyed_handle request.handle) (unkeyed_handle live.handle) ≡ is_same_handle request.handle live.handle)
    (λ request some. queued_through v request.handle (live_at v.handles request.handle) h live once e refl some) v.queue.queued once.queued)

close_by_unkeyed : (m : Mounted) (h : Handle) (live : Live) → IsUsedOnce m.volume → live_at m.volume.handles h ≡ Some live → close_by (Some (unkeyed_live live)) (unkeyed m) ≡ unkeyed_answer (close_by (Some live) m)
close_by_unkeyed m h live once e =
    let known : IsKnown m.volume.handles.live live.handle = subst (IsKnown m.volume.handles.live) (sym (same_handle live.handle h (passes-find (λ l. is_same_handle l.handle h) m.volume.handles.live live e))) (is_known m.volume h live once e) in
    let busy = is_queued_through m.volume.queue live.handle in
    ap (λ queued. if queued then refused Busy (unkeyed m) else close_now (unkeyed m) (unkeyed_live live)) (is_queued_through_unkeyed m.volume h live once e)
    ∙ chosen_unkeyed busy (refused Busy (unkeyed m)) (close_now (unkeyed m) (unkeyed_live live)) (refused Busy m) (close_now m live) refl (close_now_unkeyed m live known)

pub close_unkeyed : (m : Mounted) (h : Handle) (live : Live) → IsUsedOnce m.volume → live_at m.volume.handles h ≡ Some live → close_call (unkeyed m) (unkeyed_handle h) ≡ unkeyed_answer (close_call m h)
unfolding close_call
close_unkeyed m h live once e = with_power_unkeyed m _ (close_by (live_at m.volume.handles h) m)
    (ap (λ found. close_by found (unkeyed m)) (live_at_unkeyed m.volume.handles h (is_known m.volume h live once e) ∙ ap (option_map unkeyed_live) e)
    ∙ close_by_unkeyed m h live once e
    ∙ sym (ap (λ found. unkeyed_answer (close_by found m)) e))
