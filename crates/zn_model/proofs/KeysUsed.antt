-- A mount, opens and closes keep generations used once.
use Rattle.std.proofs.Common.{◌≡◌, ℕ, ◌+◌, ◌<◌, Bool, true, false, cond, List, [], ◌∷◌, ◌++◌, Option, Some, None, Ok, Err, refl, ap, ◌∙◌, ⊎_elim, arith}
use Rattle.std.specs.Prelude.{is_some, not, ◌==◌, ◌&&◌, find, filter, slice_index_or, IfOk}
use Rattle.std.specs.List.{All, list_any}
use Rattle.std.proofs.lemmas.Bool.{cases_Bool, or_parts, not_from_false}
use Rattle.std.proofs.lemmas.List.Elements.{All-filter, All-push, All-weaker, All-cons, All-nil}
use Rattle.std.proofs.lemmas.List.Quantifiers.{all_pairs_push}
use Rattle.std.proofs.lemmas.List.Kept.{AllPairs-filter}
use Rattle.zn_truth.specs.declared.ZoneOp.TheVariants.{Open, Close}
use Rattle.zn_truth.specs.Orders.{Manage, Reply}
use Rattle.zn_truth.specs.Truth.{Truth}
use Rattle.zn_truth.specs.World.{World, issue}
use Rattle.zn_model.specs.declared.files.MountOpts.{MountOpts}
use Rattle.zn_model.specs.SuperBlock.{SuperBlock}
use Rattle.zn_truth.proofs.Telling.{issue_told}
use Rattle.zn_model.specs.Mounting.{fresh_volume, mount_call}
use Rattle.zn_model.specs.declared.handles.Handle.{Handle}
use Rattle.zn_model.specs.declared.handles.Mode.{Mode}
use Rattle.zn_model.specs.declared.handles.Who.{Who}
use Rattle.zn_model.specs.ZoneFiles.{file_named}
use Rattle.zn_model.specs.Access.{writes}
use Rattle.zn_model.specs.Volume.{Live, Handles, Request, Mounted, file_at, capacity_at, shown_at, live_at, writers_of, is_same_handle, is_queued_through, next_handle, with_live, without_live}
use Rattle.zn_model.specs.OpenClose.{begins_writing, opening_refusal, held_open, opened, is_limit, after_open, open_now, open_by, open_call, after_close, ended, unheld, close_now, close_by, close_call}
use Rattle.zn_model.specs.Recovery.{refusal_of, after_failure}
use Rattle.zn_model.specs.CallAnswers.{answered, refused, as_answer, as_refused}
use Rattle.zn_model.specs.Keys.{IsUsedOnce}
use Rattle.zn_model.proofs.KeysHandles.{same_handle}
use Rattle.zn_model.proofs.KeysLooks.{mount_fresh}
use Rattle.zn_model.proofs.KeysKept.{Once, once_kept, failure_keeps, chosen_holds, unless_holds, with_power_holds}

-- ---- what is found in a longer and in a shorter list

found_behind : {X : Type 0} (b : Bool) (x : X) (short long : Option X) → is_some (cond b (Some x) short) ≡ true → (is_some short ≡ true → is_some long ≡ true) → is_some (cond b (Some x) long) ≡ true
found_behind true x short long h rest = refl
found_behind false x short long h rest = rest h

pub found_in_longer : {X : Type 0} (p : X → Bool) (xs ys : List X) → is_some (find p xs) ≡ true → is_some (find p (xs ++ ys)) ≡ true
found_in_longer p [] ys h = absurd (cc h)
found_in_longer p (x ∷ xs) ys h = found_behind (p x) x (find p xs) (find p (xs ++ ys)) h (found_in_longer p xs ys)

-- what passes the first test passes the second
found_in_filter : {X : Type 0} (p q : X → Bool) (xs : List X) → ((x : X) → p x ≡ true → q x ≡ true) → is_some (find p xs) ≡ true → is_some (find p (filter q xs)) ≡ true
found_in_filter p q [] passes h = h
found_in_filter p q (x ∷ xs) passes h = ⊎_elim
    (λ (yes : p x ≡ true). let kept : q x ≡ true = passes x yes in rw (kept, yes))
    (λ (no : p x ≡ false). let behind : is_some (find p xs) ≡ true = rw no at h in
    ⊎_elim (λ (kept : q x ≡ true). rw (kept, no) (found_in_filter p q xs passes behind)) (λ (gone : q x ≡ false). rw gone (found_in_filter p q xs passes behind)) (cases_Bool (q x)))
    (cases_Bool (p x))

-- a test that nothing passes
none_of : {X : Type 0} (p : X → Bool) (xs : List X) → list_any p xs ≡ false → All (λ x. p x ≡ false) xs
none_of p [] h = All-nil (λ x. p x ≡ false)
none_of p (x ∷ xs) h = let parts : (p x ≡ false) × (list_any p xs ≡ false) = or_parts (p x) (list_any p xs) h in All-cons (λ v. p v ≡ false) x xs parts.0 (none_of p xs parts.1)

-- ---- mount

fresh_once : (t : Truth) (super_block : SuperBlock) (opts : MountOpts) → IsUsedOnce (fresh_volume t super_block opts)
unfolding fresh_volume
fresh_once t super_block opts = record {
  rising = λ i j d before below. absurd (omega arith);
  used = All-nil (λ (live : Live). live.handle.generation < 0);
  queued = λ k d below. absurd (omega arith);
}

pub mount_once : (given : List ℕ) (w : World) (opts : MountOpts) → IfOk (mount_call given w opts).reply IsUsedOnce
mount_once given w opts = mount_fresh IsUsedOnce fresh_once given w opts

-- ---- open

opened_once : (m : Mounted) (key f : ℕ) (mode : Mode) → Once m → Once (opened m key f mode).mounted
opened_once m key f mode once =
    let new : Live = record { handle = next_handle m.volume.handles key; file = f; mode = mode } in
    let handles = m.volume.handles in
    record {
      rising = all_pairs_push (λ (a : Live) (b : Live). a.handle.generation < b.handle.generation) handles.live new once.rising once.used;
      used = All-push (λ (live : Live). live.handle.generation < handles.opened + 1) handles.live new (All-weaker (λ (live : Live). live.handle.generation < handles.opened) (λ (live : Live). live.handle.generation < handles.opened + 1) (λ live below. omega arith) handles.live once.used) (omega arith);
      queued = All-weaker (λ (request : Request). is_some (live_at handles request.handle) ≡ true) (λ (request : Request). is_some (live_at (with_live handles new) request.handle) ≡ true) (λ request some. found_in_longer (λ (live : Live). is_same_handle live.handle request.handle) handles.live (new ∷ []) some) m.volume.queue.queued once.queued;
    }

after_open_once : (reply : Reply) (m : Mounted) (key f : ℕ) (mode : Mode) → Once m → Once (after_open reply m key f mode).mounted
after_open_once (Ok unit) m key f mode once =
    let held = record m { volume = record m.volume { inodes = held_open m.volume.inodes f true } } in
    opened_once held key f mode (once_kept m held (record { told = refl; handles = refl; queued = λ p all. all }) once)
after_open_once (Err error) m key f mode once =
    chosen_holds Once (is_limit error) (refused (refusal_of error) m) (as_answer (after_failure false error m f)) once (once_kept m (after_failure false error m f).mounted (failure_keeps false error m f) once)

open_now_once : (m : Mounted) (key f : ℕ) (mode : Mode) → Once m → Once (open_now m key f mode).mounted
unfolding open_now
open_now_once m key f mode once =
    let done = issue m.world (Manage (file_at m.volume.inodes f).first Open) in
    let after = record m { world = done.world } in
    chosen_holds Once (begins_writing m.volume f mode && not ((shown_at m.volume.inodes f).size == capacity_at m.volume.inodes f)) (after_open done.reply after key f mode) (opened m key f mode)
    (after_open_once done.reply after key f mode (once_kept m after (record { told = issue_told m.world (Manage (file_at m.volume.inodes f).first Open); handles = refl; queued = λ p all. all }) once)) (opened_once m key f mode once)

open_by_once : (found : Option ℕ) (m : Mounted) (key : ℕ) (mode : Mode) (who : Who) → Once m → Once (open_by found m key mode who).mounted
open_by_once None m key mode who once = once
open_by_once (Some f) m key mode who once =
    unless_holds Once (as_refused (opening_refusal m.world.truth.shape.max_open m.volume f mode who)) m (open_now m key f mode) once (open_now_once m key f mode once)

pub open_once : (m : Mounted) (key : ℕ) (path : List ℕ) (mode : Mode) (who : Who) → Once m → Once (open_call m key path mode who).mounted
unfolding open_call
open_once m key path mode who once =
    with_power_holds Once m (open_by (file_named m.volume.inodes.layout path) m key mode who) once (open_by_once (file_named m.volume.inodes.layout path) m key mode who once)

-- ---- close

-- a handle that is live stays so where another ends
pub still_live : (handles : Handles) (h other : Handle) → is_same_handle other h ≡ false → is_some (live_at handles other) ≡ true → is_some (live_at (without_live handles h) other) ≡ true
still_live handles h other differs = found_in_filter (λ (live : Live). is_same_handle live.handle other) (λ (live : Live). not (is_same_handle live.handle h)) handles.live
    (λ live same. ap (λ (v : Handle). not (is_same_handle v h)) (same_handle live.handle other same) ∙ not_from_false (is_same_handle other h) differs)

-- no request that waits was submitted through the handle that ends
ended_once : (m : Mounted) (h : Handle) → Once m → is_queued_through m.volume.queue h ≡ false → Once (ended m h)
ended_once m h once idle =
    let handles = m.volume.handles in
    let other : Live → Bool = λ live. not (is_same_handle live.handle h) in
    let others : All (λ (request : Request). is_same_handle request.handle h ≡ false) m.volume.queue.queued = none_of (λ (request : Request). is_same_handle request.handle h) m.volume.queue.queued idle in
    record {
      rising = AllPairs-filter (λ (a : Live) (b : Live). a.handle.generation < b.handle.generation) other handles.live once.rising;
      used = All-filter other (λ (live : Live). live.handle.generation < handles.opened) handles.live once.used;
      queued = λ k d below. still_live handles h (slice_index_or m.volume.queue.queued k d).handle (others k d below) (once.queued k d below);
    }

after_close_once : (reply : Reply) (m : Mounted) (f : ℕ) → Once m → Once (after_close reply m f).mounted
after_close_once (Ok unit) m f once = once
after_close_once (Err error) m f once = once_kept m (after_failure false error m f).mounted (failure_keeps false error m f) once

close_now_once : (m : Mounted) (live : Live) → Once m → is_queued_through m.volume.queue live.handle ≡ false → Once (close_now m live).mounted
unfolding close_now
close_now_once m live once idle =
    let done = issue m.world (Manage (file_at m.volume.inodes live.file).first Close) in
    let after = ended m live.handle in
    let ends : Once after = ended_once m live.handle once idle in
    let closed = record (unheld after live.file) { world = done.world } in
    chosen_holds Once (writes live.mode && (writers_of after.volume.handles live.file == 0) && (shown_at m.volume.inodes live.file).held_open) (after_close done.reply closed live.file) (answered tt after)
    (after_close_once done.reply closed live.file (once_kept after closed (record { told = issue_told m.world (Manage (file_at m.volume.inodes live.file).first Close); handles = refl; queued = λ p all. all }) ends)) ends

close_by_once : (found : Option Live) (m : Mounted) → Once m → Once (close_by found m).mounted
close_by_once None m once = once
close_by_once (Some live) m once = ⊎_elim
    (λ (busy : is_queued_through m.volume.queue live.handle ≡ true). rw busy once)
    (λ (idle : is_queued_through m.volume.queue live.handle ≡ false). rw idle (close_now_once m live once idle))
    (cases_Bool (is_queued_through m.volume.queue live.handle))

pub close_once : (m : Mounted) (h : Handle) → Once m → Once (close_call m h).mounted
unfolding close_call
close_once m h once = with_power_holds Once m (close_by (live_at m.volume.handles h) m) once (close_by_once (live_at m.volume.handles h) m once)
