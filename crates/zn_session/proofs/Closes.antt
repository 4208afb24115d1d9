-- What closes make of the handles, and of the numbers.
use Rattle.std.proofs.Common.{◌≡◌, ◌≢◌, ℕ, ◌<◌, Bool, true, false, List, length, Option, Some, None, Result, Ok, Err, refl, sym, ap, ◌∙◌, subst, ⊎_elim}
use Rattle.std.specs.Prelude.{IsSome, slice_set, ◌&&◌, ◌==◌, if◌then◌else◌, option_map}
use Rattle.std.proofs.lemmas.Bool.{cases_Bool, false≢true}
use Rattle.std.proofs.lemmas.List.{map-set, get_or-set_same, get_or-set_other, length-set}
use Rattle.zn_truth.specs.declared.DevError.{DevError}
use Rattle.zn_truth.specs.declared.DevError.TheVariants.{ReadOnly, Offline, Unaligned, TooManyActive, TooManyOpen, BeyondWp, Fault, PowerLost as dev_power_lost, Broken, Memory}
use Rattle.zn_truth.specs.declared.ZoneOp.TheVariants.{Close}
use Rattle.zn_truth.specs.Orders.{Manage, Reply}
use Rattle.zn_truth.specs.World.{issue}
use Rattle.zn_truth.proofs.SoundIssue.{if_keeps}
use Rattle.zn_model.specs.declared.answers.Refusal.{Refusal}
use Rattle.zn_model.specs.declared.answers.Refusal.TheVariants.{PowerLost, Busy}
use Rattle.zn_model.specs.declared.handles.Handle.{Handle}
use Rattle.zn_model.specs.Access.{writes}
use Rattle.zn_model.specs.Volume.{Live, Handles, Mounted, file_at, shown_at, live_at, is_same_handle, is_queued_through, writers_of, without_live}
use Rattle.zn_model.specs.CallAnswers.{Answer, answered, refused}
use Rattle.zn_model.specs.Recovery.{Finding, is_passed_on, refusal_of, told_after, finding_of, failed_by, after_failure}
use Rattle.zn_model.specs.OpenClose.{after_close, ended, unheld, close_now, close_by, close_call}
use Rattle.zn_model.specs.Keys.{unkeyed_handle, IsUsedOnce}
use Rattle.zn_lines.specs.Lines.{CloseFile}
use Rattle.zn_lines.specs.ReplyTexts.{refusal_name, reply_text, plain}
use Rattle.zn_lines.specs.Table.{Table, without_number, with_mounted}
use Rattle.zn_lines.specs.Session.{line_now, says, close_line, freed_by, is_busy}
use Rattle.zn_model.proofs.KeysHandles.{same_handle}
use Rattle.zn_model.proofs.KeysLists.{passes-find}
use Rattle.zn_model.proofs.KeysKept.{failure_keeps}
use Rattle.zn_model.proofs.KeysUsed.{still_live}
use Rattle.zn_model.proofs.KeysOpens.{close_unkeyed}
use Rattle.zn_session.specs.SessionState.{table_of, number_at, IsNumbered}
use Rattle.zn_session.specs.Steps.{is_busy_answer}
use Rattle.zn_session.proofs.Numbers.{on_number}
use Rattle.zn_session.proofs.LineSteps.{live_of}

-- ---- the handles

-- A close opens no handle and ends no other, and none where the file is busy.
pub record Closed (m : Mounted) (h : Handle) (answer : Answer (Unit {0})) : Type 0 where
  pub others : (other : Handle) → is_same_handle other h ≡ false → IsSome (live_at m.volume.handles other) → IsSome (live_at answer.mounted.volume.handles other)
  pub opened : answer.mounted.volume.handles.opened ≡ m.volume.handles.opened
  pub busy : is_busy_answer answer.reply ≡ true → answer.mounted.volume.handles ≡ m.volume.handles

closed_still : (m : Mounted) (h : Handle) (refusal : Refusal) → Closed m h (refused refusal m)
closed_still m h refusal = record { others = λ other differs some. some; opened = refl; busy = λ _. refl }

never_busy : (error : DevError) → is_busy (refusal_of error) ≡ false
never_busy ReadOnly = refl
never_busy Offline = refl
never_busy Unaligned = refl
never_busy TooManyActive = refl
never_busy TooManyOpen = refl
never_busy BeyondWp = refl
never_busy Fault = refl
never_busy dev_power_lost = refl
never_busy Broken = refl
never_busy Memory = refl

told_not_busy : (finding : Finding) (refusal : Refusal) → is_busy refusal ≡ false → is_busy (told_after finding refusal) ≡ false
told_not_busy (Ok found) refusal not_busy = not_busy
told_not_busy (Err error) refusal not_busy = never_busy error

failed_not_busy : (passed_on : Bool) (error : DevError) (m : Mounted) (f : ℕ) → is_busy (failed_by passed_on false (refusal_of error) m f).refusal ≡ false
failed_not_busy true error m f = never_busy error
failed_not_busy false error m f = told_not_busy (finding_of m f) (refusal_of error) (never_busy error)

failure_not_busy : (error : DevError) (m : Mounted) (f : ℕ) → is_busy (after_failure false error m f).refusal ≡ false
unfolding after_failure
failure_not_busy error m f = failed_not_busy (is_passed_on error) error m f

-- what follows the zone's close, where the handle has ended
module _ (m : Mounted) (h : Handle) where
  after_closed : (reply : Reply) (after : Mounted) (f : ℕ) → after.volume.handles ≡ without_live m.volume.handles h → Closed m h (after_close reply after f)
  after_closed (Ok unit) after f same = record {
    others = λ other differs some. subst (λ (handles : Handles). IsSome (live_at handles other)) (sym same) (still_live m.volume.handles h other differs some);
    opened = ap (λ (handles : Handles). handles.opened) same;
    busy = λ is. absurd (false≢true is);
  }
  after_closed (Err error) after f same = record {
    others = λ other differs some. subst (λ (handles : Handles). IsSome (live_at handles other)) (sym ((failure_keeps false error after f).handles ∙ same)) (still_live m.volume.handles h other differs some);
    opened = ap (λ (handles : Handles). handles.opened) ((failure_keeps false error after f).handles ∙ same);
    busy = λ is. absurd (false≢true (sym (failure_not_busy error after f) ∙ is));
  }

close_now_closed : (m : Mounted) (live : Live) → Closed m live.handle (close_now m live)
unfolding close_now
close_now_closed m live =
    let done = issue m.world (Manage (file_at m.volume.inodes live.file).first Close) in
    let after = ended m live.handle in
    let closed = record (unheld after live.file) { world = done.world } in
    if_keeps (Closed m live.handle) (writes live.mode && (writers_of after.volume.handles live.file == 0) && (shown_at m.volume.inodes live.file).held_open) (after_close done.reply closed live.file) (answered tt after)
    (after_closed m live.handle done.reply closed live.file refl) (after_closed m live.handle (Ok tt) after live.file refl)

close_live_closed : (m : Mounted) (live : Live) → Closed m live.handle (close_by (Some live) m)
close_live_closed m live = if_keeps (Closed m live.handle) (is_queued_through m.volume.queue live.handle) (refused Busy m) (close_now m live) (closed_still m live.handle Busy) (close_now_closed m live)

close_by_closed : (m : Mounted) (h : Handle) (found : Option Live) → live_at m.volume.handles h ≡ found → Closed m h (close_by found m)
close_by_closed m h None e = closed_still m h _
close_by_closed m h (Some live) e =
    subst (λ (k : Handle). Closed m k (close_by (Some live) m)) (same_handle live.handle h (passes-find (λ (other : Live). is_same_handle other.handle h) m.volume.handles.live live e)) (close_live_closed m live)

pub close_closed : (m : Mounted) (h : Handle) → Closed m h (close_call m h)
unfolding close_call
close_closed m h = if_keeps (Closed m h) m.world.powered (close_by (live_at m.volume.handles h) m) (refused PowerLost m) (close_by_closed m h (live_at m.volume.handles h) refl) (closed_still m h PowerLost)

-- ---- the numbers

module _ (m after : Mounted) (numbers : List (Option Handle)) (n : ℕ) (h : Handle) (below : n < length numbers) (is : IsNumbered m numbers) (e : number_at numbers n ≡ Some h) where
  without_h : List (Option Handle)
  without_h = slice_set numbers n None

  -- a number that has a handle still is another one
  is_other : (k : ℕ) (h' : Handle) → number_at without_h k ≡ Some h' → k ≢ n
  unfolding without_h
  is_other k h' has same =
      let none : number_at (slice_set numbers n None) n ≡ None = get_or-set_same numbers n None None below in
      let some : number_at (slice_set numbers n None) n ≡ Some h' = subst (λ (j : ℕ). number_at (slice_set numbers n None) j ≡ Some h') same has in
      let both : None ≡ Some h' = sym none ∙ some in
      cc both

  had : (k : ℕ) (h' : Handle) → number_at without_h k ≡ Some h' → number_at numbers k ≡ Some h'
  unfolding without_h
  had k h' has = sym (get_or-set_other numbers n k None None (is_other k h' has)) ∙ has

  differs_from : (k : ℕ) (h' : Handle) → number_at without_h k ≡ Some h' → is_same_handle h' h ≡ false
  differs_from k h' has = ⊎_elim
      (λ (same : is_same_handle h' h ≡ true). absurd (is_other k h' has (is.apart k n h' (had k h' has) (e ∙ ap Some (sym (same_handle h' h same))))))
      (λ differs. differs)
      (cases_Bool (is_same_handle h' h))

  pub numbered_close : Closed m h (close_call m h) → (close_call m h).mounted ≡ after → IsUsedOnce after.volume → IsNumbered after (slice_set numbers n None)
  unfolding without_h
  numbered_close closed same once = record {
    count = length-set numbers n None ∙ is.count;
    once = once;
    live = λ k h' has. subst (λ (a : Mounted). IsSome (live_at a.volume.handles h')) same (closed.others h' (differs_from k h' has) (is.live k h' (had k h' has)));
    apart = λ a b h' has has'. is.apart a b h' (had a h' has) (had b h' has');
  }

-- where the file is busy, nothing is freed
pub numbered_busy : (m after : Mounted) (numbers : List (Option Handle)) → IsNumbered m numbers → after.volume.handles ≡ m.volume.handles → IsUsedOnce after.volume → IsNumbered after numbers
numbered_busy m after numbers is same once = record {
  count = is.count;
  once = once;
  live = λ k h has. subst (λ (handles : Handles). IsSome (live_at handles h)) (sym same) (is.live k h has);
  apart = is.apart;
}

-- ---- the line

-- the numbers after a close
abbrev pub numbers_after : Bool → List (Option Handle) → ℕ → List (Option Handle)
numbers_after true numbers n = numbers
numbers_after false numbers n = slice_set numbers n None

without_is : (m : Mounted) (numbers : List (Option Handle)) (n : ℕ) → without_number (table_of m numbers) n ≡ table_of m (slice_set numbers n None)
without_is m numbers n = ap (λ (all : List (Option Handle)). let table : Table = record (table_of m numbers) { numbers = all } in table) (sym (map-set (option_map unkeyed_handle) numbers n None))

freed_if : (busy : Bool) (m : Mounted) (numbers : List (Option Handle)) (n : ℕ) → (if busy then table_of m numbers else without_number (table_of m numbers) n) ≡ table_of m (numbers_after busy numbers n)
freed_if true m numbers n = refl
freed_if false m numbers n = without_is m numbers n

freed_is : (reply : Result (Unit {0}) Refusal) (m : Mounted) (numbers : List (Option Handle)) (n : ℕ) → freed_by reply (table_of m numbers) n ≡ table_of m (numbers_after (is_busy_answer reply) numbers n)
freed_is (Ok unit) m numbers n = without_is m numbers n
freed_is (Err refusal) m numbers n = freed_if (is_busy refusal) m numbers n

pub close_step : (given : List ℕ) (m : Mounted) (numbers : List (Option Handle)) (n : ℕ) (h : Handle) → IsNumbered m numbers → number_at numbers n ≡ Some h
    → line_now given (table_of m numbers) (CloseFile n) ≡ says (reply_text plain refusal_name (close_call m h).reply) (table_of (close_call m h).mounted (numbers_after (is_busy_answer (close_call m h).reply) numbers n))
unfolding line_now
close_step given m numbers n h is e =
    let live = live_of (is.live n h e) in
    let table = table_of m numbers in
    on_number m numbers n h (close_line table n) e
    ∙ ap (λ (answer : Answer (Unit {0})). says (reply_text plain refusal_name answer.reply) (freed_by answer.reply (with_mounted table answer.mounted) n)) (close_unkeyed m h live.0 is.once live.1)
    ∙ ap (says (reply_text plain refusal_name (close_call m h).reply)) (freed_is (close_call m h).reply (close_call m h).mounted numbers n)
