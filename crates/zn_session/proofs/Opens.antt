-- What opens make of the handles, and of the numbers.
use Rattle.std.proofs.Common.{◌≡◌, ◌≢◌, ℕ, ◌+◌, ◌<◌, Bool, true, false, List, [], ◌∷◌, ◌++◌, length, Option, Some, None, Result, Ok, Err, refl, sym, ap, ◌∙◌, subst, ⊎_elim, arith}
use Rattle.std.specs.Prelude.{is_some, IsSome, find, slice_set, ◌&&◌, ◌==◌, not, MatchResult, if◌then◌else◌, option_map, codes}
use Rattle.std.proofs.lemmas.Bool.{cases_Bool, cases_eq}
use Rattle.std.proofs.lemmas.List.{map-set, get_or-set_same, get_or-set_other, length-set}
use Rattle.std.proofs.lemmas.Option.{same_Some}
use Rattle.zn_truth.specs.declared.ZoneOp.TheVariants.{Open}
use Rattle.zn_truth.specs.Orders.{Manage, Reply}
use Rattle.zn_truth.specs.World.{issue}
use Rattle.zn_truth.proofs.SoundIssue.{if_keeps}
use Rattle.zn_model.specs.declared.answers.Refusal.{Refusal}
use Rattle.zn_model.specs.declared.answers.Refusal.TheVariants.{PowerLost}
use Rattle.zn_model.specs.declared.handles.Handle.{Handle}
use Rattle.zn_model.specs.declared.handles.Mode.{Mode}
use Rattle.zn_model.specs.declared.handles.Who.{Who}
use Rattle.zn_model.specs.ZoneFiles.{file_named}
use Rattle.zn_model.specs.Volume.{Live, Handles, Mounted, file_at, shown_at, capacity_at, live_at, is_same_handle, next_handle}
use Rattle.zn_model.specs.CallAnswers.{Answer, refused, as_answer, as_refused, unless}
use Rattle.zn_model.specs.Recovery.{refusal_of, after_failure}
use Rattle.zn_model.specs.OpenClose.{begins_writing, opening_refusal, held_open, opened, is_limit, after_open, open_now, open_by, open_call}
use Rattle.zn_model.specs.Keys.{unkeyed, unkeyed_handle, unkeyed_reply, IsUsedOnce}
use Rattle.zn_lines.specs.Lines.{OpenFile}
use Rattle.zn_lines.specs.ReplyTexts.{refusal_name, reply_text, ok_text}
use Rattle.zn_lines.specs.Table.{Table, handle_of}
use Rattle.zn_lines.specs.Session.{line_now, says, says_error, opens}
use Rattle.zn_model.proofs.KeysHandles.{same_handle, same_as_itself}
use Rattle.zn_model.proofs.KeysLists.{passes-find, All-find}
use Rattle.zn_model.proofs.KeysKept.{failure_keeps}
use Rattle.zn_model.proofs.KeysUsed.{found_in_longer}
use Rattle.zn_model.proofs.KeysOpens.{open_unkeyed}
use Rattle.zn_session.specs.SessionState.{table_of, number_at, IsNumbered}
use Rattle.zn_session.proofs.Numbers.{number_unkeyed}

-- ---- the handles

-- a handle that was made: it is new and live, one more was opened, and the others stay live
pub record Made (before : Handles) (h : Handle) (after : Handles) : Type 0 where
  pub new : h.generation ≡ before.opened
  pub counted : after.opened ≡ before.opened + 1
  pub live : IsSome (live_at after h)
  pub others : (other : Handle) → IsSome (live_at before other) → IsSome (live_at after other)

-- an open makes a handle, or leaves the handles
abbrev pub Opens : Handles → Answer Handle → Type 0
Opens before answer = MatchResult answer.reply (λ h. Made before h answer.mounted.volume.handles) (λ refusal. answer.mounted.volume.handles ≡ before)

found_last : {X : Type 0} (p : X → Bool) (xs : List X) (y : X) → p y ≡ true → is_some (find p (xs ++ y ∷ [])) ≡ true
found_last p [] y h = rw h refl
found_last p (x ∷ xs) y h = ⊎_elim (λ (yes : p x ≡ true). rw yes refl) (λ (no : p x ≡ false). rw no (found_last p xs y h)) (cases_Bool (p x))

opened_made : (m : Mounted) (key f : ℕ) (mode : Mode) → Made m.volume.handles (next_handle m.volume.handles key) (opened m key f mode).mounted.volume.handles
opened_made m key f mode =
    let h = next_handle m.volume.handles key in
    let new : Live = record { handle = h; file = f; mode = mode } in
    record {
      new = refl;
      counted = refl;
      live = found_last (λ (live : Live). is_same_handle live.handle h) m.volume.handles.live new (same_as_itself h);
      others = λ other some. found_in_longer (λ (live : Live). is_same_handle live.handle other) m.volume.handles.live (new ∷ []) some;
    }

after_open_opens : (reply : Reply) (m : Mounted) (key f : ℕ) (mode : Mode) → Opens m.volume.handles (after_open reply m key f mode)
after_open_opens (Ok unit) m key f mode = opened_made (record m { volume = record m.volume { inodes = held_open m.volume.inodes f true } }) key f mode
after_open_opens (Err error) m key f mode = if_keeps (Opens m.volume.handles) (is_limit error) (refused (refusal_of error) m) (as_answer (after_failure false error m f)) refl (failure_keeps false error m f).handles

open_now_opens : (m : Mounted) (key f : ℕ) (mode : Mode) → Opens m.volume.handles (open_now m key f mode)
unfolding open_now
open_now_opens m key f mode =
    let done = issue m.world (Manage (file_at m.volume.inodes f).first Open) in
    let after = record m { world = done.world } in
    if_keeps (Opens m.volume.handles) (begins_writing m.volume f mode && not ((shown_at m.volume.inodes f).size == capacity_at m.volume.inodes f)) (after_open done.reply after key f mode) (opened m key f mode)
    (after_open_opens done.reply after key f mode) (opened_made m key f mode)

checked_opens : (check : Option Refusal) (m : Mounted) (answer : Answer Handle) → Opens m.volume.handles answer → Opens m.volume.handles (unless (as_refused check) m answer)
checked_opens None m answer makes = makes
checked_opens (Some refusal) m answer makes = refl

open_by_opens : (found : Option ℕ) (m : Mounted) (key : ℕ) (mode : Mode) (who : Who) → Opens m.volume.handles (open_by found m key mode who)
open_by_opens None m key mode who = refl
open_by_opens (Some f) m key mode who = checked_opens (opening_refusal m.world.truth.shape.max_open m.volume f mode who) m (open_now m key f mode) (open_now_opens m key f mode)

pub open_opens : (m : Mounted) (key : ℕ) (path : List ℕ) (mode : Mode) (who : Who) → Opens m.volume.handles (open_call m key path mode who)
unfolding open_call
open_opens m key path mode who =
    let found = file_named m.volume.inodes.layout path in
    if_keeps (Opens m.volume.handles) m.world.powered (open_by found m key mode who) (refused PowerLost m) (open_by_opens found m key mode who) refl

-- ---- the numbers

-- a live handle's generation was used
used_of : (m : Mounted) (h : Handle) → IsUsedOnce m.volume → (found : Option Live) → live_at m.volume.handles h ≡ found → IsSome found → h.generation < m.volume.handles.opened
used_of m h once None e some = absurd (cc some)
used_of m h once (Some live) e some =
    let is : live.handle ≡ h = same_handle live.handle h (passes-find (λ (other : Live). is_same_handle other.handle h) m.volume.handles.live live e) in
    subst (λ (k : Handle). k.generation < m.volume.handles.opened) is
    (All-find (λ (other : Live). other.handle.generation < m.volume.handles.opened) (λ (other : Live). is_same_handle other.handle h) m.volume.handles.live live once.used e)

-- a new handle is no number's
not_numbered : (m : Mounted) (numbers : List (Option Handle)) (after : Mounted) (h : Handle) (n : ℕ) → IsNumbered m numbers → Made m.volume.handles h after.volume.handles → number_at numbers n ≡ Some h → ⊥
not_numbered m numbers after h n is made e = let used = used_of m h is.once (live_at m.volume.handles h) refl (is.live n h e) in omega (arith, made.new)

module _ (m after : Mounted) (numbers : List (Option Handle)) (n : ℕ) (h : Handle) (below : n < length numbers) (is : IsNumbered m numbers) (made : Made m.volume.handles h after.volume.handles) where
  with_h : List (Option Handle)
  with_h = slice_set numbers n (Some h)

  there : (k : ℕ) → k ≡ n → number_at with_h k ≡ Some h
  unfolding with_h
  there k same = subst (λ (j : ℕ). number_at (slice_set numbers n (Some h)) j ≡ Some h) (sym same) (get_or-set_same numbers n (Some h) None below)

  elsewhere : (k : ℕ) → k ≢ n → number_at with_h k ≡ number_at numbers k
  unfolding with_h
  elsewhere k other = get_or-set_other numbers n k (Some h) None other

  all_live : (k : ℕ) (h' : Handle) → number_at with_h k ≡ Some h' → IsSome (live_at after.volume.handles h')
  all_live k h' e = ⊎_elim
      (λ (same : k ≡ n). subst (λ (v : Handle). IsSome (live_at after.volume.handles v)) (same_Some _ _ (sym (there k same) ∙ e)) made.live)
      (λ (other : k ≢ n). made.others h' (is.live k h' (sym (elsewhere k other) ∙ e)))
      (cases_eq k n)

  -- a number that has the new handle is the one it was given
  has_new : (k : ℕ) (h' : Handle) → h' ≡ h → number_at with_h k ≡ Some h' → k ≡ n
  has_new k h' same e = ⊎_elim (λ is_n. is_n) (λ (other : k ≢ n). absurd (not_numbered m numbers after h k is made (sym (elsewhere k other) ∙ e ∙ ap Some same))) (cases_eq k n)

  all_apart : (a b : ℕ) (h' : Handle) → number_at with_h a ≡ Some h' → number_at with_h b ≡ Some h' → a ≡ b
  all_apart a b h' ea eb = ⊎_elim
      (λ (a_is : a ≡ n). a_is ∙ sym (has_new b h' (same_Some _ _ (sym ea ∙ there a a_is)) eb))
      (λ (a_not : a ≢ n). ⊎_elim
      (λ (b_is : b ≡ n). has_new a h' (same_Some _ _ (sym eb ∙ there b b_is)) ea ∙ sym b_is)
      (λ (b_not : b ≢ n). is.apart a b h' (sym (elsewhere a a_not) ∙ ea) (sym (elsewhere b b_not) ∙ eb))
      (cases_eq b n))
      (cases_eq a n)

  pub numbered_open : IsUsedOnce after.volume → IsNumbered after (slice_set numbers n (Some h))
  unfolding with_h
  numbered_open once = record {
    count = length-set numbers n (Some h) ∙ is.count;
    once = once;
    live = all_live;
    apart = all_apart;
  }

-- ---- the line

-- the numbers after an open
abbrev pub numbers_by : Result Handle Refusal → List (Option Handle) → ℕ → List (Option Handle)
numbers_by (Ok h) numbers n = slice_set numbers n (Some h)
numbers_by (Err refusal) numbers n = numbers

opens_is : (after m : Mounted) (reply : Result Handle Refusal) (numbers : List (Option Handle)) (n : ℕ)
    → opens (record { reply = unkeyed_reply reply; mounted = unkeyed after }) (unkeyed_reply reply) (table_of m numbers) n ≡ says (reply_text (λ h. ok_text) refusal_name reply) (table_of after (numbers_by reply numbers n))
opens_is after m (Ok h) numbers n =
    ap (λ (all : List (Option Handle)). let table : Table = record (table_of after numbers) { numbers = all } in says ok_text table) (sym (map-set (option_map unkeyed_handle) numbers n (Some h)))
opens_is after m (Err refusal) numbers n = refl

pub open_step : (given : List ℕ) (m : Mounted) (numbers : List (Option Handle)) (n key : ℕ) (path : List ℕ) (mode : Mode) (who : Who) → number_at numbers n ≡ None
    → line_now given (table_of m numbers) (OpenFile n path mode who)
    ≡ says (reply_text (λ h. ok_text) refusal_name (open_call m key path mode who).reply) (table_of (open_call m key path mode who).mounted (numbers_by (open_call m key path mode who).reply numbers n))
unfolding line_now
open_step given m numbers n key path mode who free =
    let table = table_of m numbers in
    let free' : is_some (handle_of table n) ≡ false = ap is_some (number_unkeyed numbers n ∙ ap (option_map unkeyed_handle) free) in
    ap (λ (b : Bool). if b then says_error (codes "handle-in-use") table else opens (open_call (unkeyed m) 0 path mode who) (open_call (unkeyed m) 0 path mode who).reply table n) free'
    ∙ ap (λ (answer : Answer Handle). opens answer answer.reply table n) (open_unkeyed m key path mode who)
    ∙ opens_is (open_call m key path mode who).mounted m (open_call m key path mode who).reply numbers n

some_mapped : (found : Option Handle) → is_some found ≡ true → is_some (option_map unkeyed_handle found) ≡ true
some_mapped None some = absurd (cc some)
some_mapped (Some h) some = refl

pub open_used : (given : List ℕ) (m : Mounted) (numbers : List (Option Handle)) (n : ℕ) (path : List ℕ) (mode : Mode) (who : Who) → is_some (number_at numbers n) ≡ true
    → line_now given (table_of m numbers) (OpenFile n path mode who) ≡ says_error (codes "handle-in-use") (table_of m numbers)
unfolding line_now
open_used given m numbers n path mode who used =
    let table = table_of m numbers in
    let used' : is_some (handle_of table n) ≡ true = ap is_some (number_unkeyed numbers n) ∙ some_mapped (number_at numbers n) used in
    ap (λ (b : Bool). if b then says_error (codes "handle-in-use") table else opens (open_call (unkeyed m) 0 path mode who) (open_call (unkeyed m) 0 path mode who).reply table n) used'

pub not_some : {found : Option Handle} → is_some found ≡ false → found ≡ None
not_some {found = None} none = refl
not_some {found = Some h} none = absurd (cc none)
