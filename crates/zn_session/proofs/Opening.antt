-- What the line of an open does, and that of a close, from what the volume's call did.
use Rattle.std.proofs.Common.{◌≡◌, ◌≤◌, ◌<◌, ◌+◌, ℕ, Bool, true, false, List, length, Option, Some, None, Result, Ok, Err, refl, sym, ap, ◌∙◌, subst, arith}
use Rattle.std.specs.Prelude.{slice_set, MatchResult}
use Rattle.zn_model.specs.declared.answers.Refusal.{Refusal}
use Rattle.zn_model.specs.declared.handles.Handle.{Handle}
use Rattle.zn_model.specs.declared.handles.Mode.{Mode}
use Rattle.zn_model.specs.declared.handles.Who.{Who}
use Rattle.zn_lines.specs.Lines.{OpenFile, CloseFile}
use Rattle.zn_model.specs.OpenClose.{open_call, close_call}
use Rattle.zn_lines.specs.ReplyTexts.{refusal_name, reply_text, ok_text, plain}
use Rattle.zn_lines.specs.Session.{line_now, says}
use Rattle.zn_model.proofs.KeysUsed.{open_once, close_once}
use Rattle.zn_volume.specs.Causes.{CallCause}
use Rattle.zn_volume.specs.Means.{key_in}
use Rattle.zn_volume.specs.VolumeState.{VolumeState, mounted_in}
use Rattle.zn_session.specs.Replies.{Kept}
use Rattle.zn_session.specs.SessionState.{table_of, number_at, IsNumbered, used_by}
use Rattle.zn_session.specs.Steps.{Answers, IsReplyTo, is_busy_answer}
use Rattle.zn_session.specs.declared.replies.Reply.{Reply}
use Rattle.zn_session.specs.declared.replies.Reply.TheVariants.{Refused, Done}
use Rattle.zn_session.proofs.Answering.{no_more, gave_none, tells_numbers, tells_value, tells_refused}
use Rattle.zn_session.proofs.Closes.{close_closed, close_step, numbered_close, numbered_busy, numbers_after}
use Rattle.zn_session.proofs.Opens.{Made, open_opens, open_step, numbers_by, numbered_open}
use Rattle.zn_session.proofs.Tickets.{open_gave, close_gave}

-- ---- opens

module _ (old new : VolumeState) (numbers : List (Option Handle)) (n : ℕ) (path : List ℕ) (mode : Mode) (who : Who) (kept : Kept) (is : IsNumbered (mounted_in old) numbers) (free : number_at numbers n ≡ None) where
  pub opened_answers : (h : Handle) → n < length numbers → (new.device.spoilt ≡ false → Ok h ≡ (open_call (mounted_in old) (key_in (Ok h)) path mode who).reply) → (new.device.spoilt ≡ false → mounted_in new ≡ (open_call (mounted_in old) (key_in (Ok h)) path mode who).mounted)
      → CallCause (Ok h) old.device new.device → Answers (OpenFile n path mode who) Done kept old new numbers (slice_set numbers n (Some h))
  opened_answers h below replies mounts cause =
      let answer = open_call (mounted_in old) h.key path mode who in
      let reply : Ok h ≡ answer.reply = replies cause.spoilt in
      let made : Made old.volume.handles h answer.mounted.volume.handles = subst (λ (r : Result Handle Refusal). MatchResult r (λ k. Made old.volume.handles k answer.mounted.volume.handles) (λ refusal. answer.mounted.volume.handles ≡ old.volume.handles)) (sym reply) (open_opens (mounted_in old) h.key path mode who) in
      let does = open_step kept.bytes (mounted_in old) numbers n h.key path mode who free ∙ ap (λ (r : Result Handle Refusal). says (reply_text (λ k. ok_text) refusal_name answer.reply) (table_of answer.mounted (numbers_by r numbers n))) (sym reply) in
      tells_numbers {told = λ (k : Handle). ok_text} answer (slice_set numbers n (Some h)) (λ _. does) (λ _. reply) mounts (λ _. numbered_open (mounted_in old) answer.mounted numbers n h below is made (open_once (mounted_in old) h.key path mode who is.once)) (λ _. omega (arith, made.counted, open_gave (mounted_in old) h.key path mode who)) cause (tells_value tt refl refl)

  pub refused_answers : (refusal : Refusal) → (new.device.spoilt ≡ false → Err refusal ≡ (open_call (mounted_in old) (key_in (Err refusal)) path mode who).reply) → (new.device.spoilt ≡ false → mounted_in new ≡ (open_call (mounted_in old) (key_in (Err refusal)) path mode who).mounted)
      → CallCause {X = Handle} (Err refusal) old.device new.device → Answers (OpenFile n path mode who) (Refused refusal) kept old new numbers numbers
  refused_answers refusal replies mounts cause =
      let answer = open_call (mounted_in old) 0 path mode who in
      let stays : answer.reply ≡ Err refusal → answer.mounted.volume.handles ≡ old.volume.handles = λ same. subst (λ (r : Result Handle Refusal). MatchResult r (λ k. Made old.volume.handles k answer.mounted.volume.handles) (λ other. answer.mounted.volume.handles ≡ old.volume.handles)) same (open_opens (mounted_in old) 0 path mode who) in
      let does : new.device.spoilt ≡ false → line_now kept.bytes (table_of (mounted_in old) numbers) (OpenFile n path mode who) ≡ says (reply_text (λ k. ok_text) refusal_name answer.reply) (table_of answer.mounted numbers) =
      λ unspoilt. open_step kept.bytes (mounted_in old) numbers n 0 path mode who free ∙ ap (λ (r : Result Handle Refusal). says (reply_text (λ k. ok_text) refusal_name answer.reply) (table_of answer.mounted (numbers_by r numbers n))) (sym (replies unspoilt)) in
      tells_numbers {told = λ (k : Handle). ok_text} answer numbers does replies mounts
      (λ unspoilt. numbered_busy (mounted_in old) answer.mounted numbers is (stays (sym (replies unspoilt))) (open_once (mounted_in old) 0 path mode who is.once)) (λ unspoilt. no_more (mounted_in old) answer.mounted (stays (sym (replies unspoilt))) (gave_none (mounted_in old) answer.mounted (open_gave (mounted_in old) 0 path mode who))) cause (tells_refused refusal kept)

-- ---- closes

module _ (old new : VolumeState) (numbers : List (Option Handle)) (n : ℕ) (h : Handle) (reply : Reply) (kept : Kept) (result : Result (Unit {0}) Refusal) (is : IsNumbered (mounted_in old) numbers) (e : number_at numbers n ≡ Some h)
    (replies : new.device.spoilt ≡ false → result ≡ (close_call (mounted_in old) h).reply) (mounts : new.device.spoilt ≡ false → mounted_in new ≡ (close_call (mounted_in old) h).mounted) (cause : CallCause result old.device new.device) (tells : IsReplyTo plain result reply kept) where
  does : (busy : Bool) → is_busy_answer result ≡ busy → new.device.spoilt ≡ false
      → line_now kept.bytes (table_of (mounted_in old) numbers) (CloseFile n) ≡ says (reply_text plain refusal_name (close_call (mounted_in old) h).reply) (table_of (close_call (mounted_in old) h).mounted (numbers_after busy numbers n))
  does busy is_busy unspoilt =
      close_step kept.bytes (mounted_in old) numbers n h is e
      ∙ ap (λ (b : Bool). says (reply_text plain refusal_name (close_call (mounted_in old) h).reply) (table_of (close_call (mounted_in old) h).mounted (numbers_after b numbers n))) (ap is_busy_answer (sym (replies unspoilt)) ∙ is_busy)

  used : used_by (close_call (mounted_in old) h).mounted.volume ≤ used_by old.volume + 1
  used = omega (arith, (close_closed (mounted_in old) h).opened, close_gave (mounted_in old) h)

  pub closed_answers : n < length numbers → is_busy_answer result ≡ false → Answers (CloseFile n) reply kept old new numbers (slice_set numbers n None)
  closed_answers below free =
      tells_numbers (close_call (mounted_in old) h) (slice_set numbers n None) (does false free) replies mounts
      (λ _. numbered_close (mounted_in old) (close_call (mounted_in old) h).mounted numbers n h below is e (close_closed (mounted_in old) h) refl (close_once (mounted_in old) h is.once)) (λ _. used) cause tells

  pub busy_answers : is_busy_answer result ≡ true → Answers (CloseFile n) reply kept old new numbers numbers
  busy_answers busy =
      tells_numbers (close_call (mounted_in old) h) numbers (does true busy) replies mounts
      (λ unspoilt. numbered_busy (mounted_in old) (close_call (mounted_in old) h).mounted numbers is ((close_closed (mounted_in old) h).busy (ap is_busy_answer (sym (replies unspoilt)) ∙ busy)) (close_once (mounted_in old) h is.once)) (λ _. used) cause tells
