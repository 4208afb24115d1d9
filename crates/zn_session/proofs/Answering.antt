-- What a line on a mounted volume does, from what the volume's call did.
use Rattle.std.proofs.Common.{◌≡◌, ◌≤◌, ◌+◌, ℕ, false, List, Option, Result, Ok, Err, refl, sym, ap, ◌∙◌, subst, arith}
use Rattle.zn_model.specs.declared.answers.Refusal.{Refusal}
use Rattle.zn_model.specs.declared.handles.Handle.{Handle}
use Rattle.zn_model.specs.CallAnswers.{Answer}
use Rattle.zn_device.specs.States.{DeviceState}
use Rattle.zn_model.specs.Volume.{Handles, Mounted}
use Rattle.zn_model.proofs.KeysKept.{Keeps}
use Rattle.zn_lines.specs.Lines.{Line}
use Rattle.zn_lines.specs.ReplyTexts.{refusal_name, reply_text}
use Rattle.zn_lines.specs.Session.{line_now, says}
use Rattle.zn_volume.specs.Causes.{CallCause}
use Rattle.zn_volume.specs.Means.{spoils, without_value}
use Rattle.zn_volume.specs.VolumeState.{VolumeState, mounted_in}
use Rattle.zn_volume.proofs.Causing.{look_cause, same_cause}
use Rattle.zn_session.specs.Replies.{Kept, text_of, IsWritable}
use Rattle.zn_session.specs.SessionState.{table_of, IsNumbered, used_by}
use Rattle.zn_session.specs.Steps.{told_by, ends, Answers, IsReplyTo}
use Rattle.zn_session.specs.declared.replies.Reply.{Reply}
use Rattle.zn_session.specs.declared.replies.Reply.TheVariants.{Refused}
use Rattle.zn_session.proofs.Numbers.{kept_numbered}
use Rattle.zn_session.proofs.Tickets.{GaveNone, GaveOne}

-- a call, and the numbers after it
pub tells_numbers : {X : Type 0} {told : X → List ℕ} {line : Line} {result : Result X Refusal} {reply : Reply} {kept : Kept} {old new : VolumeState} {numbers : List (Option Handle)} (answer : Answer X) (after : List (Option Handle))
    → (new.device.spoilt ≡ false → line_now kept.bytes (table_of (mounted_in old) numbers) line ≡ says (reply_text told refusal_name answer.reply) (table_of answer.mounted after))
    → (new.device.spoilt ≡ false → result ≡ answer.reply) → (new.device.spoilt ≡ false → mounted_in new ≡ answer.mounted)
    → (new.device.spoilt ≡ false → IsNumbered answer.mounted after) → (new.device.spoilt ≡ false → used_by answer.mounted.volume ≤ used_by old.volume + 1)
    → CallCause result old.device new.device → IsReplyTo told result reply kept → Answers line reply kept old new numbers after
tells_numbers {told = told} {result = result} {reply = reply} {kept = kept} {old = old} {new = new} answer after does replies mounts numbered used cause tells =
    let caused : CallCause (told_by reply) old.device new.device = same_cause {a = result} {b = told_by reply} tells.same cause in
    let unspoilt : ends reply ≡ false → new.device.spoilt ≡ false = λ goes. caused.spoilt ∙ goes in
    record {
      writable = tells.writable;
      step = λ goes.
          does (unspoilt goes) ∙ ap (λ (r : Result _ Refusal). says (reply_text told refusal_name r) (table_of answer.mounted after)) (sym (replies (unspoilt goes)))
          ∙ ap (λ text. says text (table_of answer.mounted after)) (sym tells.text)
          ∙ ap (λ (m : Mounted). says (text_of reply kept) (table_of m after)) (sym (mounts (unspoilt goes)));
      numbered = λ goes. subst (λ (m : Mounted). IsNumbered m after) (sym (mounts (unspoilt goes))) (numbered (unspoilt goes));
      used = λ goes. subst (λ (m : Mounted). used_by m.volume ≤ used_by old.volume + 1) (sym (mounts (unspoilt goes))) (used (unspoilt goes));
      cause = caused;
    }

-- as many handles are opened as before, and at most one ticket is given
pub no_more : (before after : Mounted) → after.volume.handles ≡ before.volume.handles → GaveOne before after → used_by after.volume ≤ used_by before.volume + 1
no_more before after same gave = omega (arith, gave, ap (λ (handles : Handles). handles.opened) same)

-- where no ticket is given, not more than one is
pub gave_none : (before after : Mounted) → GaveNone before after → GaveOne before after
gave_none before after none = omega (arith, none)

-- a call that keeps the numbers
pub tells_call : {X : Type 0} {told : X → List ℕ} {line : Line} {result : Result X Refusal} {reply : Reply} {kept : Kept} {old new : VolumeState} {numbers : List (Option Handle)} (answer : Answer X)
    → line_now kept.bytes (table_of (mounted_in old) numbers) line ≡ says (reply_text told refusal_name answer.reply) (table_of answer.mounted numbers)
    → (new.device.spoilt ≡ false → result ≡ answer.reply) → (new.device.spoilt ≡ false → mounted_in new ≡ answer.mounted)
    → Keeps (mounted_in old) answer.mounted → GaveNone (mounted_in old) answer.mounted → IsNumbered (mounted_in old) numbers → CallCause result old.device new.device → IsReplyTo told result reply kept → Answers line reply kept old new numbers numbers
tells_call {old = old} {numbers = numbers} answer does replies mounts keeps none numbered cause tells =
    tells_numbers answer numbers (λ _. does) replies mounts (λ _. kept_numbered (mounted_in old) answer.mounted numbers keeps numbered)
    (λ _. no_more (mounted_in old) answer.mounted keeps.handles (gave_none (mounted_in old) answer.mounted none)) cause tells

-- a call that leaves the device as it is
pub untouched : {X : Type 0} {result : Result X Refusal} {old new : DeviceState} → spoils result ≡ false → new ≡ old → old.spoilt ≡ false → CallCause result old new
untouched {result = result} {old = old} none same unspoilt = subst (λ (d : DeviceState). CallCause result old d) (sym same) (look_cause none unspoilt)

-- a call that only looks
pub tells_look : {X : Type 0} {told : X → List ℕ} {line : Line} {result : Result X Refusal} {reply : Reply} {kept : Kept} {old : VolumeState} {numbers : List (Option Handle)} (answer : Answer X)
    → line_now kept.bytes (table_of (mounted_in old) numbers) line ≡ says (reply_text told refusal_name answer.reply) (table_of answer.mounted numbers)
    → result ≡ answer.reply → answer.mounted ≡ mounted_in old → spoils result ≡ false → old.device.spoilt ≡ false
    → Keeps (mounted_in old) answer.mounted → IsNumbered (mounted_in old) numbers → IsReplyTo told result reply kept → Answers line reply kept old old numbers numbers
tells_look {result = result} {old = old} {numbers = numbers} answer does replies looks none unspoilt keeps numbered tells =
    tells_call answer does (λ _. replies) (λ _. sym looks) keeps (ap (λ (m : Mounted). m.volume.queue.last_ticket) looks) numbered (look_cause none unspoilt) tells

-- a reply where nothing happens
pub still : {line : Line} {reply : Reply} {kept : Kept} {old : VolumeState} {numbers : List (Option Handle)}
    → IsWritable reply kept → line_now kept.bytes (table_of (mounted_in old) numbers) line ≡ says (text_of reply kept) (table_of (mounted_in old) numbers)
    → ends reply ≡ false → IsNumbered (mounted_in old) numbers → old.device.spoilt ≡ false → Answers line reply kept old old numbers numbers
still {reply = reply} writable does goes numbered unspoilt = record {
  writable = writable;
  step = λ _. does;
  numbered = λ _. numbered;
  used = λ _. omega arith;
  cause = look_cause goes unspoilt;
}

-- ---- replies

pub tells_refused : {X : Type 0} {told : X → List ℕ} (refusal : Refusal) (kept : Kept) → IsReplyTo told (Err refusal) (Refused refusal) kept
tells_refused refusal kept = record { writable = tt; text = refl; same = refl }

-- a reply that is no refusal
pub tells_value : {X : Type 0} {told : X → List ℕ} {value : X} {reply : Reply} {kept : Kept} → IsWritable reply kept → text_of reply kept ≡ told value → told_by reply ≡ Ok tt → IsReplyTo told (Ok value) reply kept
tells_value writable same goes = record { writable = writable; text = same; same = ap without_value goes }
