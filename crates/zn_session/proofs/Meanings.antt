-- What lines mean, mounted or not.
use Rattle.std.proofs.Common.{◌≡◌, ℕ, Bool, true, false, List, [], Option, Some, None, Result, Ok, Err, refl, sym, ap, ◌∙◌, subst, arith}
use Rattle.std.specs.Prelude.{codes, is_some, if◌then◌else◌}
use Rattle.zn_device.specs.States.{DeviceState}
use Rattle.zn_model.specs.declared.answers.Refusal.{Refusal}
use Rattle.zn_model.specs.declared.handles.Handle.{Handle}
use Rattle.zn_model.specs.declared.handles.Mode.{Mode}
use Rattle.zn_model.specs.declared.handles.Who.{Who}
use Rattle.zn_model.specs.CallAnswers.{Answer}
use Rattle.zn_model.specs.Volume.{Volume, Mounted}
use Rattle.zn_model.specs.OpenClose.{open_call, close_call}
use Rattle.zn_lines.specs.Lines as lines
use Rattle.zn_lines.specs.ReplyTexts.{error_text, refusal_name, reply_text, plain}
use Rattle.zn_lines.specs.Session as session
use Rattle.zn_lines.specs.Session.{line_now, says, says_error, opens, open_line, close_line, freed_by, is_busy}
use Rattle.zn_lines.specs.Memory.{takes_itself}
use Rattle.zn_lines.specs.Table.{Table, no_numbers, handle_of, with_mounted, without_number}
use Rattle.zn_script.specs.Meant.{line_meant}
use Rattle.zn_script.specs.declared.Line.{Line}
use Rattle.zn_script.specs.declared.Line.TheVariants.{Mkfs, Mount, Umount, Open, Close, Size, Read, Write, Truncate, Sync, Submit, Complete, Reap, Stat, List as Listing, Attr, Change, Zones, Fault, Turn, PowerLoss, PowerLossIn, PowerOn}
use Rattle.zn_volume.specs.VolumeState.{VolumeState, mounted_in}
use Rattle.zn_session.specs.Replies.{Kept, text_of, IsWritable}
use Rattle.zn_session.specs.SessionState.{HeldState, bare_held, mounted_held, table_by, table_of, AreNumbered}
use Rattle.zn_session.specs.Steps.{IsCall, told_by, Answers, LineCause, Means}
use Rattle.zn_session.specs.declared.replies.Reply.{Reply}
use Rattle.zn_session.specs.declared.replies.Reply.TheVariants.{NotMounted}
use Rattle.zn_session.proofs.LineCauses.{call_causes, still_causes}

-- ---- the sixteen bytes count in no call

-- a table with these sixteen bytes
abbrev with_bytes : List ℕ → Table → Table
with_bytes entropy table = record table { entropy = entropy }

-- a step whose table has these sixteen bytes
abbrev but : List ℕ → session.Stepped → session.Stepped
but entropy step = says step.text (with_bytes entropy step.table)

module _ (entropy : List ℕ) (table : Table) where
  opens_but : (answer : Answer Handle) (reply : Result Handle Refusal) (n : ℕ) → opens answer reply (with_bytes entropy table) n ≡ but entropy (opens answer reply table n)
  opens_but answer (Ok h) n = refl
  opens_but answer (Err refusal) n = refl

  used_but : (used : Bool) (answer : Answer Handle) (n : ℕ)
      → (if used then says_error (codes "handle-in-use") (with_bytes entropy table) else opens answer answer.reply (with_bytes entropy table) n)
      ≡ but entropy (if used then says_error (codes "handle-in-use") table else opens answer answer.reply table n)
  used_but true answer n = refl
  used_but false answer n = opens_but answer answer.reply n

  open_but : (n : ℕ) (path : List ℕ) (mode : Mode) (who : Who) (volume : Option Volume)
      → session.on_volume volume (with_bytes entropy table) (open_line (with_bytes entropy table) n path mode who) ≡ but entropy (session.on_volume volume table (open_line table n path mode who))
  open_but n path mode who None = refl
  open_but n path mode who (Some v) = used_but (is_some (handle_of table n)) (open_call (record { world = table.world; volume = v }) 0 path mode who) n

  busy_but : (busy : Bool) (after : Table) (n : ℕ) → (if busy then with_bytes entropy after else without_number (with_bytes entropy after) n) ≡ with_bytes entropy (if busy then after else without_number after n)
  busy_but true after n = refl
  busy_but false after n = refl

  freed_but : (reply : Result (Unit {0}) Refusal) (after : Table) (n : ℕ) → freed_by reply (with_bytes entropy after) n ≡ with_bytes entropy (freed_by reply after n)
  freed_but (Ok unit) after n = refl
  freed_but (Err refusal) after n = busy_but (is_busy refusal) after n

  close_but : (n : ℕ) (m : Mounted) (h : Handle) → close_line (with_bytes entropy table) n m h ≡ but entropy (close_line table n m h)
  close_but n m h =
      let answer = close_call m h in
      ap (says (reply_text plain refusal_name answer.reply)) (freed_but answer.reply (with_mounted table answer.mounted) n)

  volume_but : (volume : Option Volume) (step plainly : Mounted → session.Stepped) → ((m : Mounted) → step m ≡ but entropy (plainly m))
      → session.on_volume volume (with_bytes entropy table) step ≡ but entropy (session.on_volume volume table plainly)
  volume_but None step plainly same = refl
  volume_but (Some v) step plainly same = same (record { world = table.world; volume = v })

  handle_but : (found : Option Handle) (step plainly : Handle → session.Stepped) → ((h : Handle) → step h ≡ but entropy (plainly h))
      → session.on_handle found (with_bytes entropy table) step ≡ but entropy (session.on_handle found table plainly)
  handle_but None step plainly same = refl
  handle_but (Some h) step plainly same = same h

  line_but : (given : List ℕ) (line : Line) → IsCall line → line_now given (with_bytes entropy table) (line_meant line) ≡ but entropy (line_now given table (line_meant line))
  unfolding line_now
  line_but given (Mkfs words) call = absurd call
  line_but given (Mount text) call = absurd call
  line_but given Umount call = absurd call
  line_but given (Open n path mode who) call = open_but n path.now mode who table.volume
  line_but given (Close n) call = volume_but table.volume _ _ (λ m. handle_but (handle_of table n) _ (close_line table n m) (close_but n m))
  line_but given (Size n) call = volume_but table.volume _ _ (λ m. handle_but (handle_of table n) _ _ (λ h. refl))
  line_but given (Read n offset len) call = volume_but table.volume _ _ (λ m. handle_but (handle_of table n) _ _ (λ h. refl))
  line_but given (Write n offset word) call = volume_but table.volume _ _ (λ m. handle_but (handle_of table n) _ _ (λ h. refl))
  line_but given (Truncate n size) call = volume_but table.volume _ _ (λ m. handle_but (handle_of table n) _ _ (λ h. refl))
  line_but given (Sync n) call = volume_but table.volume _ _ (λ m. handle_but (handle_of table n) _ _ (λ h. refl))
  line_but given (Submit n offset word) call = volume_but table.volume _ _ (λ m. handle_but (handle_of table n) _ _ (λ h. refl))
  line_but given Complete call = volume_but table.volume _ _ (λ m. refl)
  line_but given Reap call = volume_but table.volume _ _ (λ m. refl)
  line_but given (Stat path) call = volume_but table.volume _ _ (λ m. refl)
  line_but given (Listing path) call = volume_but table.volume _ _ (λ m. refl)
  line_but given Attr call = volume_but table.volume _ _ (λ m. refl)
  line_but given (Change change) call = volume_but table.volume _ _ (λ m. refl)
  line_but given Zones call = absurd call
  line_but given (Fault zone command keep) call = absurd call
  line_but given (Turn zone to) call = absurd call
  line_but given (PowerLoss fill words) call = absurd call
  line_but given (PowerLossIn zone command carried_out fill words) call = absurd call
  line_but given PowerOn call = absurd call

-- ---- calls

-- a call that was answered on a mounted volume
pub called : (line : Line) (reply : Reply) (kept : Kept) (entropy : List ℕ) (old new : VolumeState) (numbers0 numbers : List (Option Handle)) → IsCall line → Answers (line_meant line) reply kept old new numbers0 numbers
    → Means line_now (line_meant line) reply kept entropy (mounted_held old) (mounted_held new) numbers0 numbers
called line reply kept entropy old new numbers0 numbers call answers = record {
  given = kept.bytes;
  writable = answers.writable;
  step = λ goes. line_but entropy (table_of (mounted_in old) numbers0) kept.bytes line call ∙ ap (but entropy) (answers.step goes);
  numbered = answers.numbered;
  used = answers.used;
  cause = call_causes (takes_itself (line_meant line)) answers.cause;
}

-- a reply that leaves all as it is
pub leaves_all : (line : lines.Line) (reply : Reply) (kept : Kept) (entropy : List ℕ) (held : HeldState) (numbers : List (Option Handle)) → IsWritable reply kept → told_by reply ≡ Ok tt
    → line_now [] (table_by entropy held numbers) line ≡ says (text_of reply kept) (table_by entropy held numbers) → AreNumbered held numbers → held.device.spoilt ≡ false
    → Means line_now line reply kept entropy held held numbers numbers
leaves_all line reply kept entropy held numbers writable told does numbered unspoilt =
    let Causes : Result (Unit {0}) Refusal → Type 0 = λ answer. LineCause (takes_itself line) answer held.device held.device in
    record {
      given = [];
      writable = writable;
      step = λ goes. does;
      numbered = λ goes. numbered;
      used = λ goes. omega arith;
      cause = subst Causes (sym told) (still_causes (takes_itself line) held.device unspoilt);
    }

-- ---- without a volume

bare_now : (given entropy : List ℕ) (line : Line) (d : DeviceState) (numbers : List (Option Handle)) → IsCall line
    → line_now given (table_by entropy (bare_held d) numbers) (line_meant line) ≡ says (error_text (codes "not-mounted")) (table_by entropy (bare_held d) numbers)
unfolding line_now
bare_now given entropy (Mkfs words) d numbers call = absurd call
bare_now given entropy (Mount text) d numbers call = absurd call
bare_now given entropy Umount d numbers call = absurd call
bare_now given entropy (Open n path mode who) d numbers call = refl
bare_now given entropy (Close n) d numbers call = refl
bare_now given entropy (Size n) d numbers call = refl
bare_now given entropy (Read n offset len) d numbers call = refl
bare_now given entropy (Write n offset word) d numbers call = refl
bare_now given entropy (Truncate n size) d numbers call = refl
bare_now given entropy (Sync n) d numbers call = refl
bare_now given entropy (Submit n offset word) d numbers call = refl
bare_now given entropy Complete d numbers call = refl
bare_now given entropy Reap d numbers call = refl
bare_now given entropy (Stat path) d numbers call = refl
bare_now given entropy (Listing path) d numbers call = refl
bare_now given entropy Attr d numbers call = refl
bare_now given entropy (Change change) d numbers call = refl
bare_now given entropy Zones d numbers call = absurd call
bare_now given entropy (Fault zone command keep) d numbers call = absurd call
bare_now given entropy (Turn zone to) d numbers call = absurd call
bare_now given entropy (PowerLoss fill words) d numbers call = absurd call
bare_now given entropy (PowerLossIn zone command carried_out fill words) d numbers call = absurd call
bare_now given entropy PowerOn d numbers call = absurd call

-- a call without a volume
pub not_mounted : (line : Line) (kept : Kept) (entropy : List ℕ) (d : DeviceState) (numbers : List (Option Handle)) → IsCall line → numbers ≡ no_numbers → d.spoilt ≡ false
    → Means line_now (line_meant line) NotMounted kept entropy (bare_held d) (bare_held d) numbers numbers
not_mounted line kept entropy d numbers call none unspoilt =
    leaves_all (line_meant line) NotMounted kept entropy (bare_held d) numbers tt refl (bare_now [] entropy line d numbers call) none unspoilt
