-- What the lines on a mounted volume are, by the volume's calls with the keys of its handles.
use Rattle.std.proofs.Common.{◌≡◌, ℕ, Bool, true, false, List, Option, Some, None, refl, ap, ◌∙◌}
use Rattle.std.specs.Prelude.{IsSome, codes, if◌then◌else◌}
use Rattle.zn_model.specs.declared.answers.Refusal.TheVariants.{PowerLost}
use Rattle.zn_model.specs.declared.handles.Handle.{Handle}
use Rattle.zn_model.specs.Volume.{Live, Mounted, live_at}
use Rattle.zn_model.specs.CallAnswers.{Answer, with_power, refused, answered}
use Rattle.zn_model.specs.Keys.{unkeyed, unkeyed_handle, unkeyed_answer}
use Rattle.zn_lines.specs.declared.words.Change.{Change}
use Rattle.zn_lines.specs.Lines.{CloseFile, SizeOf, ReadFrom, WriteTo, TruncateTo, SyncFile, StatOf, ListOf, Attributes, Changes, bytes_of}
use Rattle.zn_base.specs.Runs.{Run}
use Rattle.zn_model.specs.Looks.{stat_call, stat_by, entries_call, entries_by, attributes_of, attr_call, change_refusal}
use Rattle.zn_model.specs.Reading.{size_call, read_call, size_by}
use Rattle.zn_model.specs.Truncating.{truncate_call, sync_call}
use Rattle.zn_model.specs.Writing.{write_call}
use Rattle.zn_lines.specs.ReplyTexts.{refusal_name, reply_text, number_text, read_text, plain, stat_text, list_text, attr_text}
use Rattle.zn_lines.specs.Session.{line_now, says, says_error, close_line, tells, handle_then, names_in}
use Rattle.zn_model.specs.ZoneFiles.{listing_of, file_named}
use Rattle.zn_model.proofs.KeysCalls.{size_unkeyed, read_unkeyed, write_unkeyed, truncate_unkeyed, sync_unkeyed}
use Rattle.zn_model.proofs.KeysLooks.{stat_unkeyed, entries_unkeyed, attr_unkeyed}
use Rattle.zn_session.specs.SessionState.{table_of, number_at, IsNumbered}
use Rattle.zn_session.proofs.Numbers.{on_number, on_free}

-- the answer of a call without keys, told
pub tells_unkeyed : {X : Type 0} (told : X → List ℕ) (m : Mounted) (numbers : List (Option Handle)) (plainly answer : Answer X) → plainly ≡ unkeyed_answer answer
    → tells told (table_of m numbers) plainly ≡ says (reply_text told refusal_name answer.reply) (table_of answer.mounted numbers)
tells_unkeyed told m numbers plainly answer same = ap (tells told (table_of m numbers)) same

-- a live handle
pub live_of : {handle : Option Live} → IsSome handle → (live : Live) × (handle ≡ Some live)
live_of {handle = None} is = absurd (cc is)
live_of {handle = Some live} is = (live, refl)

-- a call on the handle of a number
pub call_step : {X : Type 0} (told : X → List ℕ) (call : Mounted → Handle → Answer X) (m : Mounted) (numbers : List (Option Handle)) (n : ℕ) (h : Handle) → number_at numbers n ≡ Some h → call (unkeyed m) (unkeyed_handle h) ≡ unkeyed_answer (call m h)
    → handle_then (table_of m numbers) n (λ m' h'. tells told (table_of m numbers) (call m' h')) ≡ says (reply_text told refusal_name (call m h).reply) (table_of (call m h).mounted numbers)
call_step told call m numbers n h e same = on_number m numbers n h (λ m' h'. tells told (table_of m numbers) (call m' h')) e ∙ tells_unkeyed told m numbers (call (unkeyed m) (unkeyed_handle h)) (call m h) same

pub size_step : (given : List ℕ) (m : Mounted) (numbers : List (Option Handle)) (n : ℕ) (h : Handle) → IsNumbered m numbers → number_at numbers n ≡ Some h
    → line_now given (table_of m numbers) (SizeOf n) ≡ says (reply_text number_text refusal_name (size_call m h).reply) (table_of (size_call m h).mounted numbers)
unfolding line_now
size_step given m numbers n h is e = let live = live_of (is.live n h e) in call_step number_text size_call m numbers n h e (size_unkeyed m h live.0 is.once live.1)

pub read_step : (given : List ℕ) (m : Mounted) (numbers : List (Option Handle)) (n offset len : ℕ) (h : Handle) → IsNumbered m numbers → number_at numbers n ≡ Some h
    → line_now given (table_of m numbers) (ReadFrom n offset len) ≡ says (reply_text read_text refusal_name (read_call given m h offset len).reply) (table_of (read_call given m h offset len).mounted numbers)
unfolding line_now
read_step given m numbers n offset len h is e = let live = live_of (is.live n h e) in call_step read_text (λ m' h'. read_call given m' h' offset len) m numbers n h e (read_unkeyed given m h offset len live.0 is.once live.1)

pub write_step : (given : List ℕ) (m : Mounted) (numbers : List (Option Handle)) (n offset : ℕ) (runs : List Run) (h : Handle) → IsNumbered m numbers → number_at numbers n ≡ Some h
    → line_now given (table_of m numbers) (WriteTo n offset runs) ≡ says (reply_text plain refusal_name (write_call m h offset (bytes_of runs)).reply) (table_of (write_call m h offset (bytes_of runs)).mounted numbers)
unfolding line_now
write_step given m numbers n offset runs h is e = let live = live_of (is.live n h e) in call_step plain (λ m' h'. write_call m' h' offset (bytes_of runs)) m numbers n h e (write_unkeyed m h offset (bytes_of runs) live.0 is.once live.1)

pub truncate_step : (given : List ℕ) (m : Mounted) (numbers : List (Option Handle)) (n size : ℕ) (h : Handle) → IsNumbered m numbers → number_at numbers n ≡ Some h
    → line_now given (table_of m numbers) (TruncateTo n size) ≡ says (reply_text plain refusal_name (truncate_call m h size).reply) (table_of (truncate_call m h size).mounted numbers)
unfolding line_now
truncate_step given m numbers n size h is e = let live = live_of (is.live n h e) in call_step plain (λ m' h'. truncate_call m' h' size) m numbers n h e (truncate_unkeyed m h size live.0 is.once live.1)

pub sync_step : (given : List ℕ) (m : Mounted) (numbers : List (Option Handle)) (n : ℕ) (h : Handle) → IsNumbered m numbers → number_at numbers n ≡ Some h
    → line_now given (table_of m numbers) (SyncFile n) ≡ says (reply_text plain refusal_name (sync_call m h).reply) (table_of (sync_call m h).mounted numbers)
unfolding line_now
sync_step given m numbers n h is e = let live = live_of (is.live n h e) in call_step plain sync_call m numbers n h e (sync_unkeyed m h live.0 is.once live.1)

pub stat_step : (given : List ℕ) (m : Mounted) (numbers : List (Option Handle)) (path : List ℕ)
    → line_now given (table_of m numbers) (StatOf path) ≡ says (reply_text (stat_text path) refusal_name (stat_call m path).reply) (table_of (stat_call m path).mounted numbers)
unfolding line_now
stat_step given m numbers path = tells_unkeyed (stat_text path) m numbers (stat_call (unkeyed m) path) (stat_call m path) (stat_unkeyed m path)

pub list_step : (given : List ℕ) (m : Mounted) (numbers : List (Option Handle)) (path : List ℕ)
    → line_now given (table_of m numbers) (ListOf path) ≡ says (reply_text (λ n. list_text (names_in (listing_of m.volume.inodes.layout path))) refusal_name (entries_call m path).reply) (table_of (entries_call m path).mounted numbers)
unfolding line_now
list_step given m numbers path = tells_unkeyed (λ n. list_text (names_in (listing_of m.volume.inodes.layout path))) m numbers (entries_call (unkeyed m) path) (entries_call m path) (entries_unkeyed m path)

pub attr_step : (given : List ℕ) (m : Mounted) (numbers : List (Option Handle))
    → line_now given (table_of m numbers) Attributes ≡ says (reply_text attr_text refusal_name (attr_call m).reply) (table_of (attr_call m).mounted numbers)
unfolding line_now
attr_step given m numbers = tells_unkeyed attr_text m numbers (attr_call (unkeyed m)) (attr_call m) (attr_unkeyed m)

pub change_step : (given : List ℕ) (m : Mounted) (numbers : List (Option Handle)) (change : Change) → line_now given (table_of m numbers) (Changes change) ≡ says_error (refusal_name change_refusal) (table_of m numbers)
unfolding line_now
change_step given m numbers change = refl

-- ---- numbers without a handle

pub close_free : (given : List ℕ) (m : Mounted) (numbers : List (Option Handle)) (n : ℕ) → number_at numbers n ≡ None → line_now given (table_of m numbers) (CloseFile n) ≡ says_error (codes "bad-handle") (table_of m numbers)
unfolding line_now
close_free given m numbers n e = on_free m numbers n (close_line (table_of m numbers) n) e

pub size_free : (given : List ℕ) (m : Mounted) (numbers : List (Option Handle)) (n : ℕ) → number_at numbers n ≡ None → line_now given (table_of m numbers) (SizeOf n) ≡ says_error (codes "bad-handle") (table_of m numbers)
unfolding line_now
size_free given m numbers n e = on_free m numbers n (λ m' h'. tells number_text (table_of m numbers) (size_call m' h')) e

pub read_free : (given : List ℕ) (m : Mounted) (numbers : List (Option Handle)) (n offset len : ℕ) → number_at numbers n ≡ None → line_now given (table_of m numbers) (ReadFrom n offset len) ≡ says_error (codes "bad-handle") (table_of m numbers)
unfolding line_now
read_free given m numbers n offset len e = on_free m numbers n (λ m' h'. tells read_text (table_of m numbers) (read_call given m' h' offset len)) e

pub write_free : (given : List ℕ) (m : Mounted) (numbers : List (Option Handle)) (n offset : ℕ) (runs : List Run) → number_at numbers n ≡ None → line_now given (table_of m numbers) (WriteTo n offset runs) ≡ says_error (codes "bad-handle") (table_of m numbers)
unfolding line_now
write_free given m numbers n offset runs e = on_free m numbers n (λ m' h'. tells plain (table_of m numbers) (write_call m' h' offset (bytes_of runs))) e

pub truncate_free : (given : List ℕ) (m : Mounted) (numbers : List (Option Handle)) (n size : ℕ) → number_at numbers n ≡ None → line_now given (table_of m numbers) (TruncateTo n size) ≡ says_error (codes "bad-handle") (table_of m numbers)
unfolding line_now
truncate_free given m numbers n size e = on_free m numbers n (λ m' h'. tells plain (table_of m numbers) (truncate_call m' h' size)) e

pub sync_free : (given : List ℕ) (m : Mounted) (numbers : List (Option Handle)) (n : ℕ) → number_at numbers n ≡ None → line_now given (table_of m numbers) (SyncFile n) ≡ says_error (codes "bad-handle") (table_of m numbers)
unfolding line_now
sync_free given m numbers n e = on_free m numbers n (λ m' h'. tells plain (table_of m numbers) (sync_call m' h')) e

-- ---- calls that only look

looked : {X : Type 0} (b : Bool) (m : Mounted) (answer : Answer X) → answer.mounted ≡ m → (if b then answer else refused PowerLost m).mounted ≡ m
looked true m answer same = same
looked false m answer same = refl

looks : {X : Type 0} (m : Mounted) (answer : Answer X) → answer.mounted ≡ m → (with_power m answer).mounted ≡ m
looks m answer same = looked m.world.powered m answer same

size_looks : (m : Mounted) (live : Option Live) → (size_by live m).mounted ≡ m
size_looks m None = refl
size_looks m (Some live) = refl

pub size_same : (m : Mounted) (h : Handle) → (size_call m h).mounted ≡ m
unfolding size_call
size_same m h = looks m (size_by (live_at m.volume.handles h) m) (size_looks m (live_at m.volume.handles h))

stat_looks : (m : Mounted) (names : Option (List (List ℕ))) (file : Option ℕ) → (stat_by names file m).mounted ≡ m
stat_looks m (Some names) file = refl
stat_looks m None (Some f) = refl
stat_looks m None None = refl

pub stat_same : (m : Mounted) (path : List ℕ) → (stat_call m path).mounted ≡ m
unfolding stat_call
stat_same m path = looks m (stat_by (listing_of m.volume.inodes.layout path) (file_named m.volume.inodes.layout path) m) (stat_looks m (listing_of m.volume.inodes.layout path) (file_named m.volume.inodes.layout path))

entries_looks : (m : Mounted) (names : Option (List (List ℕ))) → (entries_by names m).mounted ≡ m
entries_looks m None = refl
entries_looks m (Some names) = refl

pub entries_same : (m : Mounted) (path : List ℕ) → (entries_call m path).mounted ≡ m
unfolding entries_call
entries_same m path = looks m (entries_by (listing_of m.volume.inodes.layout path) m) (entries_looks m (listing_of m.volume.inodes.layout path))

pub attr_same : (m : Mounted) → (attr_call m).mounted ≡ m
unfolding attr_call
attr_same m = looks m (answered (attributes_of m) m) refl
