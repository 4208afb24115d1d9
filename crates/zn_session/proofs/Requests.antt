-- What the lines on requests are, by the volume's calls with the keys of its handles.
use Rattle.std.proofs.Common.{◌≡◌, ℕ, List, Option, Some, None}
use Rattle.std.specs.Prelude.{codes}
use Rattle.zn_base.specs.Runs.{Run}
use Rattle.zn_model.specs.declared.handles.Handle.{Handle}
use Rattle.zn_model.specs.Keys.{unkeyed}
use Rattle.zn_model.specs.Requests.{submit_call, complete_call, reap_call}
use Rattle.zn_model.specs.Volume.{Mounted}
use Rattle.zn_model.proofs.KeysQueue.{submit_unkeyed, complete_unkeyed, reap_unkeyed}
use Rattle.zn_lines.specs.Lines.{SubmitTo, Complete, Reap, bytes_of}
use Rattle.zn_lines.specs.ReplyTexts.{refusal_name, reply_text, number_text, done_text}
use Rattle.zn_lines.specs.Session.{line_now, says, says_error, tells}
use Rattle.zn_session.specs.SessionState.{table_of, number_at, IsNumbered}
use Rattle.zn_session.proofs.LineSteps.{tells_unkeyed, live_of, call_step}
use Rattle.zn_session.proofs.Numbers.{on_free}

pub submit_step : (given : List ℕ) (m : Mounted) (numbers : List (Option Handle)) (n offset : ℕ) (runs : List Run) (h : Handle) → IsNumbered m numbers → number_at numbers n ≡ Some h
    → line_now given (table_of m numbers) (SubmitTo n offset runs) ≡ says (reply_text number_text refusal_name (submit_call m h offset (bytes_of runs)).reply) (table_of (submit_call m h offset (bytes_of runs)).mounted numbers)
unfolding line_now
submit_step given m numbers n offset runs h is e = let live = live_of (is.live n h e) in call_step number_text (λ m' h'. submit_call m' h' offset (bytes_of runs)) m numbers n h e (submit_unkeyed m h offset (bytes_of runs) live.0 is.once live.1)

pub submit_free : (given : List ℕ) (m : Mounted) (numbers : List (Option Handle)) (n offset : ℕ) (runs : List Run) → number_at numbers n ≡ None
    → line_now given (table_of m numbers) (SubmitTo n offset runs) ≡ says_error (codes "bad-handle") (table_of m numbers)
unfolding line_now
submit_free given m numbers n offset runs e = on_free m numbers n (λ m' h'. tells number_text (table_of m numbers) (submit_call m' h' offset (bytes_of runs))) e

pub complete_step : (given : List ℕ) (m : Mounted) (numbers : List (Option Handle))
    → line_now given (table_of m numbers) Complete ≡ says (reply_text number_text refusal_name (complete_call m).reply) (table_of (complete_call m).mounted numbers)
unfolding line_now
complete_step given m numbers = tells_unkeyed number_text m numbers (complete_call (unkeyed m)) (complete_call m) (complete_unkeyed m)

pub reap_step : (given : List ℕ) (m : Mounted) (numbers : List (Option Handle))
    → line_now given (table_of m numbers) Reap ≡ says (reply_text done_text refusal_name (reap_call m).reply) (table_of (reap_call m).mounted numbers)
unfolding line_now
reap_step given m numbers = tells_unkeyed done_text m numbers (reap_call (unkeyed m)) (reap_call m) (reap_unkeyed m)
