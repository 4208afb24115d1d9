-- Calls that leave the handles, and no more requests than before, keep generations used once.
use Rattle.std.proofs.Common.{◌≡◌, ℕ, ◌<◌, Bool, true, false, List, Option, Some, None, Result, refl, sym, ◌∙◌, subst}
use Rattle.std.specs.Prelude.{if◌then◌else◌, is_some, not, ◌==◌}
use Rattle.std.specs.List.{All, AllPairs}
use Rattle.std.proofs.lemmas.List.Elements.{All-filter}
use Rattle.zn_truth.specs.declared.DevError.{DevError}
use Rattle.zn_model.specs.declared.answers.Refusal.{Refusal}
use Rattle.zn_model.specs.declared.answers.Refusal.TheVariants.{PowerLost}
use Rattle.zn_model.specs.declared.files.Found.{Found}
use Rattle.zn_truth.proofs.Telling.{issue_told}
use Rattle.zn_model.specs.Volume.{Live, Handles, Request, Queue, Mounted, file_at, shown_at, live_at}
use Rattle.zn_model.specs.Recovery.{report_of, applied, finding_of, recovered, queue_after, failed_by, is_passed_on, refusal_of, after_failure}
use Rattle.zn_model.specs.CallAnswers.{Answer, refused, unless, with_power}
use Rattle.zn_model.specs.Keys.{IsUsedOnce}

-- Whether bytes are told and the handles stay, and what holds of each request that waited holds of each that waits.
pub record Keeps (m after : Mounted) : Type 0 where
  pub told : after.world.truth.told ≡ m.world.truth.told
  pub handles : after.volume.handles ≡ m.volume.handles
  pub queued : (p : Request → Bool) → All (λ request. p request ≡ true) m.volume.queue.queued → All (λ request. p request ≡ true) after.volume.queue.queued

pub keeps_itself : (m : Mounted) → Keeps m m
keeps_itself m = record { told = refl; handles = refl; queued = λ p all. all }

-- handles and requests of which these hold
abbrev pub AreUsedOnce : Handles → List Request → Type 0
AreUsedOnce handles requests =
    AllPairs (λ (a : Live) (b : Live). a.handle.generation < b.handle.generation) handles.live
    × All (λ live. live.handle.generation < handles.opened) handles.live
    × All (λ request. is_some (live_at handles request.handle) ≡ true) requests

pub keeps_both : (m between after : Mounted) → Keeps m between → Keeps between after → Keeps m after
keeps_both m between after first second = record { told = second.told ∙ first.told; handles = second.handles ∙ first.handles; queued = λ p all. second.queued p (first.queued p all) }

-- what is kept
abbrev pub Once : Mounted → Type 0
Once m = IsUsedOnce m.volume

pub once_kept : (m after : Mounted) → Keeps m after → Once m → Once after
once_kept m after keeps once =
    let waiting = keeps.queued (λ request. is_some (live_at m.volume.handles request.handle)) once.queued in
    let all : AreUsedOnce m.volume.handles after.volume.queue.queued = (once.rising, once.used, waiting) in
    let same : AreUsedOnce after.volume.handles after.volume.queue.queued = subst (λ (handles : Handles). AreUsedOnce handles after.volume.queue.queued) (sym keeps.handles) all in
    record { rising = same.0; used = same.1; queued = same.2 }

-- ---- recovery

queued_after : (found : Option Found) (queue : Queue) (f : ℕ) (p : Request → Bool) → All (λ request. p request ≡ true) queue.queued → All (λ request. p request ≡ true) (queue_after found queue f).queued
queued_after None queue f p all = all
queued_after (Some found) queue f p all = All-filter (λ (request : Request). not (request.file == f)) (λ (request : Request). p request ≡ true) queue.queued all

pub recovered_keeps : (after_read : Bool) (m : Mounted) (f : ℕ) → Keeps m (recovered after_read m f)
unfolding recovered
recovered_keeps after_read m f = record {
  told = issue_told m.world (report_of (file_at m.volume.inodes f));
  handles = refl;
  queued = queued_after (applied after_read (finding_of m f) (shown_at m.volume.inodes f)) m.volume.queue f;
}

failed_by_keeps : (passed_on after_read : Bool) (refusal : Refusal) (m : Mounted) (f : ℕ) → Keeps m (failed_by passed_on after_read refusal m f).mounted
failed_by_keeps true after_read refusal m f = keeps_itself m
failed_by_keeps false after_read refusal m f = recovered_keeps after_read m f

pub failure_keeps : (after_read : Bool) (error : DevError) (m : Mounted) (f : ℕ) → Keeps m (after_failure after_read error m f).mounted
unfolding after_failure
failure_keeps after_read error m f = failed_by_keeps (is_passed_on error) after_read (refusal_of error) m f

-- ---- answers

-- what holds of what each of two answers leaves holds of what the chosen one leaves
module _ {X : Type 0} (P : Mounted → Type 0) where
  pub chosen_holds : (b : Bool) (one other : Answer X) → P one.mounted → P other.mounted → P (if b then one else other).mounted
  chosen_holds true one other holds holds' = holds
  chosen_holds false one other holds holds' = holds'

  pub unless_holds : (check : Option (Result X Refusal)) (m : Mounted) (answer : Answer X) → P m → P answer.mounted → P (unless check m answer).mounted
  unless_holds (Some reply) m answer holds holds' = holds
  unless_holds None m answer holds holds' = holds'

  pub with_power_holds : (m : Mounted) (answer : Answer X) → P m → P answer.mounted → P (with_power m answer).mounted
  with_power_holds m answer holds holds' = chosen_holds m.world.powered answer (refused PowerLost m) holds' holds

module _ {X : Type 0} where
  pub unless_keeps : (check : Option (Result X Refusal)) (m : Mounted) (answer : Answer X) → Keeps m answer.mounted → Keeps m (unless check m answer).mounted
  unless_keeps check m answer keeps = unless_holds (Keeps m) check m answer (keeps_itself m) keeps

  pub with_power_keeps : (m : Mounted) (answer : Answer X) → Keeps m answer.mounted → Keeps m (with_power m answer).mounted
  with_power_keeps m answer keeps = with_power_holds (Keeps m) m answer (keeps_itself m) keeps
