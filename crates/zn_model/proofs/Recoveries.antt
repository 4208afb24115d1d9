-- What a recovery of a file does.
use Rattle.std.proofs.Common.{◌≡◌, ◌≢◌, ℕ, ◌*◌, Bool, true, false, cond, List, [], ◌∷◌, Option, Some, None, Ok, Err, refl, sym, ap, subst, ◌∙◌, eq-eqb, ne_eqb}
use Rattle.std.specs.Prelude.{if◌then◌else◌, not, ◌&&◌, ◌==◌, filter}
use Rattle.std.proofs.lemmas.Map.Views.{any-filter_same, exact_unsigned_eq}
use Rattle.std.proofs.lemmas.List.{length-set, get_or-set_same, get_or-set_other}
use Rattle.zn_truth.specs.declared.limits.TheConstants.{BLOCK_SIZE}
use Rattle.zn_truth.specs.declared.DevError.{DevError}
use Rattle.zn_truth.specs.Truth.{is_good}
use Rattle.zn_truth.specs.Orders.{done, ReportFrom}
use Rattle.zn_truth.specs.World.{World, issue, calm, met, unmet}
use Rattle.zn_model.specs.declared.files.Found.{Found}
use Rattle.zn_model.specs.declared.files.Shown.{Shown}
use Rattle.zn_model.specs.ShownStates.{showing, infos_of}
use Rattle.zn_model.specs.Volume.{Queue, Request, Mounted, file_at, shown_at, is_queued, failed}
use Rattle.zn_model.specs.Recovery.{Finding, recovered_inodes, recovered_shown, recovered, agrees, applied, volume_after, found_by, finding_of, is_passed_on, told_after}
use Rattle.zn_model.specs.RecoveryLaws.{RecoveryIsRow, RecoveryLeavesOthers, RecoveryMayRemount, reported, truly_found, found_offline, IsRecovered, RecoveryOfMounted, RecoveryOfFailedReport, RecoveryAfterRead, waiting_for, RequestsEnd}

pub is_row : RecoveryIsRow
unfolding recovered_inodes
is_row policy found inodes f below = get_or-set_same inodes.shown f (recovered_shown policy found inodes.shape (file_at inodes f) (shown_at inodes f)) (showing 0 false false false) below

pub leaves_others : RecoveryLeavesOthers
unfolding recovered_inodes
leaves_others policy found inodes f = record {
  layout = refl;
  shape = refl;
  count = length-set inodes.shown f (recovered_shown policy found inodes.shape (file_at inodes f) (shown_at inodes f));
  others = λ g other. get_or-set_other inodes.shown f g (recovered_shown policy found inodes.shape (file_at inodes f) (shown_at inodes f)) (showing 0 false false false) other;
}

pub may_remount : RecoveryMayRemount
unfolding recovered_inodes
may_remount policy found inodes f = refl

-- ---- what is applied

recovered_applying : (after_read : Bool) (m : Mounted) (f : ℕ) (found : Option Found) → applied after_read (finding_of m f) (shown_at m.volume.inodes f) ≡ found
    → recovered after_read m f ≡ record { world = (reported m f).world; volume = volume_after found m.volume f }
unfolding recovered
recovered_applying after_read m f found is =
    ap (λ (found : Option Found). let new : Mounted = record { world = (reported m f).world; volume = volume_after found m.volume f } in new) is

applying_is_recovered : (m : Mounted) (f : ℕ) (found : Found) → IsRecovered found m (record { world = (reported m f).world; volume = volume_after (Some found) m.volume f }) f
applying_is_recovered m f found = record {
  world = refl;
  inodes = refl;
  others = leaves_others m.volume.policy found m.volume.inodes f;
  queue = refl;
  handles = refl;
  super_block = refl;
  policy = refl;
  explicit_open = refl;
}

is_recovered : (after_read : Bool) (m : Mounted) (f : ℕ) (found : Found) → applied after_read (finding_of m f) (shown_at m.volume.inodes f) ≡ Some found
    → IsRecovered found m (recovered after_read m f) f
is_recovered after_read m f found is =
    let P : Mounted → Type 0 = λ after. IsRecovered found m after f in
    subst P (sym (recovered_applying after_read m f (Some found) is)) (applying_is_recovered m f found)

-- ---- with power and no faults

report_answered : (w : World) (first n : ℕ) → w ≡ calm w.truth → (issue w (ReportFrom first n)).reply ≡ Ok tt
unfolding issue met unmet done
report_answered w first n is_calm = ap (λ v. (issue v (ReportFrom first n)).reply) is_calm

report_stays : (w : World) (first n : ℕ) → w ≡ calm w.truth → (issue w (ReportFrom first n)).world ≡ w
unfolding issue met unmet done
report_stays w first n is_calm = ap (λ v. (issue v (ReportFrom first n)).world) is_calm ∙ sym is_calm

recovers : (m : Mounted) (f : ℕ) → m.world ≡ calm m.world.truth → IsRecovered (truly_found m f) m (recovered false m f) f
recovers m f is_calm =
    let file = file_at m.volume.inodes f in
    is_recovered false m f (truly_found m f)
    (ap (λ reply. applied false (found_by reply (infos_of m.world.truth file)) (shown_at m.volume.inodes f)) (report_answered m.world file.first file.zones is_calm))

device_stays : (after_read : Bool) (m : Mounted) (f : ℕ) → m.world ≡ calm m.world.truth → (recovered after_read m f).world ≡ m.world
unfolding recovered
device_stays after_read m f is_calm = report_stays m.world (file_at m.volume.inodes f).first (file_at m.volume.inodes f).zones is_calm

pub of_mounted : RecoveryOfMounted
of_mounted = record { recovers = recovers; device = device_stays }

-- ---- a failed report

failed_finding : (m : Mounted) (f : ℕ) (error : DevError) (passed_on : Bool) → (reported m f).reply ≡ Err error → is_passed_on error ≡ passed_on
    → finding_of m f ≡ (if passed_on then Err error else Ok found_offline)
failed_finding m f error passed_on failed_so is =
    ap (λ reply. found_by reply (infos_of m.world.truth (file_at m.volume.inodes f))) failed_so
    ∙ ap (λ (b : Bool). let found : Finding = if b then Err error else Ok found_offline in found) is

offline_applied : (after_read : Bool) (shown : Shown) → applied after_read (Ok found_offline) shown ≡ Some found_offline
offline_applied true shown = refl
offline_applied false shown = refl

offline : (after_read : Bool) (m : Mounted) (f : ℕ) (error : DevError) → (reported m f).reply ≡ Err error → is_passed_on error ≡ false
    → IsRecovered found_offline m (recovered after_read m f) f
offline after_read m f error failed_so is =
    is_recovered after_read m f found_offline
    (ap (λ finding. applied after_read finding (shown_at m.volume.inodes f)) (failed_finding m f error false failed_so is) ∙ offline_applied after_read (shown_at m.volume.inodes f))

passed_on : (after_read : Bool) (m : Mounted) (f : ℕ) (error : DevError) → (reported m f).reply ≡ Err error → is_passed_on error ≡ true
    → recovered after_read m f ≡ record m { world = (reported m f).world }
passed_on after_read m f error failed_so is =
    recovered_applying after_read m f None (ap (λ finding. applied after_read finding (shown_at m.volume.inodes f)) (failed_finding m f error true failed_so is))

pub of_failed_report : RecoveryOfFailedReport
of_failed_report = record {
  offline = offline;
  passed_on = passed_on;
  told = λ m f error refusal failed_so is. ap (λ finding. told_after finding refusal) (failed_finding m f error true failed_so is);
}

-- ---- after a read

answered_finding : (m : Mounted) (f : ℕ) → (reported m f).reply ≡ Ok tt → finding_of m f ≡ Ok (truly_found m f)
answered_finding m f answered = ap (λ reply. found_by reply (infos_of m.world.truth (file_at m.volume.inodes f))) answered

applied_after_read : (m : Mounted) (f : ℕ) (agreeing : Bool) → (reported m f).reply ≡ Ok tt → agrees (truly_found m f) (shown_at m.volume.inodes f) ≡ agreeing
    → applied true (finding_of m f) (shown_at m.volume.inodes f) ≡ (if agreeing then None else Some (truly_found m f))
applied_after_read m f agreeing answered is =
    ap (λ finding. applied true finding (shown_at m.volume.inodes f)) (answered_finding m f answered)
    ∙ ap (λ (b : Bool). if b then None else Some (truly_found m f)) is

pub after_a_read : RecoveryAfterRead
after_a_read = record {
  agreeing = λ m f answered good same.
      recovered_applying true m f None (applied_after_read m f true answered (ap (λ cond. is_good cond && (BLOCK_SIZE * (truly_found m f).held == (shown_at m.volume.inodes f).size)) good ∙ eq-eqb (BLOCK_SIZE * (truly_found m f).held) (shown_at m.volume.inodes f).size same));
  differing = λ m f answered differs.
      recovered_applying true m f (Some (truly_found m f)) (applied_after_read m f false answered differs)
      ∙ sym (recovered_applying false m f (Some (truly_found m f)) (ap (λ finding. applied false finding (shown_at m.volume.inodes f)) (answered_finding m f answered)));
}

-- ---- requests

none_waits : (queue : Queue) (f : ℕ) → is_queued (failed queue f) f ≡ false
none_waits queue f = any-filter_same (λ (request : Request). request.file == f) (λ request. not (request.file == f)) false (λ request is. ap not is) queue.queued

not_so : (b : Bool) → (b ≡ true → false ≡ true) → b ≡ false
not_so true refuted = sym (refuted refl)
not_so false refuted = refl

module _ {X : Type 0} (p q : X → Bool) (passes : (x : X) → p x ≡ true → q x ≡ true) where
  filtered_one : (b : Bool) (x : X) (ys xs : List X) → (p x ≡ true → b ≡ true) → filter p ys ≡ filter p xs → filter p (cond b (x ∷ ys) ys) ≡ filter p (x ∷ xs)
  filtered_one true x ys xs passed same = ap (λ zs. cond (p x) (x ∷ zs) zs) same
  filtered_one false x ys xs passed same = same ∙ ap (λ b. cond b (x ∷ filter p xs) (filter p xs)) (sym (not_so (p x) passed))

  -- a filter after one that lets as much through is the filter alone
  filtered_twice : (xs : List X) → filter p (filter q xs) ≡ filter p xs
  filtered_twice [] = refl
  filtered_twice (x ∷ xs) = filtered_one (q x) x (filter q xs) xs (passes x) (filtered_twice xs)

others_wait : (queue : Queue) (f g : ℕ) → g ≢ f → waiting_for g (failed queue f) ≡ waiting_for g queue
others_wait queue f g other =
    filtered_twice (λ (request : Request). request.file == g) (λ request. not (request.file == f))
    (λ request is. ap not (ne_eqb request.file f (λ same. other (sym (exact_unsigned_eq request.file g is) ∙ same)))) queue.queued

pub requests_end : RequestsEnd
requests_end = record {
  none_waits = none_waits;
  ended = λ queue f. refl;
  others = others_wait;
  tickets = λ queue f. refl;
}
