-- What follows a failed command whose report is answered.
use Rattle.std.proofs.Common.{◌≡◌, ℕ, false, Some, Ok, refl, sym, ap, ◌∙◌, subst}
use Rattle.zn_truth.specs.declared.DevError.{DevError}
use Rattle.zn_model.specs.Volume.{Mounted, file_at, shown_at}
use Rattle.zn_model.specs.ShownStates.{infos_of}
use Rattle.zn_model.specs.Recovery.{Finding, Failed, is_passed_on, refusal_of, applied, found_by, finding_of, told_after, volume_after, recovered, failed_by, after_failure}
use Rattle.zn_model.specs.RecoveryLaws.{reported, truly_found, IsRecovered}
use Rattle.zn_model.proofs.Recoveries.{leaves_others}
use Rattle.zn_volume.specs.RecoveryLaws.{RecoveryOfAnswered}

-- an answered report finds the truth of the file's zones
finds_truth : (m : Mounted) (f : ℕ) → (reported m f).reply ≡ Ok tt → finding_of m f ≡ Ok (truly_found m f)
finds_truth m f answered = ap (λ reply. found_by reply (infos_of m.world.truth (file_at m.volume.inodes f))) answered

-- and that is applied
applying : (m : Mounted) (f : ℕ) → (reported m f).reply ≡ Ok tt
    → recovered false m f ≡ record { world = (reported m f).world; volume = volume_after (Some (truly_found m f)) m.volume f }
unfolding recovered
applying m f answered =
    ap (λ (finding : Finding). let new : Mounted = record { world = (reported m f).world; volume = volume_after (applied false finding (shown_at m.volume.inodes f)) m.volume f } in new) (finds_truth m f answered)

applied_is_recovered : (m : Mounted) (f : ℕ) → IsRecovered (truly_found m f) m (record { world = (reported m f).world; volume = volume_after (Some (truly_found m f)) m.volume f }) f
applied_is_recovered m f = record {
  world = refl;
  inodes = refl;
  others = leaves_others m.volume.policy (truly_found m f) m.volume.inodes f;
  queue = refl;
  handles = refl;
  super_block = refl;
  policy = refl;
  explicit_open = refl;
}

recovers : (m : Mounted) (f : ℕ) → (reported m f).reply ≡ Ok tt → IsRecovered (truly_found m f) m (recovered false m f) f
recovers m f answered = subst (λ (after : Mounted). IsRecovered (truly_found m f) m after f) (sym (applying m f answered)) (applied_is_recovered m f)

follows : (m : Mounted) (f : ℕ) (error : DevError) → is_passed_on error ≡ false
    → after_failure false error m f ≡ record { refusal = told_after (finding_of m f) (refusal_of error); mounted = recovered false m f }
unfolding after_failure
follows m f error stays = ap (λ passed_on. failed_by passed_on false (refusal_of error) m f) stays

pub recovery_of_answered : RecoveryOfAnswered
recovery_of_answered = record {
  recovers = recovers;
  follows = λ m f error answered stays.
      subst (λ (after : Mounted). IsRecovered (truly_found m f) m after f) (sym (ap (λ (failed : Failed). failed.mounted) (follows m f error stays))) (recovers m f answered);
  told = λ m f error answered stays.
      ap (λ (failed : Failed). failed.refusal) (follows m f error stays) ∙ ap (λ finding. told_after finding (refusal_of error)) (finds_truth m f answered);
}
