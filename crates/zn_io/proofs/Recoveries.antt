-- What a recovery of a file does.
use Rattle.std.proofs.Common.{◌≡◌, ℕ, Bool, true, false, Option, Some, None, Ok, refl, sym, ap, ◌∙◌, subst}
use Rattle.std.specs.Prelude.{◌&&◌, is_some, if◌then◌else◌}
use Rattle.zn_device.specs.States.{DeviceState}
use Rattle.zn_model.specs.declared.files.Found.{Found}
use Rattle.zn_model.specs.declared.files.Policy.{Policy}
use Rattle.zn_model.specs.Volume.{Inodes, file_at, shown_at}
use Rattle.zn_model.specs.Recovery.{Finding, finding, agrees, applied, inodes_after, recovered_inodes, told_after}
use Rattle.zn_model.specs.RecoveryLaws.{OthersStay}
use Rattle.zn_model.proofs.Recoveries.{leaves_others}
use Rattle.zn_io.specs.Files.{as_reply}
use Rattle.zn_io.specs.Findings.{Finds, Recovers, applied_to}

-- a finding with which the file doesn't agree is applied
pub recovers : (after_read : Bool) (policy : Policy) (f : ℕ) (found : Found) (old new : DeviceState) (before after : Inodes)
    → Finds (file_at before f) (Ok found) old new → (after_read && agrees found (shown_at before f)) ≡ false → after ≡ recovered_inodes policy found before f
    → Recovers after_read policy f (Ok true) old new before after
recovers after_read policy f found old new before after step differs is =
    let e : Ok found ≡ finding old.world (file_at before f) = step.found refl in
    let a : applied_to after_read old.world before f ≡ Some found =
    ap (λ (x : Finding). applied after_read x (shown_at before f)) (sym e) ∙ ap (λ (b : Bool). if b then None else Some found) differs in
    record {
      reply = λ answered. ap (λ (x : Finding). as_reply x) e;
      tells = λ refusal answered. ap (λ (x : Finding). told_after x refusal) e;
      applies = λ answered. sym (ap (λ (o : Option Found). is_some o) a);
      inodes = λ answered. is ∙ sym (ap (λ (o : Option Found). inodes_after o policy before f) a);
      world = step.world;
      geometry = step.geometry;
      others = subst (λ (inodes : Inodes). OthersStay before inodes f) (sym is) (leaves_others policy found before f);
      failed = λ no. absurd (cc);
      reported = step.reported;
    }
