use Rattle.std.proofs.Common.{◌≡◌, ◌<◌, false, length, sym, ap, ◌∙◌, subst, arith}
use Rattle.std.proofs.lemmas.Grind.{common_steps}
use Rattle.zn_model.specs.Recovery.{is_passed_on, refusal_of}
use Rattle.zn_model.specs.Volume.{Queue}
use Rattle.zn_model.specs.ZoneFiles.{files_of}
use Rattle.zn_io.specs.Findings.{told_by}
use Rattle.zn_volume.specs.VolumeState.{VolumeState}
use Rattle.zn_volume.proofs.Keeping.{agrees_recovered}
use Rattle.zn_volume.proofs.Causing.{recovery_caused}
use Rattle.zn_volume.proofs.volume.Volume.recover.Goals as goal

pub invariant_of-self : goal.invariant_of-self
invariant_of-self g c =
    let known = subst (λ (s : VolumeState). c.args.f < length (files_of s.volume.inodes.layout)) (sym c.self.view_is) c.requires.known in
    agrees_recovered _ _ _ _ _ _ _ _ _ _ _ _ _ _ c.recover_file-recovered.ensures.step c.recover_file-recovered.ensures.within known (ap (λ (q : Queue). q.queued) c.end_recovered.ensures) (grind (arith, common_steps)) c.self.invariant

pub returns-clause-cause : goal.returns-clause-cause
returns-clause-cause g c =
    let here : is_passed_on c.args.error ≡ false = sym c.is_passed_on.ensures ∙ c.if-is_passed_on.false in
    let told : c.told.result ≡ told_by c.recover_file-recovered.result (refusal_of c.args.error) = c.told.ensures.told ∙ ap (told_by c.recover_file-recovered.result) c.refusal-refusal.ensures.value in
    rw (← c.self.view_is) (recovery_caused _ _ _ _ _ _ _ _ _ _ c.recover_file-recovered.ensures.step here told)
