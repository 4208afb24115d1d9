use Rattle.std.proofs.Common.{◌≡◌, ◌<◌, ℕ, false, length, Ok, Err, refl, sym, ap, ◌∙◌, subst, arith}
use Rattle.std.proofs.lemmas.Grind.{common_steps}
use Rattle.zn_model.specs.declared.answers.Refusal.{Refusal}
use Rattle.zn_model.specs.CallAnswers.{Answer}
use Rattle.zn_model.specs.Recovery.{is_passed_on}
use Rattle.zn_model.specs.Requests.{outcome_of}
use Rattle.zn_model.specs.Volume.{failed}
use Rattle.zn_model.specs.ZoneFiles.{files_of}
use Rattle.zn_queue.specs.QueueState.{with_outcome}
use Rattle.zn_volume.specs.Causes.{CallCause}
use Rattle.zn_volume.specs.VolumeState.{VolumeState}
use Rattle.zn_volume.proofs.Keeping.{agrees_recovered}
use Rattle.zn_volume.proofs.Causing.{report_answered, report_lost}
use Rattle.zn_volume.proofs.Carrying.{lost_is, recovered_is, left_of}
use Rattle.zn_volume.proofs.volume.Volume.complete_failed.Goals as goal

pub returns-in-Err-clause-mounted : goal.returns-in-Err-clause-mounted
returns-in-Err-clause-mounted g c =
    let here : is_passed_on c.args.error ≡ false = sym c.is_passed_on.ensures ∙ c.if-is_passed_on.false in
    let file = rw (← c.self.view_is) at c.requires.file in
    rw (← c.self.view_is) (λ unspoilt oldest waiting first.
    ap (λ (a : Answer ℕ). a.mounted) (sym (lost_is _ (g.D.Zoned.state c.self.inside.dev) _ _ oldest waiting c.args.error c.in-Err.lost c.args.f (file oldest waiting first) here c.in-Err.ensures.step unspoilt)))

pub returns-in-Err-clause-cause : goal.returns-in-Err-clause-cause
returns-in-Err-clause-cause g c = λ here.
    subst (λ (r : Refusal). CallCause {X = ℕ} (Err r) c.args.self.now.device (g.D.Zoned.state c.recover_file-recovered.new.dev)) (sym c.refusal-in-Err.ensures.value)
    (rw (← c.self.view_is) (report_lost _ _ _ c.in-Err.lost _ _ _ _ c.in-Err.ensures.step))

pub invariant_of-self-2 : goal.invariant_of-self-2
invariant_of-self-2 g c =
    let known = subst (λ (s : VolumeState). c.args.f < length (files_of s.volume.inodes.layout)) (sym c.self.view_is) c.requires.known in
    let some = subst (λ (s : VolumeState). 0 < length s.volume.queue.queued) (sym c.self.view_is) c.requires.some in
    let file = rw (← c.self.view_is) at c.requires.file in
    agrees_recovered _ _ _ _ _ _ _ _ _ _ _ _ _ _ c.in_default.ensures.step c.in_default.ensures.within known
    (left_of _ _ _ c.outcome.result _ _ _ _ c.self.inside.queue.queue c.end_failed.new.queue.queue c.in_default.ensures.step some file c.end_failed.ensures.ended) (grind (arith, common_steps)) c.self.invariant

pub returns-clause-mounted : goal.returns-clause-mounted
returns-clause-mounted g c =
    let here : is_passed_on c.args.error ≡ false = sym c.is_passed_on.ensures ∙ c.if-is_passed_on.false in
    let file = rw (← c.self.view_is) at c.requires.file in
    let left : c.end_failed.new.queue.queue ≡ failed (with_outcome c.self.inside.queue.queue (outcome_of c.args.error)) c.args.f =
    c.end_failed.ensures.ended ∙ ap (λ o. failed (with_outcome c.self.inside.queue.queue o) c.args.f) c.outcome.ensures in
    rw (← c.self.view_is) (λ unspoilt oldest waiting first.
    ap (λ (a : Answer ℕ). a.mounted) (sym (recovered_is _ (g.D.Zoned.state c.self.inside.dev) _ _ c.end_failed.new.queue.queue oldest waiting c.args.error c.in_default.field-0 c.args.f first (file oldest waiting first) here c.in_default.ensures.step left)))

pub returns-clause-cause : goal.returns-clause-cause
returns-clause-cause g c = λ here. rw (← c.self.view_is) (report_answered _ _ _ _ (Ok c.end_failed.result) _ _ _ _ c.in_default.ensures.step refl)
