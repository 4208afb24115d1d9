use Rattle.std.proofs.Common.{◌≡◌, false, List, sym, ap, ◌∙◌}
use Rattle.zn_truth.specs.declared.ZoneInfo.{ZoneInfo}
use Rattle.zn_model.specs.CallAnswers.{Answer}
use Rattle.zn_volume.specs.VolumeState.{VolumeState, mounted_in}
use Rattle.zn_volume.proofs.Reports.{report_lost, reported_reply, reported_mounted}
use Rattle.zn_volume.proofs.volume.Volume.report.Goals as goal

pub returns-then-not-powered-clause-reply : goal.returns-then-not-powered-clause-reply
returns-then-not-powered-clause-reply g c = λ unspoilt.
    let off : c.args.self.now.device.world.powered ≡ false = sym (ap (λ (s : VolumeState). s.device.world.powered) c.self.view_is) ∙ sym c.powered.ensures ∙ c.if-not-powered.true in
    ap (λ (a : Answer (List ZoneInfo)). a.reply) (sym (report_lost (mounted_in c.args.self.now) off))

pub returns-then-not-powered-clause-mounted : goal.returns-then-not-powered-clause-mounted
returns-then-not-powered-clause-mounted g c = λ unspoilt.
    let off : c.args.self.now.device.world.powered ≡ false = sym (ap (λ (s : VolumeState). s.device.world.powered) c.self.view_is) ∙ sym c.powered.ensures ∙ c.if-not-powered.true in
    ap (λ (a : Answer (List ZoneInfo)). a.mounted) (sym (report_lost (mounted_in c.args.self.now) off))

pub returns-clause-reply : goal.returns-clause-reply
returns-clause-reply g c = rw (← c.self.view_is) (λ unspoilt. reported_reply _ c.report.ensures unspoilt)

pub returns-clause-mounted : goal.returns-clause-mounted
returns-clause-mounted g c = rw (← c.self.view_is) (λ unspoilt. reported_mounted _ c.report.ensures unspoilt)
