use Rattle.std.proofs.Common.{rules, length, Err}
use Rattle.std.proofs.lemmas.Grind.{common_steps}
use Rattle.std.proofs.lemmas.List.{get_or_default}
use Rattle.zn_device.specs.States.{Ordered}
use Rattle.zn_volume.specs.MountSteps.{no_info, closes_from}
use Rattle.zn_volume.proofs.Closes.{closed_more, closes_stop}
use Rattle.zn_volume.proofs.commands.close_all.Goals as goal

pub returns-in_err-close_left : goal.returns-in_err-close_left
returns-in_err-close_left g c =
    let h : Ordered (closes_from c.args.infos.now 0 (length c.args.infos.now)) (Err c.in_err-close_left.field-0.0) (g.D.Zoned.state c.args.dev.now) (g.D.Zoned.state c.close_left.new.dev) =
    closes_stop c.args.infos.now c.loop-z.z _ _ _ _ _ c.loop-z.invariant.done c.in_err-close_left.ensures.done (get_or_default c.args.infos.now c.loop-z.z _ no_info c.loop-z-test.true) c.loop-z-test.true in
    grind (rules, common_steps, h)

pub loop-z-preserved : goal.loop-z-preserved
loop-z-preserved g c = record {
  done = closed_more c.args.infos.now c.loop-z.z _ _ _ _ c.loop-z.invariant.done c.in_ok-close_left.ensures.done (get_or_default c.args.infos.now c.loop-z.z _ no_info c.loop-z-test.true);
}
