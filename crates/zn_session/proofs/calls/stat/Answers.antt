use Rattle.std.proofs.Common.{refl}
use Rattle.zn_model.specs.Looks.{stat_call}
use Rattle.zn_model.proofs.KeysKeptCalls.{stat_keeps}
use Rattle.zn_volume.specs.VolumeState.{mounted_in}
use Rattle.zn_session.proofs.Answering.{tells_look, tells_value, tells_refused}
use Rattle.zn_session.proofs.LineSteps.{stat_step, stat_same}
use Rattle.zn_session.proofs.calls.stat.Goals as goal

pub returns-in-Ok : goal.returns-in-Ok
returns-in-Ok g c = λ kept numbers numbered.
    tells_look (stat_call (mounted_in c.args.volume.now) c.args.path.now) (stat_step _ _ numbers _) c.in-Ok.ensures.reply (stat_same _ _)
    c.in-Ok.ensures.told c.requires.unspoilt (stat_keeps _ _) numbered (tells_value tt refl refl)

pub returns-in-Err : goal.returns-in-Err
returns-in-Err g c = λ kept numbers numbered.
    tells_look (stat_call (mounted_in c.args.volume.now) c.args.path.now) (stat_step _ _ numbers _) c.in-Err.ensures.reply (stat_same _ _)
    c.in-Err.ensures.told c.requires.unspoilt (stat_keeps _ _) numbered (tells_refused c.in-Err.refusal kept)
