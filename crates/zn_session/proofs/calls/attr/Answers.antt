use Rattle.std.proofs.Common.{refl}
use Rattle.zn_model.specs.Looks.{attr_call}
use Rattle.zn_model.proofs.KeysKeptCalls.{attr_keeps}
use Rattle.zn_volume.specs.VolumeState.{mounted_in}
use Rattle.zn_session.proofs.Answering.{tells_look, tells_value, tells_refused}
use Rattle.zn_session.proofs.LineSteps.{attr_step, attr_same}
use Rattle.zn_session.proofs.calls.attr.Goals as goal

pub returns-in-Ok : goal.returns-in-Ok
returns-in-Ok g c = λ kept numbers numbered.
    tells_look (attr_call (mounted_in c.args.volume.now)) (attr_step _ _ numbers) c.in-Ok.ensures.reply (attr_same _)
    c.in-Ok.ensures.told c.requires.unspoilt (attr_keeps _) numbered (tells_value tt refl refl)

pub returns-in-Err : goal.returns-in-Err
returns-in-Err g c = λ kept numbers numbered.
    tells_look (attr_call (mounted_in c.args.volume.now)) (attr_step _ _ numbers) c.in-Err.ensures.reply (attr_same _)
    c.in-Err.ensures.told c.requires.unspoilt (attr_keeps _) numbered (tells_refused c.in-Err.refusal kept)
