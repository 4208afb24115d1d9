use Rattle.std.proofs.Common.{Ok, refl}
use Rattle.zn_device.proofs.Ordered.{ordered_one}
use Rattle.zn_volume.proofs.Causing.{answered_caused, failed_caused}
use Rattle.zn_volume.proofs.IoErrors.{flush_fails}
use Rattle.zn_volume.proofs.volume.Volume.sync_now.Goals as goal

pub returns-in-Ok-clause-cause : goal.returns-in-Ok-clause-cause
returns-in-Ok-clause-cause g c = rw (← c.self.view_is) (answered_caused _ (Ok tt) (Ok tt) _ _ (ordered_one _ _ _ _ c.in-Ok.ensures.done) refl refl)

pub returns-in-Err-clause-cause : goal.returns-in-Err-clause-cause
returns-in-Err-clause-cause g c = rw (← c.self.view_is) (failed_caused _ _ _ _ _ _ c.recover.ensures.cause (ordered_one _ _ _ _ c.in-Err.ensures.done))

pub returns-in-Err-clause-io_error : goal.returns-in-Err-clause-io_error
returns-in-Err-clause-io_error g c = rw (← c.self.view_is) (flush_fails c.in-Err.error c.recover.result _ _ _ c.recover.ensures.cause c.in-Err.ensures.done)
