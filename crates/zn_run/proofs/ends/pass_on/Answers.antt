use Rattle.std.proofs.Common.{refl}
use Rattle.zn_run.proofs.EndLaws.{closed_whole, closed_unpassed, closed_cut, along}
use Rattle.zn_run.proofs.ends.pass_on.Goals as goal

pub returns-in-Err : goal.returns-in-Err
returns-in-Err g c line before written = closed_cut (along c.in-Err.is written)

pub returns-in-Ok-flush : goal.returns-in-Ok-flush
returns-in-Ok-flush g c line before written = closed_whole (along c.in-Ok.is written) c.in-Ok-flush.ensures.done (c.in-Ok-flush.ensures.passed refl)

pub returns-in-Err-flush : goal.returns-in-Err-flush
returns-in-Err-flush g c line before written = closed_unpassed (along c.in-Ok.is written) c.in-Err-flush.ensures.done
