use Rattle.zn_session.proofs.LosingPower.{loss_is_told_by_lines}
use Rattle.zn_session.proofs.laws.loss_is_told_by_lines.Goals as goal

pub returns : goal.returns
returns c = loss_is_told_by_lines
