use Rattle.zn_run.proofs.RunLaws.{unread_rest}
use Rattle.zn_run.proofs.laws.unread_rest.Goals as goal

pub returns : goal.returns
returns c = unread_rest
