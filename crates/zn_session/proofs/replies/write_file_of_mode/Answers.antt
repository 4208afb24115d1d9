use Rattle.std.proofs.Common.{ap}
use Rattle.zn_session.proofs.ReplyLaws.{writes_as, told_file}
use Rattle.zn_session.proofs.replies.write_file_of_mode.Goals as goal

pub returns : goal.returns
returns g c = writes_as (ap (λ mode. told_file c.args.path.now mode c.args.stat.now) c.requires) c.write_parts.ensures
