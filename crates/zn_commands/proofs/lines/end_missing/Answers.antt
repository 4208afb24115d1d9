use Rattle.std.proofs.Common.{◌∙◌}
use Rattle.zn_commands.proofs.lines.end_missing.Goals as goal

pub returns : goal.returns
returns g c = rw (← (c.as_bytes-name.ensures.value ∙ c.zone_name.ensures)) c.end_by.ensures
