use Rattle.std.proofs.Common.{sym, ◌∙◌}
use Rattle.zn_volume.proofs.Closes.{one_closed}
use Rattle.zn_volume.proofs.commands.close_left.Goals as goal

pub returns-then-is_left_open : goal.returns-then-is_left_open
returns-then-is_left_open g c = record {
  done = one_closed c.args.z c.args.info.now c.manage.result _ _ (sym c.is_left_open.ensures ∙ c.if-is_left_open.true) c.manage.ensures.done;
}
