use Rattle.zn_model.proofs.KeysCalls.{size_unkeyed, read_unkeyed, write_unkeyed, truncate_unkeyed, sync_unkeyed}
use Rattle.zn_model.proofs.KeysOpens.{open_unkeyed, close_unkeyed}
use Rattle.zn_model.proofs.KeysQueue.{submit_unkeyed, complete_unkeyed, reap_unkeyed}
use Rattle.zn_model.proofs.KeysLooks.{mount_unkeyed, unmount_unkeyed, stat_unkeyed, entries_unkeyed, attr_unkeyed, report_unkeyed}
use Rattle.zn_model.proofs.key_laws.calls_ignore_keys.Goals as goal

pub returns : goal.returns
returns c = record {
  mount = mount_unkeyed;
  unmount = unmount_unkeyed;
  opens = open_unkeyed;
  close = close_unkeyed;
  size = size_unkeyed;
  read = read_unkeyed;
  write = write_unkeyed;
  truncate = truncate_unkeyed;
  sync = sync_unkeyed;
  submit = submit_unkeyed;
  complete = complete_unkeyed;
  reap = reap_unkeyed;
  stat = stat_unkeyed;
  entries = entries_unkeyed;
  attr = attr_unkeyed;
  report = report_unkeyed;
}
