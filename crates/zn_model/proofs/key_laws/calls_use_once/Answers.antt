use Rattle.zn_model.specs.Reading.{read_call, size_call}
use Rattle.zn_model.specs.Writing.{write_call}
use Rattle.zn_model.specs.Truncating.{truncate_call, sync_call}
use Rattle.zn_model.specs.Requests.{complete_call, reap_call}
use Rattle.zn_model.specs.Looks.{stat_call, entries_call, attr_call, report_call}
use Rattle.zn_model.proofs.KeysKept.{once_kept}
use Rattle.zn_model.proofs.KeysKeptCalls.{size_keeps, read_keeps, write_keeps, truncate_keeps, sync_keeps, stat_keeps, entries_keeps, attr_keeps, report_keeps}
use Rattle.zn_model.proofs.KeysUsed.{mount_once, open_once, close_once}
use Rattle.zn_model.proofs.KeysKeptQueue.{submit_once, complete_keeps, reap_keeps}
use Rattle.zn_model.proofs.key_laws.calls_use_once.Goals as goal

pub returns : goal.returns
returns c = record {
  mount = mount_once;
  opens = open_once;
  close = close_once;
  size = λ m h. once_kept m (size_call m h).mounted (size_keeps m h);
  read = λ given m h offset len. once_kept m (read_call given m h offset len).mounted (read_keeps given m h offset len);
  write = λ m h offset bytes. once_kept m (write_call m h offset bytes).mounted (write_keeps m h offset bytes);
  truncate = λ m h size. once_kept m (truncate_call m h size).mounted (truncate_keeps m h size);
  sync = λ m h. once_kept m (sync_call m h).mounted (sync_keeps m h);
  submit = submit_once;
  complete = λ m. once_kept m (complete_call m).mounted (complete_keeps m);
  reap = λ m. once_kept m (reap_call m).mounted (reap_keeps m);
  stat = λ m path. once_kept m (stat_call m path).mounted (stat_keeps m path);
  entries = λ m path. once_kept m (entries_call m path).mounted (entries_keeps m path);
  attr = λ m. once_kept m (attr_call m).mounted (attr_keeps m);
  report = λ m. once_kept m (report_call m).mounted (report_keeps m);
}
