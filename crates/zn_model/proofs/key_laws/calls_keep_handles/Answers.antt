use Rattle.zn_model.proofs.KeysKeptCalls.{size_keeps, read_keeps, write_keeps, truncate_keeps, sync_keeps, stat_keeps, entries_keeps, attr_keeps, report_keeps}
use Rattle.zn_model.proofs.KeysKeptQueue.{submit_handles, complete_keeps, reap_keeps}
use Rattle.zn_model.proofs.key_laws.calls_keep_handles.Goals as goal

pub returns : goal.returns
returns c = record {
  size = λ m h. (size_keeps m h).handles;
  read = λ given m h offset len. (read_keeps given m h offset len).handles;
  write = λ m h offset bytes. (write_keeps m h offset bytes).handles;
  truncate = λ m h size. (truncate_keeps m h size).handles;
  sync = λ m h. (sync_keeps m h).handles;
  submit = submit_handles;
  complete = λ m. (complete_keeps m).handles;
  reap = λ m. (reap_keeps m).handles;
  stat = λ m path. (stat_keeps m path).handles;
  entries = λ m path. (entries_keeps m path).handles;
  attr = λ m. (attr_keeps m).handles;
  report = λ m. (report_keeps m).handles;
}
