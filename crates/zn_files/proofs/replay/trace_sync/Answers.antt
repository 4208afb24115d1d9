use Rattle.std.proofs.Common.{rules, sym}
use Rattle.std.proofs.lemmas.Result.{on_ok_weaker}
use Rattle.zn_stand.specs.File.{synced}
use Rattle.zn_files.proofs.TracedFiles.{changed_traced}
use Rattle.zn_files.proofs.replay.trace_sync.Goals as goal

pub returns-in-Some : goal.returns-in-Some
returns-in-Some c = on_ok_weaker c.sync.result
    (changed_traced c.args.files.now (c.get_mut.follows.lender c.sync.new.self) c.args.name.now c.in-Some.file.now c.sync.new.self synced (sym c.in-Some.ensures.value) ((c.get_mut.follows.holds c.sync.new.self).3 (search rules)))
    c.sync.ensures
