use Rattle.std.proofs.Common.{rules, sym}
use Rattle.std.proofs.lemmas.Result.{on_ok_weaker}
use Rattle.zn_stand.specs.File.{resized}
use Rattle.zn_files.proofs.TracedFiles.{changed_traced}
use Rattle.zn_files.proofs.replay.trace_resize.Goals as goal

pub returns-in-Some : goal.returns-in-Some
returns-in-Some c = on_ok_weaker c.resize.result
    (changed_traced c.args.files.now (c.get_mut.follows.lender c.resize.new.self) c.args.name.now c.in-Some.file.now c.resize.new.self (λ f. resized f c.args.len) (sym c.in-Some.ensures.value) ((c.get_mut.follows.holds c.resize.new.self).3 (search rules)))
    c.resize.ensures
