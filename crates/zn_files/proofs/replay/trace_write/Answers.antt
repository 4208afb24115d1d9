use Rattle.std.proofs.Common.{rules, sym}
use Rattle.std.proofs.lemmas.Result.{on_ok_weaker}
use Rattle.zn_stand.specs.File.{written}
use Rattle.zn_files.proofs.TracedFiles.{changed_traced}
use Rattle.zn_files.proofs.replay.trace_write.Goals as goal

pub returns-in-Some : goal.returns-in-Some
returns-in-Some c = on_ok_weaker c.write.result
    (changed_traced c.args.files.now (c.get_mut.follows.lender c.write.new.self) c.args.name.now c.in-Some.file.now c.write.new.self (λ f. written f c.args.at c.args.bytes.now) (sym c.in-Some.ensures.value) ((c.get_mut.follows.holds c.write.new.self).3 (search rules)))
    c.write.ensures
