use Rattle.std.proofs.Common.{rules, sym}
use Rattle.std.proofs.lemmas.Result.{on_ok_weaker, on_err_weaker}
use Rattle.zn_truth.specs.Orders.{replaced}
use Rattle.zn_files.proofs.Stored.{changed_in, same_in}
use Rattle.zn_files.proofs.store.write_stored.Goals as goal

pub returns-clause-ok : goal.returns-clause-ok
returns-clause-ok c = on_ok_weaker c.put_bytes.result
    (changed_in c.args.files.now (c.get_mut.follows.lender c.put_bytes.new.file) c.args.name.now c.in-Some.file.now (sym c.in-Some.ensures.value) c.put_bytes.new.file (λ old. replaced old c.args.at c.args.bytes.now) ((c.get_mut.follows.holds c.put_bytes.new.file).3 (search rules)))
    c.put_bytes.ensures.ok

pub returns-clause-err : goal.returns-clause-err
returns-clause-err c = on_err_weaker c.put_bytes.result
    (same_in c.args.files.now (c.get_mut.follows.lender c.put_bytes.new.file) c.args.name.now c.in-Some.file.now (sym c.in-Some.ensures.value) c.put_bytes.new.file ((c.get_mut.follows.holds c.put_bytes.new.file).3 (search rules)))
    c.put_bytes.ensures.err
