use Rattle.std.proofs.Common.{rules, sym, ap, ◌∙◌}
use Rattle.std.proofs.lemmas.Result.{on_ok_weaker, on_err_weaker}
use Rattle.std.specs.Prelude.{◌-◌, ◌++◌, length, take, replicate, if◌then◌else◌, is_ok}
use Rattle.zn_files.proofs.Stored.{changed_in, same_in, if_ok, if_err}
use Rattle.zn_files.proofs.store.resize_stored.Goals as goal

pub returns-clause-ok : goal.returns-clause-ok
returns-clause-ok c = on_ok_weaker c.resize.result
    (changed_in c.args.files.now (c.get_mut.follows.lender c.resize.new.self) c.args.name.now c.in-Some.file.now (sym c.in-Some.ensures.value) c.resize.new.self (λ old. take c.args.len old ++ replicate (c.args.len - length old) 0) ((c.get_mut.follows.holds c.resize.new.self).3 (search rules)))
    (if_ok c.resize.result c.resize.new.self.items (take c.args.len c.in-Some.file.now.items ++ replicate (c.args.len - length c.in-Some.file.now.items) 0) c.in-Some.file.now.items
    (c.resize.ensures.items ∙ ap (λ n. if is_ok c.resize.result then take c.args.len c.in-Some.file.now.items ++ replicate (c.args.len - n) 0 else c.in-Some.file.now.items) (search rules)))

pub returns-clause-err : goal.returns-clause-err
returns-clause-err c = on_err_weaker c.resize.result
    (same_in c.args.files.now (c.get_mut.follows.lender c.resize.new.self) c.args.name.now c.in-Some.file.now (sym c.in-Some.ensures.value) c.resize.new.self ((c.get_mut.follows.holds c.resize.new.self).3 (search rules)))
    (if_err c.resize.result _ _ _ c.resize.ensures.items)
