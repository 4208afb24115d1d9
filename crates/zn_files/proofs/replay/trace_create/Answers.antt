use Rattle.std.proofs.Common.{subst, List, ℕ, Some}
use Rattle.std.specs.BTreeMap.{get_by_text}
use Rattle.zn_files.proofs.TextMaps.{Updated, none_there}
use Rattle.zn_files.proofs.TracedFiles.{created_traced}
use Rattle.zn_files.proofs.replay.trace_create.Goals as goal

pub returns : goal.returns
returns c = created_traced c.args.files.now c.insert.new.self c.args.name.now c.new.result
    (none_there (get_by_text c.args.files.now c.args.name.now) c.contains_key.result c.contains_key.ensures c.if-contains_key.false)
    (subst (λ (n : List ℕ). Updated n c.args.files.now c.insert.new.self (Some c.new.result)) c.in_ok-from_str.ensures.ok c.in_ok-insert.ensures.updates) c.new.ensures
