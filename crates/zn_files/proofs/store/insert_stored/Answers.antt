use Rattle.std.proofs.Common.{subst, List, ℕ, Some}
use Rattle.zn_files.proofs.TextMaps.{Updated}
use Rattle.zn_files.proofs.Stored.{added_in}
use Rattle.zn_files.proofs.store.insert_stored.Goals as goal

pub returns-clause-ok : goal.returns-clause-ok
returns-clause-ok c = added_in c.args.files.now c.insert.new.self c.args.name.now c.args.bytes (subst (λ (n : List ℕ). Updated n c.args.files.now c.insert.new.self (Some c.args.bytes)) c.in_ok-from_str.ensures.ok c.in_ok-insert.ensures.updates)
