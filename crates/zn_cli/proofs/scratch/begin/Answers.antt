use Rattle.std.proofs.Common.{◌≡◌, true, rules}
use Rattle.zn_cli.proofs.Beginning.{lines_begun}
use Rattle.zn_cli.proofs.scratch.begin.Goals as goal

pub returns : goal.returns
returns c = λ done told.
    let formatted : c.perform.result ≡ true = search rules in
    let mounted : c.perform-2.result ≡ true = search rules in
    lines_begun c.args.session.now c.perform.new.self c.perform-2.new.self c.perform-3.new.self
    c.perform.result c.perform-2.result c.perform-3.result c.perform.ensures c.perform-2.ensures c.perform-3.ensures
    formatted mounted done told
