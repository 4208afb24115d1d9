use Rattle.std.proofs.Common.{arith, rules, tests}
use Rattle.std.proofs.lemmas.Grind.{common_steps}
use Rattle.std.proofs.lemmas.Iterator.{YieldsList-from_slice}
use Rattle.std.proofs.lemmas.Iterator.Consumers.{YieldsList-at, count_from_yields_List}
use Rattle.std.proofs.lemmas.Iterator.Search.{YieldsList-from_take_while}
use Rattle.std.specs.Prelude.{drop}
use Rattle.zn_model.specs.ZoneFiles.{is_conventional}
use Rattle.zn_report.proofs.walk.run_length.Goals as goal

pub returns : goal.returns
returns c =
    count_from_yields_List c.take_while.result _ c.count.ensures.ran
    (YieldsList-from_take_while _ is_conventional (YieldsList-at c.take_while.ensures.source (YieldsList-from_slice (drop c.args.z c.args.kinds.now) (grind (arith, common_steps)))) c.take_while.ensures.closure c.take_while.ensures.done (λ x b q k. search (rules, tests)))
