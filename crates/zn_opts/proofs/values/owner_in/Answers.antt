use Rattle.std.proofs.Common.{◌≤◌, arith}
use Rattle.zn_opts.proofs.ValueLaws.{number_within}
use Rattle.zn_opts.proofs.values.owner_in.Goals as goal

pub overflow_cast-result : goal.overflow_cast-result
overflow_cast-result c = let within : c.in_ok-number.number ≤ 4294967295 = number_within 4294967295 c.args.word.now _ (omega arith) c.in_ok-number.ensures in omega arith
