use Rattle.std.proofs.Common.{sym, arith}
use Rattle.zn_base.proofs.DecimalLaws.{decimal-number_in}
use Rattle.zn_keys.proofs.settings.number_in.Goals as goal

pub overflow_cast-result : goal.overflow_cast-result
overflow_cast-result c = omega (arith, (decimal-number_in 4294967295 c.in_ok-number.number c.as_bytes.result.now (omega arith) (sym c.in_ok-number.ensures)).1)
