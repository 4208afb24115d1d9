use Rattle.std.proofs.Common.{vec_len}
use Rattle.zn_pool.proofs.tests.four_leases.Given as goal

abbrev pub decreases-loop-leases : goal.decreases-loop-leases
decreases-loop-leases g l = vec_len l.leases
