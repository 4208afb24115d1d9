use Rattle.std.proofs.Common.{arith}
use Rattle.zn_zloop.proofs.Resting.{durable_seen}
use Rattle.zn_zloop.proofs.harm.durable_kept.Goals as goal

pub index-requires : goal.index-requires
index-requires c = omega (arith, c.requires, c.args.kepts.now.ok.0)

pub returns : goal.returns
returns c = λ o f count. durable_seen o f c.args.kepts.now.items c.args.z.0 c.index.result.now count c.requires c.index.ensures
