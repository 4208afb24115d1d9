use Rattle.zn_zloop.proofs.Opening.{durable_none}
use Rattle.zn_zloop.proofs.open.kepts_of.Goals as goal

pub loop-z-init : goal.loop-z-init
loop-z-init c = durable_none c.args.geo.now c.args.infos.now c.new-kepts.result.items c.new-kepts.ensures.items
