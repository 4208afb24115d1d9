use Rattle.std.proofs.Common.{arith}
use Rattle.zn_zone.specs.Machine.{facts}
use Rattle.zn_device.specs.Stores.{zones_of}
use Rattle.zn_device.proofs.Places.{stores_kept}
use Rattle.zn_device.proofs.Stores.{zones-facts, length-zones_of, flush_more, flush_truth}
use Rattle.zn_device.proofs.commands.flush_all.Goals as goal

pub index_mut-requires : goal.index_mut-requires
index_mut-requires c = omega (arith, c.loop-z.invariant.stored.count, zones-facts c.args.zones.now, c.loop-z.stores.ok.0)

pub loop-z-preserved : goal.loop-z-preserved
loop-z-preserved c = record {
  done = flush_more (zones_of (facts c.args.zones.now).zones c.args.stores.now.items) (facts c.args.zones.now) c.loop-z.stores.items c.loop-z.z c.info.result c.index_mut.result.now c.flush.new.self
      c.loop-z.invariant.stored.count (omega (arith, zones-facts c.args.zones.now)) (length-zones_of (facts c.args.zones.now).zones c.args.stores.now.items c.requires.stored.count)
      c.index_mut.ensures.value c.info.ensures c.flush.ensures.zone c.loop-z.invariant.done;
  stored = stores_kept (facts c.args.zones.now) c.loop-z.stores.items c.loop-z.z c.index_mut.result.now c.flush.new.self c.loop-z.invariant.stored
      (omega (arith, c.loop-z.invariant.stored.count, zones-facts c.args.zones.now)) c.index_mut.ensures.value c.flush.ensures.buffer;
}

pub returns-clause-truth : goal.returns-clause-truth
returns-clause-truth c = flush_truth (facts c.args.zones.now) c.args.stores.now.items c.loop-z.stores.items c.loop-z.z c.requires.stored.count (omega (arith, zones-facts c.args.zones.now)) c.loop-z.invariant.done
