use Rattle.std.proofs.Common.{ap, ◌∙◌}
use Rattle.zn_zone.specs.Machine.{facts}
use Rattle.zn_device.specs.Memory.{calm_state}
use Rattle.zn_device.proofs.Begins.{fresh_start, fresh_facts, fresh_truth, fresh_device}
use Rattle.zn_device.proofs.memory.MemDevice.new.Goals as goal

pub new-requires-clause-start : goal.new-requires-clause-start
new-requires-clause-start c = fresh_start c.args.shape c.args.kinds.now c.deref.result.now (c.deref.ensures.value ∙ c.in_ok-infos.ensures)

pub invariant_of-result : goal.invariant_of-result
invariant_of-result c = record {
  sound = fresh_device (facts c.in_ok-zones.zones) c.args.shape c.args.kinds.now c.in_ok-stores.stores.items c.requires
      (c.in_ok-zones.ensures.facts ∙ fresh_facts c.args.shape c.args.kinds.now c.deref.result.now (c.deref.ensures.value ∙ c.in_ok-infos.ensures)) c.in_ok-stores.ensures;
}

pub returns : goal.returns
returns c = ap calm_state (fresh_truth (facts c.in_ok-zones.zones) c.args.shape c.args.kinds.now c.in_ok-stores.stores.items
    (c.in_ok-zones.ensures.facts ∙ fresh_facts c.args.shape c.args.kinds.now c.deref.result.now (c.deref.ensures.value ∙ c.in_ok-infos.ensures)) c.in_ok-stores.ensures)
