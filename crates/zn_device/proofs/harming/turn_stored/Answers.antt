use Rattle.std.proofs.Common.{arith, subst, ◌<◌}
use Rattle.zn_truth.specs.Inject.{severity}
use Rattle.zn_zone.specs.Facts.{ZoneFacts, facts_at}
use Rattle.zn_zone.specs.Machine.{facts}
use Rattle.zn_device.proofs.Places.{stores_moved}
use Rattle.zn_device.proofs.Stores.{zones-facts}
use Rattle.zn_device.proofs.Harms.{zone_below, zone_told, turn_truth}
use Rattle.zn_device.proofs.harming.turn_stored.Goals as goal

pub info-info-requires : goal.info-info-requires
info-info-requires c = zone_below c.args.zones.now c.args.stores.now.items c.args.z.0 c.requires.device c.requires.zone

pub turn-requires : goal.turn-requires
turn-requires c = record {
  zone = zone_below c.args.zones.now c.args.stores.now.items c.args.z.0 c.requires.device c.requires.zone;
  worse = subst (λ (zone : ZoneFacts). severity zone.cond < severity c.args.to) (zone_told c.args.zones.now c.args.stores.now.items c.args.z.0 c.requires.device.stored.count) c.requires.worse;
}

pub index_mut-requires : goal.index_mut-requires
index_mut-requires c =
    let below = zone_below c.args.zones.now c.args.stores.now.items c.args.z.0 c.requires.device c.requires.zone in
    omega (arith, below, c.requires.device.stored.count, zones-facts c.args.zones.now, c.args.stores.now.ok.0)

pub returns-clause-truth : goal.returns-clause-truth
returns-clause-truth c =
    let below = zone_below c.args.zones.now c.args.stores.now.items c.args.z.0 c.requires.device c.requires.zone in
    turn_truth (facts c.args.zones.now) (facts c.turn.new.self) c.args.stores.now.items c.args.z.0 c.args.to c.info-info.result c.index_mut.result.now c.turn-2.new.self
    c.turn.ensures.facts c.requires.device.stored.count (omega (arith, below, zones-facts c.args.zones.now)) c.index_mut.ensures.value c.info-info.ensures
    (c.turn-2.ensures.zone (facts_at (facts c.args.zones.now) c.args.z.0).kind)

pub returns-clause-stored : goal.returns-clause-stored
returns-clause-stored c =
    let below = zone_below c.args.zones.now c.args.stores.now.items c.args.z.0 c.requires.device c.requires.zone in
    stores_moved c.args.zones.now c.turn.new.self c.args.stores.now.items c.args.z.0 c.index_mut.result.now c.turn-2.new.self c.turn.ensures.geometry c.requires.device.stored
    (omega (arith, below, c.requires.device.stored.count, zones-facts c.args.zones.now)) c.index_mut.ensures.value c.turn-2.ensures.buffer
