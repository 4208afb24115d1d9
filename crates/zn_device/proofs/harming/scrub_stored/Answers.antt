use Rattle.std.proofs.Common.{arith, refl, sym, ◌∙◌}
use Rattle.zn_truth.specs.declared.Kind.TheVariants.{Conventional}
use Rattle.zn_zone.specs.Facts.{facts_at, info_of}
use Rattle.zn_zone.specs.Machine.{facts}
use Rattle.zn_device.proofs.Places.{found, kind_found, kind_in, flags_fit, stores_kept}
use Rattle.zn_device.proofs.Stores.{zones-facts}
use Rattle.zn_device.proofs.Harms.{zone_below, scrub_truth}
use Rattle.zn_device.proofs.harming.scrub_stored.Goals as goal

pub index_mut-requires : goal.index_mut-requires
index_mut-requires c =
    let below = zone_below c.args.zones.now c.args.stores.now.items c.args.z.0 c.requires.device c.requires.zone in
    omega (arith, below, c.requires.device.stored.count, zones-facts c.args.zones.now, c.args.stores.now.ok.0)

pub scrub-requires : goal.scrub-requires
scrub-requires c =
    let below = zone_below c.args.zones.now c.args.stores.now.items c.args.z.0 c.requires.device c.requires.zone in
    let kind = kind_found c.args.zones.now c.args.z.0 Conventional (sym c.requires.kind ∙ kind_in c.args.zones.now c.args.stores.now.items c.args.z.0 c.requires.device) in
    flags_fit c.args.zones.now.shape (info_of (facts_at (facts c.args.zones.now) c.args.z.0)) c.index_mut.result.now
    (found c.args.zones.now c.args.stores.now.items c.args.z.0 Conventional (info_of (facts_at (facts c.args.zones.now) c.args.z.0)) c.index_mut.result.now c.requires.device below c.index_mut.ensures.value kind refl)

pub returns-clause-truth : goal.returns-clause-truth
returns-clause-truth c =
    let below = zone_below c.args.zones.now c.args.stores.now.items c.args.z.0 c.requires.device c.requires.zone in
    let kind = kind_found c.args.zones.now c.args.z.0 Conventional (sym c.requires.kind ∙ kind_in c.args.zones.now c.args.stores.now.items c.args.z.0 c.requires.device) in
    scrub_truth (facts c.args.zones.now) c.args.stores.now.items c.args.z.0 c.args.fill c.index_mut.result.now c.scrub.new.self
    c.requires.device.stored.count (omega (arith, below, zones-facts c.args.zones.now)) c.index_mut.ensures.value (sym kind) (c.scrub.ensures.zone (info_of (facts_at (facts c.args.zones.now) c.args.z.0)))

pub returns-clause-stored : goal.returns-clause-stored
returns-clause-stored c =
    let below = zone_below c.args.zones.now c.args.stores.now.items c.args.z.0 c.requires.device c.requires.zone in
    stores_kept (facts c.args.zones.now) c.args.stores.now.items c.args.z.0 c.index_mut.result.now c.scrub.new.self c.requires.device.stored
    (omega (arith, below, c.requires.device.stored.count, zones-facts c.args.zones.now)) c.index_mut.ensures.value c.scrub.ensures.buffer
