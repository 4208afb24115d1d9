use Rattle.std.proofs.Common.{arith, refl, sym, subst, ◌≤◌}
use Rattle.zn_zone.specs.Facts.{ZoneFacts, facts_at, info_of}
use Rattle.zn_zone.specs.Machine.{facts}
use Rattle.zn_truth.specs.declared.Kind.TheVariants.{Sequential}
use Rattle.zn_device.proofs.Places.{managed_place, found, kind_found}
use Rattle.zn_device.proofs.Stores.{zones-facts}
use Rattle.zn_device.proofs.Harms.{facts_told, zone_told, full_stays, settle_truth}
use Rattle.zn_device.proofs.harming.settle_stored.Goals as goal

pub cut-requires : goal.cut-requires
cut-requires c =
    let p = managed_place c.args.zones.now c.args.stores.now.items _ c.requires.device c.requires.zone in
    record {
      zone = p.zone;
      kind = p.kind;
      held = subst (λ (zone : ZoneFacts). c.args.len ≤ zone.held) (zone_told c.args.zones.now c.args.stores.now.items c.args.z.0 c.requires.device.stored.count) c.requires.len;
      place = λ full some part.
          absurd (part (full_stays c.args.zones.now c.args.stores.now.items c.args.z.0 c.args.from c.args.len c.requires.device c.sound.ensures p.zone p.kind c.requires.from c.requires.order c.requires.len full));
    }

pub index_mut-requires : goal.index_mut-requires
index_mut-requires c = let p = managed_place c.args.zones.now c.args.stores.now.items _ c.requires.device c.requires.zone in omega (arith, p.store, c.args.stores.now.ok.0)

pub settle-requires-clause-held : goal.settle-requires-clause-held
settle-requires-clause-held c =
    let p = managed_place c.args.zones.now c.args.stores.now.items _ c.requires.device c.requires.zone in
    let known = found c.args.zones.now c.args.stores.now.items c.args.z.0 Sequential (info_of (facts_at (facts c.args.zones.now) c.args.z.0)) c.index_mut.result.now c.requires.device p.zone c.index_mut.ensures.value
    (kind_found c.args.zones.now c.args.z.0 Sequential (sym p.kind)) refl in
    let most : c.args.len ≤ (facts_at (facts c.args.zones.now) c.args.z.0).held =
    subst (λ (zone : ZoneFacts). c.args.len ≤ zone.held) (facts_told (facts c.args.zones.now) c.args.stores.now.items c.args.z.0 c.requires.device.stored.count) c.requires.len in
    omega (arith, known.sound.bytes)

pub returns-clause-truth : goal.returns-clause-truth
returns-clause-truth c =
    let p = managed_place c.args.zones.now c.args.stores.now.items _ c.requires.device c.requires.zone in
    settle_truth (facts c.args.zones.now) (facts c.cut.new.self) c.args.stores.now.items c.args.z.0 c.args.from c.args.len c.args.fill c.index_mut.result.now c.settle.new.self
    c.cut.ensures.facts c.requires.device.stored.count (omega (arith, p.zone, zones-facts c.args.zones.now)) c.index_mut.ensures.value (sym (kind_found c.args.zones.now c.args.z.0 Sequential (sym p.kind)))
    (c.settle.ensures.zone (info_of (facts_at (facts c.args.zones.now) c.args.z.0)))
