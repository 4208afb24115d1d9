use Rattle.std.proofs.Common.{Ok, refl, ap, ◌∙◌, arith}
use Rattle.zn_truth.specs.Truth.{Truth, zone_at, with_zone}
use Rattle.zn_device.specs.Harms.{scrubbed}
use Rattle.zn_truth.specs.declared.Kind.TheVariants.{Conventional}
use Rattle.zn_zone.proofs.Within.{is_within}
use Rattle.zn_zone.specs.Machine.{facts, geometry_in}
use Rattle.zn_files.specs.States.{directory}
use Rattle.zn_stand.specs.ZoneNames.{zone_name}
use Rattle.zn_zloop.specs.Seen.{truth_seen}
use Rattle.zn_zloop.proofs.Commanding.{kinds_told, holds_after}
use Rattle.zn_zloop.proofs.Harming.{inside_told, kind_told_at, harmed_told}
use Rattle.zn_zloop.proofs.zloop.ZloopHarm.scrub.Goals as goal

pub kind-requires : goal.kind-requires
kind-requires g c = omega (arith, kinds_told c.args.self.now.is_spoilt (directory (g.F.Files.state c.args.self.now.files)) c.args.self.now.zones c.args.self.now.kepts.items c.args.self.now.listed.items c.args.self.now.holds, c.requires.zone)

pub scrub_zone-reply-requires-clause-device : goal.scrub_zone-reply-requires-clause-device
scrub_zone-reply-requires-clause-device g c = c.args.self.now.holds.device c.requires.unspoilt

pub scrub_zone-reply-requires-clause-name : goal.scrub_zone-reply-requires-clause-name
scrub_zone-reply-requires-clause-name g c = c.zone_name-name.ensures ∙ ap (λ k. zone_name k c.args.z.0) c.kind.ensures

pub scrub_zone-reply-requires-clause-within : goal.scrub_zone-reply-requires-clause-within
scrub_zone-reply-requires-clause-within g c = is_within (geometry_in c.args.self.now.zones) c.args.self.now.holds.limits

pub scrub_zone-reply-requires-clause-zone : goal.scrub_zone-reply-requires-clause-zone
scrub_zone-reply-requires-clause-zone g c = inside_told c.args.self.now.is_spoilt (directory (g.F.Files.state c.args.self.now.files)) c.args.self.now.zones c.args.self.now.kepts.items c.args.self.now.listed.items c.args.z.0 c.args.self.now.holds c.requires.zone

pub scrub_zone-reply-requires-clause-kind : goal.scrub_zone-reply-requires-clause-kind
scrub_zone-reply-requires-clause-kind g c = kind_told_at c.args.self.now.is_spoilt (directory (g.F.Files.state c.args.self.now.files)) c.args.self.now.zones c.args.self.now.kepts.items c.args.self.now.listed.items c.args.z.0 Conventional c.args.self.now.holds c.requires.kind

pub invariant_of-self : goal.invariant_of-self
invariant_of-self g c =
    let t = truth_seen (directory (g.F.Files.state c.args.self.now.files)) (facts c.args.self.now.zones) c.args.self.now.kepts.items in
    record {
      holds =
          holds_after (record { reply = Ok tt; truth = (λ (t : Truth). with_zone t c.args.z.0 (scrubbed (zone_at t c.args.z.0) c.args.fill)) t }) c.scrub_zone-reply.result c.args.self.now.is_spoilt c.is_failure-self.result (directory (g.F.Files.state c.args.self.now.files)) (directory (g.F.Files.state c.scrub_zone-reply.new.files)) c.args.self.now.zones c.args.self.now.zones c.args.self.now.kepts.items c.scrub_zone-reply.new.kepts.items c.args.self.now.listed.items c.args.self.now.listed.items
          c.args.self.now.holds c.requires.unspoilt c.is_failure-self.ensures refl c.scrub_zone-reply.ensures.follows;
    }

pub returns : goal.returns
returns g c =
    harmed_told (λ (t : Truth). with_zone t c.args.z.0 (scrubbed (zone_at t c.args.z.0) c.args.fill)) c.scrub_zone-reply.result c.args.self.now.is_spoilt c.is_failure-self.result (g.F.Files.state c.args.self.now.files) (g.F.Files.state c.scrub_zone-reply.new.files) c.args.self.now.zones c.args.self.now.zones c.args.self.now.kepts.items c.scrub_zone-reply.new.kepts.items c.args.self.now.listed.items c.args.self.now.listed.items
    c.args.self.now.holds c.requires.unspoilt c.is_failure-self.ensures refl c.scrub_zone-reply.ensures.follows c.scrub_zone-reply.ensures.touches
