use Rattle.std.proofs.Common.{◌≤◌, Ok, ap, ◌∙◌, arith}
use Rattle.zn_truth.specs.Truth.{Truth, zone_at, with_zone}
use Rattle.zn_truth.specs.Power.{settled}
use Rattle.zn_zone.proofs.Within.{is_within}
use Rattle.zn_zone.specs.Machine.{facts, geometry_in}
use Rattle.zn_files.specs.States.{directory}
use Rattle.zn_stand.specs.ZoneNames.{zone_name}
use Rattle.zn_zloop.specs.Seen.{truth_seen}
use Rattle.zn_zloop.proofs.Commanding.{kinds_told, zone_told, holds_after}
use Rattle.zn_zloop.proofs.Harming.{told_has, harmed_told}
use Rattle.zn_zloop.proofs.zloop.ZloopHarm.settle.Goals as goal

pub kind-requires : goal.kind-requires
kind-requires g c = omega (arith, kinds_told c.args.self.now.is_spoilt (directory (g.F.Files.state c.args.self.now.files)) c.args.self.now.zones c.args.self.now.kepts.items c.args.self.now.listed.items c.args.self.now.holds, c.requires.zone.zone)

pub settle_zone-reply-requires-clause-device : goal.settle_zone-reply-requires-clause-device
settle_zone-reply-requires-clause-device g c = c.args.self.now.holds.device c.requires.unspoilt

pub settle_zone-reply-requires-clause-name : goal.settle_zone-reply-requires-clause-name
settle_zone-reply-requires-clause-name g c = c.zone_name-name.ensures ∙ ap (λ k. zone_name k c.args.z.0) c.kind.ensures

pub settle_zone-reply-requires-clause-within : goal.settle_zone-reply-requires-clause-within
settle_zone-reply-requires-clause-within g c = is_within (geometry_in c.args.self.now.zones) c.args.self.now.holds.limits

pub settle_zone-reply-requires-clause-zone : goal.settle_zone-reply-requires-clause-zone
settle_zone-reply-requires-clause-zone g c = zone_told c.args.self.now.is_spoilt (directory (g.F.Files.state c.args.self.now.files)) c.args.self.now.zones c.args.self.now.kepts.items c.args.self.now.listed.items c.args.z.0 c.args.self.now.holds c.requires.zone

pub settle_zone-reply-requires-clause-from : goal.settle_zone-reply-requires-clause-from
settle_zone-reply-requires-clause-from g c = told_has (λ (t : Truth). (zone_at t c.args.z.0).durable ≤ c.args.from) c.args.self.now.is_spoilt (directory (g.F.Files.state c.args.self.now.files)) c.args.self.now.zones c.args.self.now.kepts.items c.requires.unspoilt c.requires.from

pub settle_zone-reply-requires-clause-len : goal.settle_zone-reply-requires-clause-len
settle_zone-reply-requires-clause-len g c = told_has (λ (t : Truth). c.args.len ≤ (zone_at t c.args.z.0).held) c.args.self.now.is_spoilt (directory (g.F.Files.state c.args.self.now.files)) c.args.self.now.zones c.args.self.now.kepts.items c.requires.unspoilt c.requires.len

pub invariant_of-self : goal.invariant_of-self
invariant_of-self g c =
    let t = truth_seen (directory (g.F.Files.state c.args.self.now.files)) (facts c.args.self.now.zones) c.args.self.now.kepts.items in
    record {
      holds =
          holds_after (record { reply = Ok tt; truth = (λ (t : Truth). with_zone t c.args.z.0 (settled (zone_at t c.args.z.0) c.args.from c.args.len c.args.fill)) t }) c.settle_zone-reply.result c.args.self.now.is_spoilt c.is_failure-self.result (directory (g.F.Files.state c.args.self.now.files)) (directory (g.F.Files.state c.settle_zone-reply.new.files)) c.args.self.now.zones c.settle_zone-reply.new.zones c.args.self.now.kepts.items c.settle_zone-reply.new.kepts.items c.args.self.now.listed.items c.args.self.now.listed.items
          c.args.self.now.holds c.requires.unspoilt c.is_failure-self.ensures c.settle_zone-reply.ensures.geometry c.settle_zone-reply.ensures.follows;
    }

pub returns : goal.returns
returns g c =
    harmed_told (λ (t : Truth). with_zone t c.args.z.0 (settled (zone_at t c.args.z.0) c.args.from c.args.len c.args.fill)) c.settle_zone-reply.result c.args.self.now.is_spoilt c.is_failure-self.result (g.F.Files.state c.args.self.now.files) (g.F.Files.state c.settle_zone-reply.new.files) c.args.self.now.zones c.settle_zone-reply.new.zones c.args.self.now.kepts.items c.settle_zone-reply.new.kepts.items c.args.self.now.listed.items c.args.self.now.listed.items
    c.args.self.now.holds c.requires.unspoilt c.is_failure-self.ensures c.settle_zone-reply.ensures.geometry c.settle_zone-reply.ensures.follows c.settle_zone-reply.ensures.touches
