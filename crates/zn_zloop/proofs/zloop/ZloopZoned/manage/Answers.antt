use Rattle.std.proofs.Common.{ap, ◌∙◌, arith}
use Rattle.zn_truth.specs.Orders.{Manage, done}
use Rattle.zn_zone.proofs.Within.{is_within}
use Rattle.zn_zone.specs.Machine.{facts, geometry_in}
use Rattle.zn_files.specs.States.{directory}
use Rattle.zn_stand.specs.ZoneNames.{zone_name}
use Rattle.zn_zloop.specs.Seen.{truth_seen}
use Rattle.zn_zloop.proofs.Commanding.{kinds_told, zone_told, holds_after, commanded_as}
use Rattle.zn_zloop.proofs.zloop.ZloopZoned.manage.Goals as goal

pub kind-requires : goal.kind-requires
kind-requires g c = omega (arith, kinds_told c.args.self.now.is_spoilt (directory (g.F.Files.state c.args.self.now.files)) c.args.self.now.zones c.args.self.now.kepts.items c.args.self.now.listed.items c.args.self.now.holds, c.requires.zone.zone)

pub manage_zone-reply-requires-clause-device : goal.manage_zone-reply-requires-clause-device
manage_zone-reply-requires-clause-device g c = c.args.self.now.holds.device c.requires.unspoilt

pub manage_zone-reply-requires-clause-name : goal.manage_zone-reply-requires-clause-name
manage_zone-reply-requires-clause-name g c = c.zone_name-name.ensures ∙ ap (λ k. zone_name k c.args.z.0) c.kind.ensures

pub manage_zone-reply-requires-clause-within : goal.manage_zone-reply-requires-clause-within
manage_zone-reply-requires-clause-within g c = is_within (geometry_in c.args.self.now.zones) c.args.self.now.holds.limits

pub manage_zone-reply-requires-clause-zone : goal.manage_zone-reply-requires-clause-zone
manage_zone-reply-requires-clause-zone g c = zone_told c.args.self.now.is_spoilt (directory (g.F.Files.state c.args.self.now.files)) c.args.self.now.zones c.args.self.now.kepts.items c.args.self.now.listed.items c.args.z.0 c.args.self.now.holds c.requires.zone

pub invariant_of-self : goal.invariant_of-self
invariant_of-self g c = record {
  holds =
      holds_after (done (truth_seen (directory (g.F.Files.state c.args.self.now.files)) (facts c.args.self.now.zones) c.args.self.now.kepts.items) (Manage c.args.z.0 c.args.op)) c.manage_zone-reply.result c.args.self.now.is_spoilt c.is_failure-self.result
      (directory (g.F.Files.state c.args.self.now.files)) (directory (g.F.Files.state c.manage_zone-reply.new.files)) c.args.self.now.zones c.manage_zone-reply.new.zones c.args.self.now.kepts.items c.manage_zone-reply.new.kepts.items c.args.self.now.listed.items c.args.self.now.listed.items
      c.args.self.now.holds c.requires.unspoilt c.is_failure-self.ensures c.manage_zone-reply.ensures.geometry c.manage_zone-reply.ensures.follows;
}

pub returns : goal.returns
returns g c = record {
  done =
      commanded_as (Manage c.args.z.0 c.args.op) c.manage_zone-reply.result c.args.self.now.is_spoilt c.is_failure-self.result (g.F.Files.state c.args.self.now.files) (g.F.Files.state c.manage_zone-reply.new.files) c.args.self.now.zones c.manage_zone-reply.new.zones c.args.self.now.kepts.items c.manage_zone-reply.new.kepts.items
      c.args.self.now.listed.items c.args.self.now.listed.items c.args.self.now.holds c.requires.unspoilt c.is_failure-self.ensures c.manage_zone-reply.ensures.geometry c.manage_zone-reply.ensures.follows c.manage_zone-reply.ensures.touches;
}
