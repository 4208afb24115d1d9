use Rattle.std.proofs.Common.{◌<◌, Ok, ap, ◌∙◌, arith}
use Rattle.zn_truth.specs.Truth.{Truth, zone_at}
use Rattle.zn_truth.specs.Loss.{turned}
use Rattle.zn_truth.specs.Inject.{severity}
use Rattle.zn_zone.proofs.Within.{is_within}
use Rattle.zn_zone.specs.Machine.{facts, geometry_in}
use Rattle.zn_files.specs.States.{directory}
use Rattle.zn_stand.specs.ZoneNames.{zone_name}
use Rattle.zn_zloop.specs.Seen.{truth_seen}
use Rattle.zn_zloop.proofs.Commanding.{kinds_told, holds_after}
use Rattle.zn_zloop.proofs.Harming.{inside_told, told_has, harmed_told}
use Rattle.zn_zloop.proofs.zloop.ZloopHarm.turn.Goals as goal

pub kind-requires : goal.kind-requires
kind-requires g c = omega (arith, kinds_told c.args.self.now.is_spoilt (directory (g.F.Files.state c.args.self.now.files)) c.args.self.now.zones c.args.self.now.kepts.items c.args.self.now.listed.items c.args.self.now.holds, c.requires.zone)

pub turn_zone-reply-requires-clause-device : goal.turn_zone-reply-requires-clause-device
turn_zone-reply-requires-clause-device g c = c.args.self.now.holds.device c.requires.unspoilt

pub turn_zone-reply-requires-clause-name : goal.turn_zone-reply-requires-clause-name
turn_zone-reply-requires-clause-name g c = c.zone_name-name.ensures ∙ ap (λ k. zone_name k c.args.z.0) c.kind.ensures

pub turn_zone-reply-requires-clause-within : goal.turn_zone-reply-requires-clause-within
turn_zone-reply-requires-clause-within g c = is_within (geometry_in c.args.self.now.zones) c.args.self.now.holds.limits

pub turn_zone-reply-requires-clause-zone : goal.turn_zone-reply-requires-clause-zone
turn_zone-reply-requires-clause-zone g c = inside_told c.args.self.now.is_spoilt (directory (g.F.Files.state c.args.self.now.files)) c.args.self.now.zones c.args.self.now.kepts.items c.args.self.now.listed.items c.args.z.0 c.args.self.now.holds c.requires.zone

pub turn_zone-reply-requires-clause-worse : goal.turn_zone-reply-requires-clause-worse
turn_zone-reply-requires-clause-worse g c = told_has (λ (t : Truth). severity (zone_at t c.args.z.0).cond < severity c.args.to) c.args.self.now.is_spoilt (directory (g.F.Files.state c.args.self.now.files)) c.args.self.now.zones c.args.self.now.kepts.items c.requires.unspoilt c.requires.worse

pub invariant_of-self : goal.invariant_of-self
invariant_of-self g c =
    let t = truth_seen (directory (g.F.Files.state c.args.self.now.files)) (facts c.args.self.now.zones) c.args.self.now.kepts.items in
    record {
      holds =
          holds_after (record { reply = Ok tt; truth = (λ (t : Truth). turned t c.args.z.0 c.args.to) t }) c.turn_zone-reply.result c.args.self.now.is_spoilt c.is_failure-self.result (directory (g.F.Files.state c.args.self.now.files)) (directory (g.F.Files.state c.turn_zone-reply.new.files)) c.args.self.now.zones c.turn_zone-reply.new.zones c.args.self.now.kepts.items c.turn_zone-reply.new.kepts.items c.args.self.now.listed.items c.args.self.now.listed.items
          c.args.self.now.holds c.requires.unspoilt c.is_failure-self.ensures c.turn_zone-reply.ensures.geometry c.turn_zone-reply.ensures.follows;
    }

pub returns : goal.returns
returns g c =
    harmed_told (λ (t : Truth). turned t c.args.z.0 c.args.to) c.turn_zone-reply.result c.args.self.now.is_spoilt c.is_failure-self.result (g.F.Files.state c.args.self.now.files) (g.F.Files.state c.turn_zone-reply.new.files) c.args.self.now.zones c.turn_zone-reply.new.zones c.args.self.now.kepts.items c.turn_zone-reply.new.kepts.items c.args.self.now.listed.items c.args.self.now.listed.items
    c.args.self.now.holds c.requires.unspoilt c.is_failure-self.ensures c.turn_zone-reply.ensures.geometry c.turn_zone-reply.ensures.follows c.turn_zone-reply.ensures.touches
