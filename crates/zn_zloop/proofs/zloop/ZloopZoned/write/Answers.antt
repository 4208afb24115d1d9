use Rattle.std.proofs.Common.{length, ◌/◌, ap, ◌∙◌, arith}
use Rattle.zn_truth.specs.Orders.{WriteAt, done}
use Rattle.zn_zone.proofs.Within.{is_within}
use Rattle.zn_zone.specs.Machine.{facts, geometry_in}
use Rattle.zn_files.specs.States.{directory}
use Rattle.zn_stand.specs.ZoneNames.{zone_name}
use Rattle.zn_zloop.specs.Seen.{truth_seen}
use Rattle.zn_zloop.proofs.Commanding.{kinds_told, fits_told, holds_after, commanded_as}
use Rattle.zn_zloop.proofs.zloop.ZloopZoned.write.Goals as goal

pub kind-requires : goal.kind-requires
kind-requires g c = omega (arith, kinds_told c.args.self.now.is_spoilt (directory (g.F.Files.state c.args.self.now.files)) c.args.self.now.zones c.args.self.now.kepts.items c.args.self.now.listed.items c.args.self.now.holds, c.requires.fits.zone)

pub write_zone-reply-requires-clause-device : goal.write_zone-reply-requires-clause-device
write_zone-reply-requires-clause-device g c = c.args.self.now.holds.device c.requires.unspoilt

pub write_zone-reply-requires-clause-name : goal.write_zone-reply-requires-clause-name
write_zone-reply-requires-clause-name g c = c.zone_name-name.ensures ∙ ap (λ k. zone_name k c.args.z.0) c.kind.ensures

pub write_zone-reply-requires-clause-within : goal.write_zone-reply-requires-clause-within
write_zone-reply-requires-clause-within g c = is_within (geometry_in c.args.self.now.zones) c.args.self.now.holds.limits

pub write_zone-reply-requires-clause-fits : goal.write_zone-reply-requires-clause-fits
write_zone-reply-requires-clause-fits g c = fits_told c.args.self.now.is_spoilt (directory (g.F.Files.state c.args.self.now.files)) c.args.self.now.zones c.args.self.now.kepts.items c.args.self.now.listed.items c.args.z.0 c.args.at (length c.args.bytes.now / 4096) c.args.self.now.holds c.requires.fits

pub invariant_of-self : goal.invariant_of-self
invariant_of-self g c = record {
  holds =
      holds_after (done (truth_seen (directory (g.F.Files.state c.args.self.now.files)) (facts c.args.self.now.zones) c.args.self.now.kepts.items) (WriteAt c.args.z.0 c.args.at c.args.bytes.now)) c.write_zone-reply.result c.args.self.now.is_spoilt c.is_failure-self.result
      (directory (g.F.Files.state c.args.self.now.files)) (directory (g.F.Files.state c.write_zone-reply.new.files)) c.args.self.now.zones c.write_zone-reply.new.zones c.args.self.now.kepts.items c.write_zone-reply.new.kepts.items c.args.self.now.listed.items c.write_zone-reply.new.listed.items
      c.args.self.now.holds c.requires.unspoilt c.is_failure-self.ensures c.write_zone-reply.ensures.geometry c.write_zone-reply.ensures.follows;
}

pub returns : goal.returns
returns g c = record {
  done =
      commanded_as (WriteAt c.args.z.0 c.args.at c.args.bytes.now) c.write_zone-reply.result c.args.self.now.is_spoilt c.is_failure-self.result (g.F.Files.state c.args.self.now.files) (g.F.Files.state c.write_zone-reply.new.files) c.args.self.now.zones c.write_zone-reply.new.zones c.args.self.now.kepts.items c.write_zone-reply.new.kepts.items
      c.args.self.now.listed.items c.write_zone-reply.new.listed.items c.args.self.now.holds c.requires.unspoilt c.is_failure-self.ensures c.write_zone-reply.ensures.geometry c.write_zone-reply.ensures.follows c.write_zone-reply.ensures.touches;
}
