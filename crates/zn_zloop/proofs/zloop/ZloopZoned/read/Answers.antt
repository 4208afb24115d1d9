use Rattle.std.proofs.Common.{length, ◌/◌, refl, ap, ◌∙◌, arith}
use Rattle.zn_truth.specs.Orders.{ReadAt, done}
use Rattle.zn_zone.proofs.Within.{is_within}
use Rattle.zn_zone.specs.Machine.{facts, geometry_in}
use Rattle.zn_files.specs.States.{directory}
use Rattle.zn_stand.specs.ZoneNames.{zone_name}
use Rattle.zn_zloop.specs.Seen.{truth_seen}
use Rattle.zn_zloop.proofs.Commanding.{kinds_told, fits_told, holds_after, commanded_as, bytes_told}
use Rattle.zn_zloop.proofs.zloop.ZloopZoned.read.Goals as goal

pub kind-requires : goal.kind-requires
kind-requires g c = omega (arith, kinds_told c.args.self.now.is_spoilt (directory (g.F.Files.state c.args.self.now.files)) c.args.self.now.zones c.args.self.now.kepts.items c.args.self.now.listed.items c.args.self.now.holds, c.requires.fits.zone)

pub read_zone-reply-requires-clause-device : goal.read_zone-reply-requires-clause-device
read_zone-reply-requires-clause-device g c = c.args.self.now.holds.device c.requires.unspoilt

pub read_zone-reply-requires-clause-name : goal.read_zone-reply-requires-clause-name
read_zone-reply-requires-clause-name g c = c.zone_name-name.ensures ∙ ap (λ k. zone_name k c.args.z.0) c.kind.ensures

pub read_zone-reply-requires-clause-within : goal.read_zone-reply-requires-clause-within
read_zone-reply-requires-clause-within g c = is_within (geometry_in c.args.self.now.zones) c.args.self.now.holds.limits

pub read_zone-reply-requires-clause-fits : goal.read_zone-reply-requires-clause-fits
read_zone-reply-requires-clause-fits g c = fits_told c.args.self.now.is_spoilt (directory (g.F.Files.state c.args.self.now.files)) c.args.self.now.zones c.args.self.now.kepts.items c.args.self.now.listed.items c.args.z.0 c.args.at (length c.args.out.now / 4096) c.args.self.now.holds c.requires.fits

pub invariant_of-self : goal.invariant_of-self
invariant_of-self g c = record {
  holds =
      holds_after (done (truth_seen (directory (g.F.Files.state c.args.self.now.files)) (facts c.args.self.now.zones) c.args.self.now.kepts.items) (ReadAt c.args.z.0 c.args.at (length c.args.out.now / 4096))) c.read_zone-reply.result c.args.self.now.is_spoilt c.is_failure-self.result
      (directory (g.F.Files.state c.args.self.now.files)) (directory (g.F.Files.state c.read_zone-reply.new.files)) c.args.self.now.zones c.args.self.now.zones c.args.self.now.kepts.items c.args.self.now.kepts.items c.args.self.now.listed.items c.args.self.now.listed.items
      c.args.self.now.holds c.requires.unspoilt c.is_failure-self.ensures refl c.read_zone-reply.ensures.follows;
}

pub returns-clause-done : goal.returns-clause-done
returns-clause-done g c =
    commanded_as (ReadAt c.args.z.0 c.args.at (length c.args.out.now / 4096)) c.read_zone-reply.result c.args.self.now.is_spoilt c.is_failure-self.result (g.F.Files.state c.args.self.now.files) (g.F.Files.state c.read_zone-reply.new.files) c.args.self.now.zones c.args.self.now.zones c.args.self.now.kepts.items c.args.self.now.kepts.items
    c.args.self.now.listed.items c.args.self.now.listed.items c.args.self.now.holds c.requires.unspoilt c.is_failure-self.ensures refl c.read_zone-reply.ensures.follows c.read_zone-reply.ensures.touches

pub returns-clause-bytes : goal.returns-clause-bytes
returns-clause-bytes g c = λ ok told. bytes_told c.args.self.now.is_spoilt (g.F.Files.state c.args.self.now.files) c.args.self.now.zones c.args.self.now.kepts.items c.args.z.0 c.args.at (length c.args.out.now / 4096) c.read_zone-reply.new.out c.requires.unspoilt (c.read_zone-reply.ensures.bytes ok) told
