use Rattle.zn_backing.proofs.Creating.{zone_absent, zone_makes}
use Rattle.zn_backing.proofs.fresh.make_zone.Goals as goal

pub make_zeros-requires : goal.make_zeros-requires
make_zeros-requires g c = zone_absent c.args.geo.now c.args.z.0 c.kind_of-kind.result c.zone_name-name.result.now (g.F.Files.state c.args.files.now) c.requires.within c.requires.place c.requires.before c.kind_of-kind.ensures c.zone_name-name.ensures

pub returns : goal.returns
returns g c = zone_makes c.args.geo.now c.args.z.0 c.new_length.result c.kind_of-kind.result c.zone_name-name.result.now c.make_zeros.result (g.F.Files.state c.args.files.now) (g.F.Files.state c.make_zeros.new.files)
    c.requires.within c.requires.place c.requires.before c.kind_of-kind.ensures c.zone_name-name.ensures c.new_length.ensures c.make_zeros.ensures
