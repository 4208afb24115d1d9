use Rattle.zn_stand.specs.ZoneNames.{device_name}
use Rattle.zn_backing.proofs.Creating.{device_absent, device_makes}
use Rattle.zn_backing.proofs.fresh.make_device.Goals as goal

pub make_file-requires : goal.make_file-requires
unfolding device_name
make_file-requires g c = device_absent c.args.geo.now (g.F.Files.state c.args.files.now) c.requires.zones

pub returns : goal.returns
unfolding device_name
returns g c = device_makes c.args.geo.now c.args.text.now c.make_file.result (g.F.Files.state c.args.files.now) (g.F.Files.state c.make_file.new.files) c.requires.within c.requires.text c.requires.zones c.make_file.ensures
