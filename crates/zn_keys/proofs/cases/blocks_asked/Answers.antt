use Rattle.std.proofs.Common.{refl}
use Rattle.zn_base.specs.Decimals.{number_in}
use Rattle.zn_stand.specs.DeviceText.{is_within}
use Rattle.zn_keys.specs.Keys.{setting_named, given_by, geometry_asked}
use Rattle.zn_keys.proofs.cases.blocks_asked.Goals as goal

pub returns : goal.returns
unfolding number_in is_within setting_named given_by geometry_asked
returns c = refl
