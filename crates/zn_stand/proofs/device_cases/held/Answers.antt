use Rattle.std.proofs.Common.{refl, ◌∙◌}
use Rattle.std.specs.Fmt.{digits}
use Rattle.zn_base.specs.Decimals.{number_in}
use Rattle.zn_stand.specs.ZoneNames.{device_name, zone_name, read_only_name, offline_name, six_digits, number_in_name, is_marker_of, is_name_of}
use Rattle.zn_stand.specs.DeviceText.{device_text, text_read, shape_read, lines_read, number_line, is_within}
use Rattle.zn_stand.specs.AtRest.{device_at_rest}
use Rattle.zn_stand.specs.DeviceCases.{two_marked}
use Rattle.zn_stand.proofs.DeviceLookups.{at_rest_by}
use Rattle.zn_stand.proofs.device_cases.held.Goals as goal

pub returns : goal.returns
unfolding digits number_in device_name zone_name read_only_name offline_name six_digits number_in_name is_marker_of is_name_of device_text text_read shape_read lines_read number_line is_within device_at_rest
returns c = at_rest_by two_marked tt ∙ refl
