-- What a setting adds to what is given. (own)
use Rattle.std.specs.Prelude.{Option, Some, None}
use Rattle.zn_keys.specs.declared.given.Given.{Given}
use Rattle.zn_keys.specs.declared.settings.Setting.{Setting}
use Rattle.zn_keys.specs.declared.settings.Setting.TheVariants.{Size, ZoneSize, ZoneCapacity, ConvZones, MaxOpen, MaxActive}
use Rattle.zn_keys.specs.Keys.{◌>>=◌}

-- the value as given, where none was given before
abbrev pub once : {T : Type 0} → Option T → T → Option (Option T)
once None n = Some (Some n)
once (Some before) n = None

-- what is given with this setting too
abbrev pub with_setting : Given → Setting → Option Given
with_setting given (Size n) = once given.size n >>= (λ size. Some (record given { size = size }))
with_setting given (ZoneSize n) = once given.zone_size n >>= (λ size. Some (record given { zone_size = size }))
with_setting given (ZoneCapacity n) =
    once given.zone_capacity n >>= (λ size. Some (record given { zone_capacity = size }))
with_setting given (ConvZones n) = once given.conv_zones n >>= (λ zones. Some (record given { conv_zones = zones }))
with_setting given (MaxOpen n) = once given.max_open n >>= (λ limit. Some (record given { max_open = limit }))
with_setting given (MaxActive n) = once given.max_active n >>= (λ limit. Some (record given { max_active = limit }))
