-- The names of zones' files.
use Rattle.std.proofs.Common.{ℕ, ◌<◌, sym, ap, ◌∙◌}
use Rattle.std.specs.Prelude.{◌≢◌}
use Rattle.zn_truth.specs.declared.Kind.{Kind}
use Rattle.zn_stand.specs.ZoneNames.{zone_name, number_in_name}
use Rattle.zn_stand.proofs.DeviceNames.{number_in_zone}

-- two zones have two names
pub names_apart : (a b : Kind) (k z : ℕ) → k < 1000000 → z < 1000000 → k ≢ z → zone_name a k ≢ zone_name b z
names_apart a b k z low small apart same = apart (sym (number_in_zone a k low) ∙ ap number_in_name same ∙ number_in_zone b z small)
