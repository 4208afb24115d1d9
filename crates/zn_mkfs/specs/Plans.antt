-- What a format resets, by what a report told. (own)
use Rattle.std.specs.Prelude.{ℕ, Bool, ◌&&◌, nat_lt, List, [], ◌∷◌, map, filter, if◌then◌else◌, slice_index_or, false}
use Rattle.std.specs.List.{range_with_len}
use Rattle.zn_truth.specs.declared.Cond.TheVariants.{Offline}
use Rattle.zn_truth.specs.declared.ZoneInfo.{ZoneInfo}
use Rattle.zn_truth.specs.declared.ZoneOp.TheVariants.{Reset}
use Rattle.zn_truth.specs.Truth.{Geometry, kind_at, is_sequential, is_good}
use Rattle.zn_truth.specs.Orders.{Order, Manage}

-- what is told of a zone that no device has
abbrev pub no_info : ZoneInfo
no_info = record { cond = Offline; held = 0; explicit = false }

-- what is told of the zone with this number
abbrev pub told_of : List ZoneInfo → ℕ → ZoneInfo
told_of infos z = slice_index_or infos z no_info

-- a sequential zone other than zone 0 that is good
abbrev pub is_emptied : Geometry → List ZoneInfo → ℕ → Bool
is_emptied g infos z = nat_lt 0 z && is_sequential (kind_at g z) && is_good (told_of infos z).cond

-- its reset
abbrev pub reset_of : Geometry → List ZoneInfo → ℕ → List Order
reset_of g infos z = if is_emptied g infos z then Manage z Reset ∷ [] else []

-- the resets of such zones below one
abbrev pub resets_below : Geometry → List ZoneInfo → ℕ → List Order
resets_below g infos n = map (λ z. Manage z Reset) (filter (is_emptied g infos) (range_with_len 0 n))
