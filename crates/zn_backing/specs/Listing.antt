-- Names of a directory, and lines of a text. (own)
use Rattle.std.specs.Prelude.{ℕ, Bool, ◌==◌, List, take, Option, position}
use Rattle.std.specs.List.{list_any}
use Rattle.std.specs.Option.{option_map}
use Rattle.std.specs.Ordering.{eq_by_cmp}
use Rattle.zn_stand.specs.Maps.{Name, name_cmp}
use Rattle.zn_stand.specs.DeviceText.{newline}

-- a name is among these
abbrev pub is_among : List Name → Name → Bool
is_among names name = list_any (eq_by_cmp name_cmp name) names

-- the bytes before the first newline, if there is one
abbrev pub line_of : List ℕ → Option (List ℕ)
line_of text = option_map (λ n. take n text) (position (λ b. b == newline) text)
