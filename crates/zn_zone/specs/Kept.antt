-- What is kept beside the zones, so that no command walks them. (own)
use Rattle.std.specs.Prelude.{◌≡◌, ◌≤◌, ℕ, Bool, List, length, map}
use Rattle.zn_truth.specs.declared.limits.TheConstants.{MAX_ZONES}
use Rattle.zn_zone.specs.declared.state.State.{State}
use Rattle.zn_zone.specs.Table.{is_implicit}
use Rattle.zn_zone.specs.Machine.{active_in, open_in}

-- which zones are implicitly open
abbrev pub implicit_in : List State → List Bool
implicit_in zones = map (λ zone. is_implicit zone.raw) zones

-- The numbers kept are those of the active and of the open zones, and the marks are on the implicitly open ones.
pub record IsKept (zones : List State) (actives opens : ℕ) (marks : List Bool) : Type 0 where
  pub few : length zones ≤ MAX_ZONES
  pub active : actives ≡ active_in zones
  pub opened : opens ≡ open_in zones
  pub implicit : marks ≡ implicit_in zones
