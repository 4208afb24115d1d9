-- The words of a line from a place on.
use Rattle.std.specs.Prelude.{◌≡◌, ◌≤◌, ℕ, ◌+◌, ◌-◌, List, [], ◌∷◌, length, take, drop, nat_le, if◌then◌else◌}
use Rattle.std.specs.List.{slice_split}
use Rattle.zn_lines.specs.declared.limits.TheConstants.{LINE_LIMIT}
use Rattle.zn_lines.specs.Words.{Left, is_blank}

-- what is left of a line from a place on: nothing from one place behind its end on
unfoldable pub left_at : List ℕ → ℕ → Left
left_at line at = record { column = at + 1; words = if nat_le at (length line) then slice_split is_blank (drop at line) else [] }

-- a place in a line, or one behind its end, where the line is not too long
pub record IsPlaceIn (line : List ℕ) (at : ℕ) : Type 0 where
  pub within : at ≤ length line + 1
  pub short : length line ≤ LINE_LIMIT

-- a word stands from one place to another
pub record NextWord (line : List ℕ) (at end : ℕ) : Type 0 where
  pub words : (left_at line at).words ≡ take (end - at) (drop at line) ∷ (left_at line (end + 1)).words
  pub sized : length (take (end - at) (drop at line)) ≡ end - at
