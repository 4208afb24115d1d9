-- Names in order. (own)
use Rattle.std.specs.Prelude.{◌≡◌, ℕ, ◌<◌, List, [], ◌∷◌, length, slice_index_or, if◌then◌else◌}
use Rattle.std.specs.Ordering.{is_lt}
use Rattle.std.specs.declared.cmp.Ordering.TheVariants.{Less}
use Rattle.zn_stand.specs.Maps.{Name, name_cmp}

-- each name is below those behind it
abbrev pub IsInOrder : List Name → Type 0
IsInOrder names = (i j : ℕ) → i < j → j < length names → name_cmp (slice_index_or names i []) (slice_index_or names j []) ≡ Less

-- the names with one more, behind those that are below it
abbrev pub with_name : Name → List Name → List Name
with_name name [] = name ∷ []
with_name name (first ∷ names) = if is_lt (name_cmp first name) then first ∷ with_name name names else name ∷ first ∷ names
