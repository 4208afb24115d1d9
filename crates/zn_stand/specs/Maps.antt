-- Maps from the names of files, in the order of the names' bytes. (own)
use Rattle.std.specs.Prelude.{ℕ, List, Option}
use Rattle.std.specs.List.{filter_map}
use Rattle.std.specs.Option.{option_map}
use Rattle.std.specs.Ordering.{nat_cmp}
use Rattle.std.specs.declared.cmp.Ordering.{Ordering}
use Rattle.std.specs.Cmp.Lexicographic.{slice_cmp}
use Rattle.std.specs.FinMap.{FinMap, entries, from_entries}

-- a name, by its bytes
abbrev pub Name : Type 0
Name = List ℕ

-- the order of names: that of their bytes
abbrev pub name_cmp : Name → Name → Ordering
name_cmp = slice_cmp nat_cmp

-- what has one value, or none, at each name
abbrev pub NameMap : Type 0 → Type 0
NameMap X = FinMap name_cmp X

-- the map with each value replaced by itself, and those dropped that have none
abbrev pub mapped : {X Y : Type 0} → (X → Option Y) → NameMap X → NameMap Y
mapped g m = from_entries (filter_map (λ e. option_map (λ y. (e.0, y)) (g e.1)) (entries m))
