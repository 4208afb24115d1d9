-- Directories by a list of their files.
use Rattle.std.proofs.Common.{◌≡◌, List, map}
use lib.Dec.{T}
use Rattle.std.specs.FinMap.{from_sorted, get-from_sorted, entries-from_sorted, find, is_sorted}
use Rattle.std.specs.Prelude.{ℕ}
use Rattle.zn_stand.specs.Maps.{Name, name_cmp}
use Rattle.zn_stand.specs.AtRest.{lookup_at_rest, at_rest}

-- the device of a directory, by its files in order
pub at_rest_by : (files : List (Name × List ℕ)) → T (is_sorted name_cmp files) → at_rest (from_sorted {R = name_cmp} files) ≡ lookup_at_rest (λ name. find name_cmp name files) (map (λ e. e.0) files)
unfolding at_rest
at_rest_by files sorted = λ i. lookup_at_rest (λ name. get-from_sorted name_cmp files name sorted i) (map (λ e. e.0) (entries-from_sorted name_cmp files sorted i))
