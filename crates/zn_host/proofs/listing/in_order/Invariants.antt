use Rattle.std.proofs.Common.{◌≡◌, ◌++◌, map}
use Rattle.std.specs.BTreeMap as tree
use Rattle.std.specs.String.{string_bytes, string_cmp}
use Rattle.zn_host.proofs.listing.in_order.Given as goal

-- the names so far, and those that are left
abbrev pub invariant-loop-name : goal.invariant-loop-name
invariant-loop-name l = record {
  can : (goal.iterator-loop-name).can_next l.name-iterator;
  finite : (goal.iterator-loop-name).is_finite l.name-iterator;
  names : l.names ++ map string_bytes l.name-iterator ≡ map string_bytes (tree.keys l.found);
  order : tree.IsOrdered string_cmp l.found;
}
