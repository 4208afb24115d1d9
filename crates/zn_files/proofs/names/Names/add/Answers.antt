-- The name goes where those that aren't below it begin.
use Rattle.std.proofs.Common.{rules, arith, ◌≡◌, ◌∙◌, ap, sym, subst, String, Global, List, ℕ, ◌≤◌, length, map, true, false}
use Rattle.std.specs.Prelude.{Contains}
use Rattle.std.specs.List.Sorted.{IsPartitionedBy, IsPartitionPoint}
use Rattle.std.specs.String.{string_bytes}
use Rattle.std.proofs.lemmas.List.Sorted.{IsPartitionPoint-from_clause}
use Rattle.zn_files.specs.Names.{IsInOrder, with_name}
use Rattle.zn_files.proofs.NameOrder.{is_below, order_parted, added_name, added_order}
use Rattle.zn_files.proofs.names.Names.add.Goals as goal
use Rattle.zn_files.proofs.names.Names.add.Goals.{In_ok-insert}

pointed : (c : In_ok-insert) → IsPartitionPoint (λ y. is_below c.args.name.now y ≡ true) (λ y. is_below c.args.name.now y ≡ false) c.self.inside.names.items c.partition_point-at.result
pointed c =
    let point = IsPartitionPoint-from_clause (is_below c.args.name.now) _ _ c.partition_point-at.ensures.partitioned (subst (λ (xs : List (String Global)). IsPartitionedBy (is_below c.args.name.now) xs) (sym c.deref.ensures.value) (order_parted c.self.inside.names.items c.args.name.now c.self.invariant)) (λ a r q k. search rules) in
    subst (λ (xs : List (String Global)). IsPartitionPoint (λ y. is_below c.args.name.now y ≡ true) (λ y. is_below c.args.name.now y ≡ false) xs c.partition_point-at.result) c.deref.ensures.value point

fresh : (c : In_ok-insert) → ¬ Contains (map string_bytes c.self.inside.names.items) c.args.name.now
fresh c = subst (λ (names : List (List ℕ)). ¬ Contains names c.args.name.now) (sym c.self.view_is) c.requires

within : (c : In_ok-insert) → c.partition_point-at.result ≤ length c.self.inside.names.items
within c = omega (arith, ap length c.deref.ensures.value, c.partition_point-at.ensures.bound)

pub invariant_of-self-2 : goal.invariant_of-self-2
invariant_of-self-2 c = subst (λ (xs : List (String Global)). IsInOrder (map string_bytes xs)) (sym c.in_ok-insert.ensures.items)
    (added_order c.self.inside.names.items c.in_ok-from_str.field-0 c.args.name.now c.partition_point-at.result c.in_ok-from_str.ensures.ok (within c) c.self.invariant (fresh c) (pointed c))

pub returns-clause-ok : goal.returns-clause-ok
returns-clause-ok c = ap (map string_bytes) c.in_ok-insert.ensures.items
    ∙ added_name c.self.inside.names.items c.in_ok-from_str.field-0 c.args.name.now c.partition_point-at.result c.in_ok-from_str.ensures.ok (within c) c.self.invariant (fresh c) (pointed c)
    ∙ ap (with_name c.args.name.now) c.self.view_is
