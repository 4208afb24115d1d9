-- What is told of the leases of requests that wait.
use Rattle.std.proofs.Common.{◌≡◌, ◌≢◌, ℕ, Bool, zero, suc, ◌*◌, ◌/◌, ◌<◌, List, [], ◌∷◌, length, get_or, set, map, All, Option, Some, None, refl, sym, ap, ◌∙◌, arith, subst, inl, inr}
use Rattle.std.specs.List.{AllByRecursion, AllPairs, Contains, sum_by}
use Rattle.std.specs.Option.{option_map, is_some, IsSome}
use Rattle.std.proofs.lemmas.Bool.{cases_eq, false≢true}
use Rattle.std.proofs.lemmas.List.{get_or-set_other}
use Rattle.std.proofs.lemmas.List.Sums.{sum_by-cons}
use Rattle.std.proofs.lemmas.List.Elements.{All-from_recursion}
use Rattle.zn_truth.specs.declared.limits.TheConstants.{BLOCK_SIZE}
use Rattle.zn_model.specs.Volume.{Queue, Request}
use Rattle.zn_pool.specs.PoolState.{PoolState, LeaseState, size_of, bytes_of}
use Rattle.zn_queue.specs.declared.queue.Waiting.{Waiting}
use Rattle.zn_queue.specs.QueueState.{IsBacked}
use Rattle.zn_queue.specs.Kept.{first_block, request_in, HasLease, AreLeased, IsShared, blocks_in}
use Rattle.zn_queue.proofs.LeaseLaws.{get_or-set_none, each_leased, each_apart, blocks_in-cons}

-- ---- lists by their first element

contains-head : {X : Type 0} (x y : X) (xs : List X) → x ≡ y → Contains (x ∷ xs) y
contains-head x y xs same = (0, omega arith, same)

contains-tail : {X : Type 0} (x y : X) (xs : List X) → Contains xs y → Contains (x ∷ xs) y
contains-tail x y xs there = (suc there.0, (let inside : there.0 < length xs = there.1 in omega arith), there.2)

pairs-cons : (x : ℕ) (xs : List ℕ) → All (λ y. x ≢ y) xs → AllPairs (λ a b. a ≢ b) xs → AllPairs (λ a b. a ≢ b) (x ∷ xs)
pairs-cons x xs first others i zero d before inside = absurd (omega arith)
pairs-cons x xs first others zero (suc j) d before inside = first j d (omega arith)
pairs-cons x xs first others (suc i) (suc j) d before inside = others i j d (omega arith) (omega arith)

-- ---- the leases of the requests

lease_live : (live : List (Option LeaseState)) (w : Waiting) → HasLease live w → IsSome (get_or live (first_block w) None)
lease_live live w has = sized (get_or live (first_block w) None) has.size
  where
    sized : (o : Option LeaseState) → option_map (λ (lease : LeaseState). length lease.blocks) o ≡ Some (size_of w.lease) → IsSome o
    sized None is = absurd cc
    sized (Some l) is = refl

firsts_live : (all : List Waiting) (live : List (Option LeaseState)) → AllByRecursion (HasLease live) all → AllByRecursion (λ first. IsSome (get_or live first None)) (map first_block all)
firsts_live [] live each = tt
firsts_live (w ∷ all) live each = (lease_live live w each.0, firsts_live all live each.1)

firsts_differ : (all : List Waiting) (f : ℕ) → AllByRecursion (λ w. first_block w ≢ f) all → AllByRecursion (λ y. f ≢ y) (map first_block all)
firsts_differ [] f others = tt
firsts_differ (w ∷ all) f others = (λ same. others.0 (sym same), firsts_differ all f others.1)

firsts_apart : (all : List Waiting) (live : List (Option LeaseState)) → AreLeased all live → AllPairs (λ a b. a ≢ b) (map first_block all)
firsts_apart [] live leased = λ i j d before inside. absurd (omega arith)
firsts_apart (w ∷ all) live leased =
    let f = first_block w in
    let without = set live f None in
    let differ = each_apart all without f (get_or-set_none live f) (each_leased all without leased.1) in
    pairs-cons f (map first_block all) (All-from_recursion (λ y. f ≢ y) (map first_block all) (firsts_differ all f differ)) (firsts_apart all without leased.1)

firsts_only : (all : List Waiting) (live : List (Option LeaseState)) → AreLeased all live → (k : ℕ) → IsSome (get_or live k None) → Contains (map first_block all) k
firsts_only [] live leased k some = let none = ap {B = Bool} is_some (leased k) in absurd (false≢true (sym none ∙ some))
firsts_only (w ∷ all) live leased k some =
    let f = first_block w in
    elim (cases_eq k f) [
      | inl same ↦ contains-head f k (map first_block all) (sym same)
      | inr other ↦ contains-tail f k (map first_block all) (firsts_only all (set live f None) leased.1 k (subst IsSome (sym (get_or-set_other live f k None None other)) some))
    ]

bytes_told : (all : List Waiting) (live : List (Option LeaseState)) → map (λ first. bytes_of (get_or live first None)) (map first_block all) ≡ map (λ r. r.bytes) (map (request_in live) all)
bytes_told [] live = refl
bytes_told (w ∷ all) live = ap (λ bs. bytes_of (get_or live (first_block w) None) ∷ bs) (bytes_told all live)

-- the blocks that requests hold are those of their leases
pub blocks_told : (all : List Waiting) (live : List (Option LeaseState)) → AllByRecursion (HasLease live) all → sum_by (λ r. length r.bytes / BLOCK_SIZE) (map (request_in live) all) ≡ blocks_in all
blocks_told [] live each = refl
blocks_told (w ∷ all) live each =
    let r = request_in live w in
    let long : length r.bytes ≡ BLOCK_SIZE * size_of w.lease = each.0.bytes ∙ each.0.len in
    let here : length r.bytes / BLOCK_SIZE ≡ size_of w.lease = omega arith in
    omega (arith, here, blocks_told all live each.1, blocks_in-cons w all, sum_by-cons (λ (q : Request). length q.bytes / BLOCK_SIZE) r (map (request_in live) all))

pub backed : (pool : PoolState) (all : List Waiting) (queue : Queue) → IsShared pool all → queue.queued ≡ map (request_in pool.live) all → IsBacked (record { queue = queue; firsts = map first_block all; pool = pool })
backed pool all queue shared is =
    let each = each_leased all pool.live shared.leased in
    record {
      bytes = bytes_told all pool.live ∙ sym (ap (map (λ r. r.bytes)) is);
      live = All-from_recursion (λ first. IsSome (get_or pool.live first None)) (map first_block all) (firsts_live all pool.live each);
      apart = firsts_apart all pool.live shared.leased;
      only = firsts_only all pool.live shared.leased;
      free = omega (arith, shared.total, ap (sum_by (λ r. length r.bytes / BLOCK_SIZE)) is, blocks_told all pool.live each);
    }
