-- The leases of requests that wait, as leases come and go.
use Rattle.std.proofs.Common.{◌≡◌, ◌≢◌, ℕ, zero, suc, ◌+◌, ◌<◌, List, [], ◌∷◌, ◌++◌, length, get_or, set, map, replicate, Option, Some, None, refl, sym, ap, ◌∙◌, arith, subst, inl, inr}
use Rattle.std.specs.List.{AllByRecursion}
use Rattle.std.specs.Option.{option_map}
use Rattle.std.proofs.lemmas.Bool.{cases_lt, cases_eq}
use Rattle.std.proofs.lemmas.List.{get_or_past, get_or-set_other, get_or-set_same, length-set, set-set, set_comm, set-get_or}
use Rattle.std.proofs.lemmas.List.Sums.{sum_by-cons, sum_by_push}
use Rattle.std.proofs.lemmas.List.FromFn.{length-range_with_len}
use Rattle.zn_model.specs.declared.limits.TheConstants.{POOL_BLOCKS}
use Rattle.zn_pool.specs.PoolState.{LeaseState, size_of, bytes_of, all_free}
use Rattle.zn_queue.specs.declared.queue.Waiting.{Waiting}
use Rattle.zn_queue.specs.QueueState.{request_of}
use Rattle.zn_queue.specs.Kept.{first_block, request_in, HasLease, AreLeased, IsShared, blocks_in}

-- ---- one place of the leases

pub get_or-set_none : (live : List (Option LeaseState)) (f : ℕ) → get_or (set live f None) f None ≡ None
get_or-set_none live f =
    elim (cases_lt f (length live)) [
      | inl within ↦ get_or-set_same live f None None within
      | inr past ↦ get_or_past (set live f None) f None (omega (arith, length-set live f None))
    ]

no_size : (o : Option LeaseState) (n : ℕ) → o ≡ None → option_map (λ (lease : LeaseState). length lease.blocks) o ≡ Some n → ⊥
no_size o n none is = let none_is = sym (ap (option_map (λ (lease : LeaseState). length lease.blocks)) none) ∙ is in cc

-- the lease of a request is live where the leases are the same there
pub has_lease-by : (live live' : List (Option LeaseState)) (w : Waiting) → get_or live' (first_block w) None ≡ get_or live (first_block w) None → HasLease live w → HasLease live' w
has_lease-by live live' w same has = record {
  size = ap (option_map (λ lease. length lease.blocks)) same ∙ has.size;
  bytes = ap (λ o. length (bytes_of o)) same ∙ has.bytes;
  len = has.len;
  some = has.some;
  most = has.most;
}

pub has_lease-other : (live : List (Option LeaseState)) (w : Waiting) (f : ℕ) (o : Option LeaseState) → first_block w ≢ f → HasLease live w → HasLease (set live f o) w
has_lease-other live w f o other has = has_lease-by live (set live f o) w (get_or-set_other live f (first_block w) o None other) has

-- where no lease starts, no request has one
pub has_lease-apart : (live : List (Option LeaseState)) (w : Waiting) (f : ℕ) → get_or live f None ≡ None → HasLease live w → first_block w ≢ f
has_lease-apart live w f none has same = no_size (get_or live (first_block w) None) (size_of w.lease) (ap (λ k. get_or live k None) same ∙ none) has.size

pub has_lease-within : (live : List (Option LeaseState)) (w : Waiting) → HasLease live w → first_block w < length live
has_lease-within live w has =
    elim (cases_lt (first_block w) (length live)) [
      | inl within ↦ within
      | inr past ↦ absurd (no_size (get_or live (first_block w) None) (size_of w.lease) (get_or_past live (first_block w) None past) has.size)
    ]

-- a request that has its lease without another one has it with that one too
pub has_lease-back : (live : List (Option LeaseState)) (w : Waiting) (f : ℕ) → HasLease (set live f None) w → HasLease live w
has_lease-back live w f has =
    let other = has_lease-apart (set live f None) w f (get_or-set_none live f) has in
    has_lease-by (set live f None) live w (sym (get_or-set_other live f (first_block w) None None other)) has

-- ---- the leases of all requests

-- each request has its lease
pub each_leased : (all : List Waiting) (live : List (Option LeaseState)) → AreLeased all live → AllByRecursion (HasLease live) all
each_leased [] live leased = tt
each_leased (w ∷ all) live leased = (leased.0, back all (each_leased all (set live (first_block w) None) leased.1))
  where
    back : (others : List Waiting) → AllByRecursion (HasLease (set live (first_block w) None)) others → AllByRecursion (HasLease live) others
    back [] each = tt
    back (v ∷ others) each = (has_lease-back live v (first_block w) each.0, back others each.1)

-- requests that don't have a lease keep theirs, with their bytes, where it changes
pub requests-other : (all : List Waiting) (live : List (Option LeaseState)) (f : ℕ) (o : Option LeaseState) → AllByRecursion (λ w. first_block w ≢ f) all → map (request_in (set live f o)) all ≡ map (request_in live) all
requests-other [] live f o others = refl
requests-other (w ∷ all) live f o others =
    let same = get_or-set_other live f (first_block w) o None others.0 in
    ap (λ r. r ∷ map (request_in (set live f o)) all) (ap (λ l. request_of w.request (bytes_of l)) same) ∙ ap (λ rs. request_in live w ∷ rs) (requests-other all live f o others.1)

-- none of them has a lease that isn't there
pub each_apart : (all : List Waiting) (live : List (Option LeaseState)) (f : ℕ) → get_or live f None ≡ None → AllByRecursion (HasLease live) all → AllByRecursion (λ w. first_block w ≢ f) all
each_apart [] live f none each = tt
each_apart (w ∷ all) live f none each = (has_lease-apart live w f none each.0, each_apart all live f none each.1)

-- without a lease the others' requests are the same
pub requests-given : (all : List Waiting) (live : List (Option LeaseState)) (f : ℕ) → AreLeased all (set live f None) → map (request_in (set live f None)) all ≡ map (request_in live) all
requests-given all live f leased =
    requests-other all live f None (each_apart all (set live f None) f (get_or-set_none live f) (each_leased all (set live f None) leased))

-- ---- a lease comes

module _ (w : Waiting) (l : LeaseState) where
  pub leased-added : (all : List Waiting) (live : List (Option LeaseState)) → get_or live (first_block w) None ≡ None → first_block w < length live → HasLease (set live (first_block w) (Some l)) w → AreLeased all live → AreLeased (all ++ w ∷ []) (set live (first_block w) (Some l))
  leased-added [] live none within has leased = (has, none_left)
    where
      none_left : (k : ℕ) → get_or (set (set live (first_block w) (Some l)) (first_block w) None) k None ≡ None
      none_left k =
          let f = first_block w in
          elim (cases_eq k f) [
            | inl same ↦ ap (λ i. get_or (set (set live f (Some l)) f None) i None) same ∙ get_or-set_none (set live f (Some l)) f
            | inr other ↦ get_or-set_other (set live f (Some l)) f k None None other ∙ get_or-set_other live f k (Some l) None other ∙ leased k
          ]
  leased-added (v ∷ all) live none within has leased =
      let f = first_block w in
      let g = first_block v in
      let apart : g ≢ f = has_lease-apart live v f none leased.0 in
      let without = set live g None in
      let turn : f ≢ g = λ same. apart (sym same) in
      let none' = get_or-set_other live g f None None turn ∙ none in
      let long = length-set live g None in
      let within' : f < length without = omega arith in
      let place = get_or-set_same without f (Some l) None within' ∙ sym (get_or-set_same live f (Some l) None within) in
      let rest = leased-added all without none' within' (has_lease-by (set live f (Some l)) (set without f (Some l)) w place has) leased.1 in
      (has_lease-other live v f (Some l) apart leased.0, subst (AreLeased (all ++ w ∷ [])) (set_comm live g f None (Some l) apart) rest)

-- the first request goes behind the others
pub leased-rotated : (w : Waiting) (all : List Waiting) (live : List (Option LeaseState)) → AreLeased (w ∷ all) live → AreLeased (all ++ w ∷ []) live
leased-rotated w all live leased = with_lease (get_or live (first_block w) None) refl
  where
    with_lease : (o : Option LeaseState) → get_or live (first_block w) None ≡ o → AreLeased (all ++ w ∷ []) live
    with_lease None here = absurd (no_size (get_or live (first_block w) None) (size_of w.lease) here leased.0.size)
    with_lease (Some l) here =
        let f = first_block w in
        let without = set live f None in
        let within = has_lease-within live w leased.0 in
        let back : set without f (Some l) ≡ live = set-set live f None (Some l) ∙ ap (set live f) (sym here) ∙ set-get_or live f None in
        let has = subst (λ x. HasLease x w) (sym back) leased.0 in
        subst (AreLeased (all ++ w ∷ [])) back (leased-added w l all without (get_or-set_none live f) (omega (arith, length-set live f None)) has leased.1)

-- ---- how many blocks

pub blocks_in-cons : (w : Waiting) (all : List Waiting) → blocks_in (w ∷ all) ≡ size_of w.lease + blocks_in all
blocks_in-cons w all = sum_by-cons (λ v. size_of v.lease) w all

pub blocks_in-push : (all : List Waiting) (w : Waiting) → blocks_in (all ++ w ∷ []) ≡ blocks_in all + size_of w.lease
blocks_in-push all w = sum_by_push (λ v. size_of v.lease) all w

-- ---- at first

none_in : (n k : ℕ) → get_or (replicate {A = Option LeaseState} n None) k None ≡ None
none_in zero k = refl
none_in (suc n) zero = refl
none_in (suc n) (suc k) = none_in n k

pub shared_none : (n : ℕ) → n ≡ POOL_BLOCKS → IsShared (all_free n) []
unfolding all_free
shared_none n whole = record {
  leased = none_in n;
  total = omega (arith, length-range_with_len 0 n);
}
