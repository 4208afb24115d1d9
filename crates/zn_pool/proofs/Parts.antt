-- The blocks of leases and the free ones, as parts of all blocks.
use Rattle.std.proofs.Common.{◌≡◌, ◌≢◌, ℕ, zero, suc, ◌+◌, ◌<◌, ◌≤◌, cond, eqb, List, [], ◌∷◌, ◌++◌, length, get_or, set, Option, None, refl, sym, ap, ◌∙◌, arith, subst, append_assoc}
use Rattle.std.specs.List.{flat_map, range_with_len, sum_by}
use Rattle.std.specs.List.Sorted.{IsPermutation}
use Rattle.std.proofs.lemmas.List.{get_or-set_other, get_or-set_same, length-set, set-set, set-get_or}
use Rattle.std.proofs.lemmas.List.Sums.{sum_by-cons, sum_by-set, get_or-le-sum_by}
use Rattle.std.proofs.lemmas.List.Elements.{recursion_from_All}
use Rattle.std.proofs.lemmas.List.Sorted.{IsPermutation-refl, IsPermutation-sym, IsPermutation-trans, IsPermutation-append_left, IsPermutation-append_right, IsPermutation-append_comm, All-permutation, sum_by-IsPermutation}
use Rattle.zn_pool.specs.PoolState.{LeaseState, blocks_of}
use Rattle.zn_pool.specs.Chains.{AreBelow}
use Rattle.zn_pool.proofs.Times.{times, times-append}
use Rattle.zn_pool.proofs.Ranges.{times-range, below-range}

-- ---- each block is in one part

-- how often a block is among those of leases
pub times-leases : (x : ℕ) (live : List (Option LeaseState)) → times x (flat_map blocks_of live) ≡ sum_by (λ l. times x (blocks_of l)) live
times-leases x [] = refl
times-leases x (l ∷ live) =
    times-append x (blocks_of l) (flat_map blocks_of live) ∙ ap (λ n. times x (blocks_of l) + n) (times-leases x live) ∙ sym (sum_by-cons (λ m. times x (blocks_of m)) l live)

-- those of one lease are among those of all
pub times-lease-le : (x : ℕ) (live : List (Option LeaseState)) (i : ℕ) → i < length live → times x (blocks_of (get_or live i None)) ≤ times x (flat_map blocks_of live)
times-lease-le x live i within =
    omega (arith, times-leases x live, get_or-le-sum_by (λ l. times x (blocks_of l)) live i None within)

-- and so are those of two
pub times-leases-le : (x : ℕ) (live : List (Option LeaseState)) (i j : ℕ) → i < length live → j < length live → j ≢ i → times x (blocks_of (get_or live i None)) + times x (blocks_of (get_or live j None)) ≤ times x (flat_map blocks_of live)
times-leases-le x live i j first second other =
    let count = λ (l : Option LeaseState). times x (blocks_of l) in
    let without = set live i None in
    let kept = ap count (get_or-set_other live i j None None other) in
    omega (arith, times-leases x live, sum_by-set count live i None None first, kept, get_or-le-sum_by count without j None (omega (arith, length-set live i None)))

module _ (n : ℕ) (all : List ℕ) (parted : IsPermutation (range_with_len 0 n) all) where
  pub times-parted : (x : ℕ) → times x all ≤ 1
  times-parted x = omega (arith, sum_by-IsPermutation (λ b. cond (eqb b x) 1 0) (range_with_len 0 n) all parted, times-range x 0 n)

  pub below-parted : AreBelow n all
  below-parted = recursion_from_All (λ b. b < n) all (All-permutation (λ b. b < n) (range_with_len 0 n) all parted (below-range n))

-- ---- blocks that go from one part to the other

-- a lease in a place where none was
pub leases-added : (live : List (Option LeaseState)) (k : ℕ) (l : Option LeaseState) → k < length live → get_or live k None ≡ None → IsPermutation (flat_map blocks_of (set live k l)) (blocks_of l ++ flat_map blocks_of live)
leases-added [] k l within none = absurd (omega arith)
leases-added (m ∷ live) zero l within none =
    subst (λ rest. IsPermutation (blocks_of l ++ flat_map blocks_of live) (blocks_of l ++ (rest ++ flat_map blocks_of live))) (sym (ap blocks_of none)) (IsPermutation-refl (blocks_of l ++ flat_map blocks_of live))
leases-added (m ∷ live) (suc k) l within none =
    let first = blocks_of m in
    let new = blocks_of l in
    let rest = flat_map blocks_of live in
    let inner = IsPermutation-append_right first (flat_map blocks_of (set live k l)) (new ++ rest) (leases-added live k l (omega arith) none) in
    let moved = IsPermutation-append_left rest (first ++ new) (new ++ first) (IsPermutation-append_comm first new) in
    IsPermutation-trans _ _ _ inner (subst (λ xs. IsPermutation xs (new ++ (first ++ rest))) (append_assoc first new rest) (subst (IsPermutation (first ++ new ++ rest)) (append_assoc new first rest) moved))

module _ (n : ℕ) (free : List ℕ) (live : List (Option LeaseState)) (k : ℕ) (l : Option LeaseState) (within : k < length live) (parted : IsPermutation (range_with_len 0 n) (free ++ flat_map blocks_of live)) where
  -- the first free blocks become a lease
  pub parted-taken : (rest : List ℕ) → get_or live k None ≡ None → free ≡ blocks_of l ++ rest → IsPermutation (range_with_len 0 n) (rest ++ flat_map blocks_of (set live k l))
  parted-taken rest none split =
      let new = blocks_of l in
      let others = flat_map blocks_of live in
      let start = subst (λ xs. IsPermutation (range_with_len 0 n) (xs ++ others)) split parted in
      let moved = IsPermutation-append_left others (new ++ rest) (rest ++ new) (IsPermutation-append_comm new rest) in
      let grouped = subst (IsPermutation (new ++ rest ++ others)) (append_assoc rest new others) moved in
      let added = IsPermutation-append_right rest (new ++ others) (flat_map blocks_of (set live k l)) (IsPermutation-sym _ _ (leases-added live k l within none)) in
      IsPermutation-trans _ _ _ start (IsPermutation-trans _ _ _ grouped added)

  -- the blocks of a lease become the first free ones
  pub parted-given : get_or live k None ≡ l → IsPermutation (range_with_len 0 n) (blocks_of l ++ free ++ flat_map blocks_of (set live k None))
  parted-given here =
      let gone = blocks_of l in
      let without = set live k None in
      let others = flat_map blocks_of without in
      let back : set without k l ≡ live = set-set live k None l ∙ ap (set live k) (sym here) ∙ set-get_or live k None in
      let added = leases-added without k l (omega (arith, length-set live k None)) (get_or-set_same live k None None within) in
      let split = subst (λ xs. IsPermutation (flat_map blocks_of xs) (gone ++ others)) back added in
      let whole = IsPermutation-append_right free (flat_map blocks_of live) (gone ++ others) split in
      let grouped = subst (IsPermutation (free ++ flat_map blocks_of live)) (sym (append_assoc free gone others)) whole in
      let moved = IsPermutation-append_left others (free ++ gone) (gone ++ free) (IsPermutation-append_comm free gone) in
      IsPermutation-trans _ _ _ parted (IsPermutation-trans _ _ _ grouped moved)
