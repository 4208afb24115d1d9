-- What it makes of a pool to take, to fill and to give back a lease.
use Rattle.std.proofs.Common.{◌≡◌, ◌≢◌, ℕ, zero, suc, ◌+◌, ◌-◌, ◌*◌, ◌<◌, ◌≤◌, List, [], ◌∷◌, ◌++◌, length, get_or, set, take, drop, Option, Some, None, refl, sym, ap, ◌∙◌, arith, subst, inl, inr}
use Rattle.std.specs.List.{flat_map, range_with_len}
use Rattle.std.specs.List.Sorted.{IsPermutation}
use Rattle.std.specs.Option.{option_map}
use Rattle.std.proofs.lemmas.Bool.{cases_lt}
use Rattle.std.proofs.lemmas.List.{length-set, set-get_or, take_at, drop_at, take-append-drop, length-append, get_or_past}
use Rattle.std.proofs.lemmas.List.FromFn.{length-range_with_len}
use Rattle.std.proofs.lemmas.List.Sorted.{length_permutation}
use Rattle.std.proofs.lemmas.Option.{none-some, same_Some}
use Rattle.zn_truth.specs.declared.limits.TheConstants.{BLOCK_SIZE}
use Rattle.zn_pool.specs.declared.pool.Lease.{Lease}
use Rattle.zn_pool.specs.PoolState.{PoolState, LeaseState, blocks_of, lease_at, leased, IsParted, IsLeaseAt, Takes, first_free, taken, filled, given}
use Rattle.zn_pool.specs.Chains.{chain, block_after, AreBelow, chain_bytes, chain_filled}
use Rattle.zn_pool.specs.Kept.{lease_of, leases_of, pool_of, AreKept}
use Rattle.zn_pool.proofs.Times.{times, times-append, times-self}
use Rattle.zn_pool.proofs.ChainLaws.{length-chain, chain-add, chain-suc, chain-set, chain-joined, below-append}
use Rattle.zn_pool.proofs.BlockBytes.{length-chain_filled, chain_bytes-absent, chain_bytes-filled, length-chain_bytes}
use Rattle.zn_pool.proofs.Parts.{times-parted, below-parted, times-lease-le, times-leases-le, parted-taken, parted-given}
use Rattle.zn_pool.proofs.KeptLaws.{lease_of-some, blocks-lease_of, below-lease, leased-same, length-leases_of, get_or-leases_of, leases_of-set, IsFound}

-- ---- chains and leases

-- a chain has its first block
times-first : (links : List ℕ) (b n : ℕ) → 1 ≤ n → 1 ≤ times b (chain links b n)
times-first links b zero some = absurd (omega arith)
times-first links b (suc n) some = omega (arith, times-self b (chain links (get_or links b 0) n))

-- and its last one, once where none is there twice
times-last : (links : List ℕ) (b n : ℕ) → times (block_after links b n) (chain links b (suc n)) ≡ suc (times (block_after links b n) (chain links b n))
times-last links b n =
    let last = block_after links b n in
    omega (arith, ap (times last) (chain-suc links b n), times-append last (chain links b n) (last ∷ []), times-self last [])

lease_of-link : (region links : List ℕ) (x v b n : ℕ) → times x (chain links b n) ≡ 0 → lease_of region (set links x v) b n ≡ lease_of region links b n
lease_of-link region links x v b zero absent = refl
lease_of-link region links x v b (suc n) absent =
    ap (λ blocks. let l : LeaseState = record { blocks = blocks; bytes = chain_bytes region blocks } in Some l) (chain-set links x v b (suc n) absent)

-- ---- the parts of a pool

-- a pool whose parts are all blocks still, in other fields
parted_by : (n : ℕ) (p q : PoolState) (m : ℕ) → q ≡ p → m ≡ n → IsPermutation (range_with_len 0 n) (p.free ++ leased p) → IsPermutation (range_with_len 0 m) (q.free ++ leased q)
parted_by n p q m same long parted =
    subst (λ k. IsPermutation (range_with_len 0 k) (q.free ++ leased q)) (sym long) (subst (λ r. IsPermutation (range_with_len 0 n) (r.free ++ leased r)) (sym same) parted)

module _ (region links counts : List ℕ) (head free : ℕ) (kept : AreKept region links counts head free) where
  all_once : (x : ℕ) → times x (chain links head free) + times x (flat_map blocks_of (leases_of region links counts)) ≤ 1
  all_once x =
      let front = chain links head free in
      let back = flat_map blocks_of (leases_of region links counts) in
      omega (arith, times-append x front back, times-parted (length counts) (front ++ back) kept.parted x)

  all_below : AreBelow (length counts) (chain links head free) × AreBelow (length counts) (flat_map blocks_of (leases_of region links counts))
  all_below =
      let front = chain links head free in
      let back = flat_map blocks_of (leases_of region links counts) in
      below-append (length counts) front back (below-parted (length counts) (front ++ back) kept.parted)

  pub below_free : AreBelow (length counts) (chain links head free)
  below_free = all_below.0

  -- the blocks of the lease that starts at a block
  pub blocks_at : (k : ℕ) → k < length counts → blocks_of (get_or (leases_of region links counts) k None) ≡ chain links k (get_or counts k 0)
  blocks_at k within = ap blocks_of (get_or-leases_of region links counts k within) ∙ blocks-lease_of region links k (get_or counts k 0)

  pub below_lease : (k : ℕ) → k < length counts → AreBelow (length counts) (chain links k (get_or counts k 0))
  below_lease k within =
      subst (AreBelow (length counts)) (blocks_at k within) (below-lease (length counts) (leases_of region links counts) all_below.1 k (omega (arith, length-leases_of region links counts)))

  -- a block is in one lease or free, and there once
  pub once : (x k : ℕ) → k < length counts → times x (chain links head free) + times x (chain links k (get_or counts k 0)) ≤ 1
  once x k within =
      omega (arith, all_once x, ap (times x) (blocks_at k within), times-lease-le x (leases_of region links counts) k (omega (arith, length-leases_of region links counts)))

  pub apart : (x j k : ℕ) → j < length counts → k < length counts → j ≢ k → times x (chain links k (get_or counts k 0)) + times x (chain links j (get_or counts j 0)) ≤ 1
  apart x j k inside within other =
      omega (arith, all_once x, ap (times x) (blocks_at k within), ap (times x) (blocks_at j inside), times-leases-le x (leases_of region links counts) k j (omega (arith, length-leases_of region links counts)) (omega (arith, length-leases_of region links counts)) other)

  -- no lease starts at a free block
  pub head_unused : 1 ≤ free → head < length counts → get_or counts head 0 ≡ 0
  head_unused some within =
      elim (cases_lt 0 (get_or counts head 0)) [
        | inl used ↦ absurd (omega (arith, once head head within, times-first links head free some, times-first links head (get_or counts head 0) used))
        | inr unused ↦ omega arith
      ]

  pub head_within : 1 ≤ free → head < length counts
  head_within some = first_below free some below_free
    where
      first_below : (n : ℕ) → 1 ≤ n → AreBelow (length counts) (chain links head n) → head < length counts
      first_below zero some below = absurd (omega arith)
      first_below (suc n) some below = below.0

  -- ---- to take

  module _ (n : ℕ) (some : 1 ≤ n) (enough : n ≤ free) where
    free_split : chain links head free ≡ chain links head n ++ chain links (block_after links head n) (free - n)
    free_split = let split : free ≡ n + (free - n) = omega arith in ap (chain links head) split ∙ chain-add links head n (free - n)

    pub below_taken : AreBelow (length counts) (chain links head n)
    below_taken = (below-append (length counts) (chain links head n) (chain links (block_after links head n) (free - n)) (subst (AreBelow (length counts)) free_split below_free)).0

    take_free : take n (chain links head free) ≡ chain links head n
    take_free = ap (take n) free_split ∙ take_at (chain links head n) (chain links (block_after links head n) (free - n)) n (length-chain links head n)

    drop_free : drop n (chain links head free) ≡ chain links (block_after links head n) (free - n)
    drop_free = ap (drop n) free_split ∙ drop_at (chain links head n) (chain links (block_after links head n) (free - n)) n (length-chain links head n)

    first : (m : ℕ) → 1 ≤ m → get_or (chain links head m) 0 0 ≡ head
    first zero none = absurd (omega arith)
    first (suc m) more = refl

    pub head_first : first_free (pool_of region links counts head free) ≡ head
    head_first = first free (omega arith)

    pub pool-taken : pool_of region links (set counts head n) (block_after links head n) (free - n) ≡ taken (pool_of region links counts head free) n (chain_bytes region (chain links head n))
    pool-taken =
        let bytes = chain_bytes region (chain links head n) in
        let within = head_within (omega arith) in
        let live = leases_of-set region links counts region links head n within (λ j below other. refl) ∙ ap (set (leases_of region links counts) head) (lease_of-some region links head n some) in
        ap (λ xs. let p : PoolState = record { free = chain links (block_after links head n) (free - n); live = xs } in p) live
        ∙ ap (λ xs. let p : PoolState = record { free = xs; live = set (leases_of region links counts) head (Some (record { blocks = chain links head n; bytes = bytes })) } in p) (sym drop_free)
        ∙ ap (λ xs. let p : PoolState = record { free = drop n (chain links head free); live = set (leases_of region links counts) head (Some (record { blocks = xs; bytes = bytes })) } in p) (sym take_free)
        ∙ ap (λ k. let p : PoolState = record { free = drop n (chain links head free); live = set (leases_of region links counts) k (Some (record { blocks = take n (chain links head free); bytes = bytes })) } in p) (sym head_first)

    pub unused : lease_at (pool_of region links counts head free) head ≡ None
    unused =
        let within = head_within (omega arith) in
        get_or-leases_of region links counts head within ∙ ap (lease_of region links head) (head_unused (omega arith) within)

    pub kept-taken : AreKept region links (set counts head n) (block_after links head n) (free - n)
    kept-taken =
        let within = head_within (omega arith) in
        let long = length-set counts head n in
        let new : Option LeaseState = Some (record { blocks = take n (chain links head free); bytes = chain_bytes region (chain links head n) }) in
        let parted = parted-taken (length counts) (chain links head free) (leases_of region links counts) head new (omega (arith, length-leases_of region links counts)) kept.parted (drop n (chain links head free)) unused (sym (take-append-drop n (chain links head free))) in
        let at_head = subst (λ k. IsPermutation (range_with_len 0 (length counts)) (drop n (chain links head free) ++ flat_map blocks_of (set (leases_of region links counts) k new))) (sym head_first) parted in
        record {
          linked = kept.linked ∙ sym long;
          whole = omega (arith, kept.whole, long);
          few = omega (arith, kept.few, long);
          parted = parted_by (length counts) (taken (pool_of region links counts head free) n (chain_bytes region (chain links head n))) (pool_of region links (set counts head n) (block_after links head n) (free - n)) (length (set counts head n)) pool-taken long at_head;
        }

    pub takes : (lease : Lease) → lease.first ≡ head → lease.blocks ≡ n → Takes (pool_of region links counts head free) (pool_of region links (set counts head n) (block_after links head n) (free - n)) n lease
    takes lease at size =
        let within = head_within (omega arith) in
        let long = length-chain_bytes region (length counts) (chain links head n) kept.whole below_taken in
        record {
          first = at ∙ sym head_first;
          size = size;
          within = omega (arith, at, length-leases_of region links counts);
          unused = ap (λ k. get_or (leases_of region links counts) k None) at ∙ unused;
          bytes = chain_bytes region (chain links head n);
          long = long ∙ ap (λ k. BLOCK_SIZE * k) (length-chain links head n);
          taken = pool-taken;
        }

  -- ---- to fill

  module _ (lease : Lease) (it : IsFound region links counts lease) where
    pub below_found : AreBelow (length counts) (chain links lease.first lease.blocks)
    below_found = subst (λ n. AreBelow (length counts) (chain links lease.first n)) it.count (below_lease lease.first it.within)

    pub at_found : lease_at (pool_of region links counts head free) lease.first ≡ Some (record { blocks = chain links lease.first lease.blocks; bytes = chain_bytes region (chain links lease.first lease.blocks) })
    at_found = get_or-leases_of region links counts lease.first it.within ∙ ap (lease_of region links lease.first) it.count ∙ lease_of-some region links lease.first lease.blocks it.some

    apart_found : (x j : ℕ) → j < length counts → j ≢ lease.first → times x (chain links lease.first lease.blocks) + times x (chain links j (get_or counts j 0)) ≤ 1
    apart_found x j inside other = omega (arith, apart x j lease.first inside it.within other, ap (λ n. times x (chain links lease.first n)) it.count)

    once_found : (x : ℕ) → times x (chain links head free) + times x (chain links lease.first lease.blocks) ≤ 1
    once_found x = omega (arith, once x lease.first it.within, ap (λ n. times x (chain links lease.first n)) it.count)

    module _ (bytes : List ℕ) (whole : length bytes ≡ BLOCK_SIZE * lease.blocks) where
      pieces : length bytes ≡ BLOCK_SIZE * length (chain links lease.first lease.blocks)
      pieces = whole ∙ ap (λ n. BLOCK_SIZE * n) (sym (length-chain links lease.first lease.blocks))

      other_kept : (j n : ℕ) → AreBelow (length counts) (chain links j n) → ((x : ℕ) → times x (chain links lease.first lease.blocks) + times x (chain links j n) ≤ 1) → lease_of (chain_filled region (chain links lease.first lease.blocks) bytes) links j n ≡ lease_of region links j n
      other_kept j zero below parts = refl
      other_kept j (suc n) below parts =
          let same = chain_bytes-absent region (length counts) (chain links lease.first lease.blocks) bytes kept.whole below_found pieces (chain links j (suc n)) below (λ x among. omega (arith, parts x)) in
          ap (λ xs. let l : LeaseState = record { blocks = chain links j (suc n); bytes = xs } in Some l) same

      pub pool-filled : pool_of (chain_filled region (chain links lease.first lease.blocks) bytes) links counts head free ≡ filled (pool_of region links counts head free) lease.first bytes
      pool-filled =
          let blocks = chain links lease.first lease.blocks in
          let next = chain_filled region blocks bytes in
          let put : Option LeaseState → Option LeaseState = λ o. option_map (λ l. let m : LeaseState = record l { bytes = bytes } in m) o in
          let others = λ (j : ℕ) (inside : j < length counts) (other : j ≢ lease.first). other_kept j (get_or counts j 0) (below_lease j inside) (λ x. apart_found x j inside other) in
          let same = ap (λ ns. leases_of next links ns) (sym (set-get_or counts lease.first 0)) in
          let live = leases_of-set region links counts next links lease.first (get_or counts lease.first 0) it.within others in
          let holds = chain_bytes-filled region (length counts) blocks bytes kept.whole below_found pieces (λ x. omega (arith, once_found x)) in
          let new = ap (lease_of next links lease.first) it.count ∙ lease_of-some next links lease.first lease.blocks it.some ∙ ap (λ xs. let l : LeaseState = record { blocks = blocks; bytes = xs } in Some l) holds in
          let was = ap put at_found in
          ap (λ xs. let p : PoolState = record { free = chain links head free; live = xs } in p) (same ∙ live ∙ ap (set (leases_of region links counts) lease.first) (new ∙ sym was))

      pub kept-filled : AreKept (chain_filled region (chain links lease.first lease.blocks) bytes) links counts head free
      kept-filled =
          let blocks = chain links lease.first lease.blocks in
          let old = pool_of region links counts head free in
          let new = filled old lease.first bytes in
          let put : Option LeaseState → Option LeaseState = λ o. option_map (λ l. let m : LeaseState = record l { bytes = bytes } in m) o in
          let same : blocks_of (put (lease_at old lease.first)) ≡ blocks_of (lease_at old lease.first) = ap (λ o. blocks_of (put o)) at_found ∙ sym (ap blocks_of at_found) in
          let leases = leased-same (leases_of region links counts) lease.first (put (lease_at old lease.first)) same in
          let parted = subst (λ xs. IsPermutation (range_with_len 0 (length counts)) (chain links head free ++ xs)) (sym leases) kept.parted in
          record {
            linked = kept.linked;
            whole = length-chain_filled region (length counts) blocks bytes kept.whole below_found pieces ∙ kept.whole;
            few = kept.few;
            parted = parted_by (length counts) new (pool_of (chain_filled region blocks bytes) links counts head free) (length counts) pool-filled refl parted;
          }

    -- ---- to give back

    module _ (m : ℕ) (size : lease.blocks ≡ suc m) where
      abbrev last : ℕ
      last = block_after links lease.first m

      found_last : 1 ≤ times last (chain links lease.first lease.blocks)
      found_last = omega (arith, ap (λ n. times last (chain links lease.first n)) size, times-last links lease.first m)

      pub last_within : last < length counts
      last_within =
          let below = subst (AreBelow (length counts)) (ap (chain links lease.first) size ∙ chain-suc links lease.first m) below_found in
          (below-append (length counts) (chain links lease.first m) (last ∷ []) below).1.0

      pub below_last : AreBelow (length counts) (chain links lease.first m)
      below_last =
          let below = subst (AreBelow (length counts)) (ap (chain links lease.first) size ∙ chain-suc links lease.first m) below_found in
          (below-append (length counts) (chain links lease.first m) (last ∷ []) below).0

      pub pool-given : pool_of region (set links last head) (set counts lease.first 0) lease.first (free + lease.blocks) ≡ given (pool_of region links counts head free) lease.first
      pool-given =
          let next = set links last head in
          let within : last < length links = omega (arith, last_within, kept.linked) in
          let before : times last (chain links lease.first m) ≡ 0 = omega (arith, once_found last, ap (λ n. times last (chain links lease.first n)) size, times-last links lease.first m) in
          let behind : times last (chain links head free) ≡ 0 = omega (arith, once_found last, found_last) in
          let sum : free + lease.blocks ≡ suc m + free = omega (arith, size) in
          let free_now = ap (chain next lease.first) sum ∙ chain-joined links lease.first m head free within before behind ∙ ap (λ n. chain links lease.first n ++ chain links head free) (sym size) ∙ ap (λ xs. xs ++ chain links head free) (sym (ap blocks_of at_found)) in
          let others = λ (j : ℕ) (inside : j < length counts) (other : j ≢ lease.first). lease_of-link region links last head j (get_or counts j 0) (omega (arith, apart_found last j inside other, found_last)) in
          let live = leases_of-set region links counts region next lease.first 0 it.within others in
          ap (λ xs. let p : PoolState = record { free = xs; live = leases_of region next (set counts lease.first 0) } in p) free_now
          ∙ ap (λ xs. let p : PoolState = record { free = blocks_of (lease_at (pool_of region links counts head free) lease.first) ++ chain links head free; live = xs } in p) live

      pub kept-given : AreKept region (set links last head) (set counts lease.first 0) lease.first (free + lease.blocks)
      kept-given =
          let old = pool_of region links counts head free in
          let long = length-set counts lease.first 0 in
          let parted = parted-given (length counts) (chain links head free) (leases_of region links counts) lease.first (lease_at old lease.first) (omega (arith, it.within, length-leases_of region links counts)) kept.parted refl in
          record {
            linked = length-set links last head ∙ kept.linked ∙ sym long;
            whole = omega (arith, kept.whole, long);
            few = omega (arith, kept.few, long);
            parted = parted_by (length counts) (given old lease.first) (pool_of region (set links last head) (set counts lease.first 0) lease.first (free + lease.blocks)) (length (set counts lease.first 0)) pool-given long parted;
          }

      -- so many blocks are there
      pub fits-given : free + lease.blocks ≤ length counts
      fits-given =
          let whole = kept-given.parted in
          omega (arith, length_permutation _ _ whole, length-range_with_len 0 (length (set counts lease.first 0)), length-set counts lease.first 0, length-append (chain (set links last head) lease.first (free + lease.blocks)) (flat_map blocks_of (leases_of region (set links last head) (set counts lease.first 0))), length-chain (set links last head) lease.first (free + lease.blocks))

  -- ---- to look

  pub is_parted : IsParted (pool_of region links counts head free)
  is_parted = record {
    blocks = subst (λ n. IsPermutation (range_with_len 0 n) (chain links head free ++ flat_map blocks_of (leases_of region links counts))) (sym (length-leases_of region links counts)) kept.parted;
    leases = λ k l here. elim (cases_lt k (length counts)) [
      | inl within ↦ is_lease k (get_or counts k 0) (below_lease k within) l (sym (get_or-leases_of region links counts k within) ∙ here)
      | inr past ↦ absurd (none-some l (sym (get_or_past (leases_of region links counts) k None (omega (arith, length-leases_of region links counts))) ∙ here))
    ];
  }
    where
      is_lease : (k n : ℕ) → AreBelow (length counts) (chain links k n) → (l : LeaseState) → lease_of region links k n ≡ Some l → IsLeaseAt k l
      is_lease k zero below l here = absurd (none-some l here)
      is_lease k (suc n) below l here =
          let blocks = chain links k (suc n) in
          let long = length-chain links k (suc n) in
          let same : ◌≡◌ {A = LeaseState} (record { blocks = blocks; bytes = chain_bytes region blocks }) l = same_Some _ l here in
          subst (IsLeaseAt k) same (record {
            starts = refl;
            some = omega arith;
            bytes = length-chain_bytes region (length counts) blocks kept.whole below;
          })
