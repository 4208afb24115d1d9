-- The fields of a pool, and what calls make of them.
use Rattle.std.proofs.Common.{◌≡◌, ◌≢◌, ℕ, zero, suc, ◌<◌, ◌≤◌, List, [], ◌∷◌, ◌++◌, length, get_or, set, map, Option, Some, None, refl, sym, ap, ◌∙◌, arith, inl, inr}
use Rattle.std.specs.List.{flat_map, range_with_len}
use Rattle.std.specs.Option.{option_map}
use Rattle.std.proofs.lemmas.Bool.{cases_lt}
use Rattle.std.proofs.lemmas.List.{get_or_past, get_or-set_other, get_or-set_same, length-set}
use Rattle.std.proofs.lemmas.List.FromFn.{length-map-range_with_len, get_or-map-range_with_len}
use Rattle.zn_pool.specs.declared.pool.Lease.{Lease}
use Rattle.zn_pool.specs.PoolState.{LeaseState, blocks_of, bytes_of, IsLive}
use Rattle.zn_pool.specs.Chains.{chain, AreBelow, chain_bytes}
use Rattle.zn_pool.specs.Kept.{lease_of, leases_of, pool_of}
use Rattle.zn_pool.proofs.Ranges.{map_range-set}
use Rattle.zn_pool.proofs.ChainLaws.{length-chain, below-append}

-- ---- leases

pub lease_of-some : (region links : List ℕ) (b n : ℕ) → 1 ≤ n → lease_of region links b n ≡ Some (record { blocks = chain links b n; bytes = chain_bytes region (chain links b n) })
lease_of-some region links b zero some = absurd (omega arith)
lease_of-some region links b (suc n) some = refl

pub blocks-lease_of : (region links : List ℕ) (b n : ℕ) → blocks_of (lease_of region links b n) ≡ chain links b n
blocks-lease_of region links b zero = refl
blocks-lease_of region links b (suc n) = refl

pub bytes-lease_of : (region links : List ℕ) (b n : ℕ) → bytes_of (lease_of region links b n) ≡ chain_bytes region (chain links b n)
bytes-lease_of region links b zero = refl
bytes-lease_of region links b (suc n) = refl

-- each of a lease's blocks is among those of all leases
pub below-lease : (n : ℕ) (live : List (Option LeaseState)) → AreBelow n (flat_map blocks_of live) → (k : ℕ) → k < length live → AreBelow n (blocks_of (get_or live k None))
below-lease n [] below k within = absurd (omega arith)
below-lease n (l ∷ live) below zero within = (below-append n (blocks_of l) (flat_map blocks_of live) below).0
below-lease n (l ∷ live) below (suc k) within =
    below-lease n live (below-append n (blocks_of l) (flat_map blocks_of live) below).1 k (omega arith)

-- leases that have the same blocks
pub leased-same : (live : List (Option LeaseState)) (k : ℕ) (l : Option LeaseState) → blocks_of l ≡ blocks_of (get_or live k None) → flat_map blocks_of (set live k l) ≡ flat_map blocks_of live
leased-same [] k l same = refl
leased-same (m ∷ live) zero l same = ap (λ xs. xs ++ flat_map blocks_of live) same
leased-same (m ∷ live) (suc k) l same = ap (λ xs. blocks_of m ++ xs) (leased-same live k l same)

module _ (region links counts : List ℕ) where
  pub length-leases_of : length (leases_of region links counts) ≡ length counts
  length-leases_of = length-map-range_with_len (λ first. lease_of region links first (get_or counts first 0)) 0 (length counts)

  pub get_or-leases_of : (k : ℕ) → k < length counts → get_or (leases_of region links counts) k None ≡ lease_of region links k (get_or counts k 0)
  get_or-leases_of k within =
      get_or-map-range_with_len (λ first. lease_of region links first (get_or counts first 0)) 0 (length counts) k k None within (omega arith)

  -- the leases, where one count changes, and no other lease does
  pub leases_of-set : (region' links' : List ℕ) (k n : ℕ) → k < length counts → ((j : ℕ) → j < length counts → j ≢ k → lease_of region' links' j (get_or counts j 0) ≡ lease_of region links j (get_or counts j 0)) → leases_of region' links' (set counts k n) ≡ set (leases_of region links counts) k (lease_of region' links' k n)
  leases_of-set region' links' k n within others =
      let old = λ (j : ℕ). lease_of region links j (get_or counts j 0) in
      let new = λ (j : ℕ). lease_of region' links' j (get_or (set counts k n) j 0) in
      let kept : (j : ℕ) → j < length counts → j ≢ k → new j ≡ old j =
      λ j below other. ap (lease_of region' links' j) (get_or-set_other counts k j n 0 other) ∙ others j below other in
      ap (λ m. map new (range_with_len 0 m)) (length-set counts k n)
      ∙ map_range-set old new (length counts) k within kept
      ∙ ap (λ m. set (leases_of region links counts) k (lease_of region' links' k m)) (get_or-set_same counts k n 0 within)

-- ---- a lease that is live

-- where it stands
pub record IsFound (region links counts : List ℕ) (lease : Lease) : Type 0 where
  pub within : lease.first < length counts
  pub some : 1 ≤ lease.blocks
  pub count : get_or counts lease.first 0 ≡ lease.blocks

none_live : {X : Type 0} (f : LeaseState → X) (o : Option LeaseState) (x : X) → o ≡ None → option_map f o ≡ Some x → ⊥
none_live f o x none is = let none_is = sym (ap (option_map f) none) ∙ is in cc

module _ (region links counts : List ℕ) (head free : ℕ) (lease : Lease) where
  pub found : IsLive (pool_of region links counts head free) lease → IsFound region links counts lease
  found live =
      elim (cases_lt lease.first (length counts)) [
        | inl within ↦ standing within
        | inr past ↦ absurd (none_live (λ l. length l.blocks) _ lease.blocks (get_or_past (leases_of region links counts) lease.first None (omega (arith, length-leases_of region links counts))) live)
      ]
    where
      sized : (n : ℕ) → option_map (λ (l : LeaseState). length l.blocks) (lease_of region links lease.first n) ≡ Some lease.blocks → (1 ≤ lease.blocks) × (n ≡ lease.blocks)
      sized zero is = absurd cc
      sized (suc n) is =
          let long = length-chain links lease.first (suc n) in
          let same : length (chain links lease.first (suc n)) ≡ lease.blocks = cc in
          (omega arith, omega arith)

      standing : lease.first < length counts → IsFound region links counts lease
      standing within =
          let is = sym (ap (option_map (λ l. length l.blocks)) (get_or-leases_of region links counts lease.first within)) ∙ live in
          let size = sized (get_or counts lease.first 0) is in
          record { within = within; some = size.0; count = size.1 }

  pub live_of : IsFound region links counts lease → IsLive (pool_of region links counts head free) lease
  live_of it =
      ap (option_map (λ l. length l.blocks)) (get_or-leases_of region links counts lease.first it.within ∙ ap (lease_of region links lease.first) it.count ∙ lease_of-some region links lease.first lease.blocks it.some)
      ∙ ap Some (length-chain links lease.first lease.blocks)
