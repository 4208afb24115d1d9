-- A pool of free blocks alone.
use Rattle.std.proofs.Common.{◌≡◌, ℕ, zero, suc, ◌+◌, ◌*◌, ◌<◌, ◌≤◌, ◌^◌, List, [], ◌∷◌, ◌++◌, length, get_or, map, replicate, None, refl, sym, ap, ◌∙◌, arith, subst}
use Rattle.std.specs.List.{flat_map, range_with_len}
use Rattle.std.specs.List.Sorted.{IsPermutation}
use Rattle.std.proofs.lemmas.List.{length-replicate, append-nil}
use Rattle.std.proofs.lemmas.List.FromFn.{length-range_with_len, get_or-range_with_len}
use Rattle.std.proofs.lemmas.List.Sorted.{IsPermutation-refl}
use Rattle.zn_truth.specs.declared.limits.TheConstants.{BLOCK_SIZE}
use Rattle.zn_pool.specs.PoolState.{PoolState, blocks_of, leased, all_free}
use Rattle.zn_pool.specs.Chains.{chain}
use Rattle.zn_pool.specs.Kept.{lease_of, leases_of, pool_of, AreKept}

-- the chain of all blocks is their order
chain-range : (n a k : ℕ) → a + k ≤ n → chain (range_with_len 1 n) a k ≡ range_with_len a k
chain-range n a zero fits = refl
chain-range n a (suc k) fits =
    let here : get_or (range_with_len 1 n) a 0 ≡ a + 1 = omega (arith, get_or-range_with_len 1 n a 0 (omega arith)) in
    ap (λ b. a ∷ chain (range_with_len 1 n) b k) here ∙ ap (λ xs. a ∷ xs) (chain-range n (a + 1) k (omega arith))

-- no lease starts anywhere
zero_everywhere : (m b : ℕ) → get_or (replicate {A = ℕ} m 0) b 0 ≡ 0
zero_everywhere zero b = refl
zero_everywhere (suc m) zero = refl
zero_everywhere (suc m) (suc b) = zero_everywhere m b

none_leased : (region links : List ℕ) (n a k : ℕ) → map (λ first. lease_of region links first (get_or (replicate n 0) first 0)) (range_with_len a k) ≡ replicate k None
none_leased region links n a zero = refl
none_leased region links n a (suc k) =
    let rest = map (λ first. lease_of region links first (get_or (replicate n 0) first 0)) (range_with_len (a + 1) k) in
    ap (λ o. o ∷ rest) (ap (lease_of region links a) (zero_everywhere n a)) ∙ ap (λ xs. None ∷ xs) (none_leased region links n (a + 1) k)

leased-none : (k : ℕ) → flat_map blocks_of (replicate k None) ≡ []
leased-none zero = refl
leased-none (suc k) = leased-none k

module _ (region links counts : List ℕ) (n : ℕ) (links_is : links ≡ range_with_len 1 n) (counts_is : counts ≡ replicate n 0) where
  count_long : length counts ≡ n
  count_long = ap length counts_is ∙ length-replicate n 0

  pub pool-fresh : pool_of region links counts 0 n ≡ all_free n
  unfolding all_free
  pool-fresh =
      let free = ap (λ ls. chain ls 0 n) links_is ∙ chain-range n 0 n (omega arith) in
      let live = ap (leases_of region links) counts_is ∙ ap (λ k. map (λ first. lease_of region links first (get_or (replicate n 0) first 0)) (range_with_len 0 k)) (length-replicate n 0) ∙ none_leased region links n 0 n in
      ap (λ xs. let p : PoolState = record { free = xs; live = leases_of region links counts } in p) free
      ∙ ap (λ xs. let p : PoolState = record { free = range_with_len 0 n; live = xs } in p) live

  pub kept-fresh : length region ≡ BLOCK_SIZE * n → n < 2 ^ 32 → AreKept region links counts 0 n
  unfolding all_free
  kept-fresh whole few =
      let all = pool_of region links counts 0 n in
      let parts : (all_free n).free ++ leased (all_free n) ≡ range_with_len 0 n =
      ap (λ xs. range_with_len 0 n ++ xs) (leased-none n) ∙ append-nil (range_with_len 0 n) in
      let parted = subst (λ xs. IsPermutation (range_with_len 0 n) xs) (sym (ap (λ (p : PoolState). p.free ++ leased p) pool-fresh ∙ parts)) (IsPermutation-refl (range_with_len 0 n)) in
      record {
        linked = ap length links_is ∙ length-range_with_len 1 n ∙ sym count_long;
        whole = omega (arith, count_long);
        few = omega (arith, count_long);
        parted = subst (λ k. IsPermutation (range_with_len 0 k) (all.free ++ leased all)) (sym count_long) parted;
      }
