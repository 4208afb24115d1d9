-- Chains of blocks by links.
use Rattle.std.proofs.Common.{◌≡◌, ℕ, zero, suc, ◌+◌, ◌-◌, ◌<◌, List, [], ◌∷◌, ◌++◌, length, get_or, set, refl, sym, ap, ◌∙◌, arith, zero-add}
use Rattle.std.proofs.lemmas.List.{get_or-set_other, get_or-set_same}
use Rattle.zn_pool.proofs.Times.{times, absent_head, absent_tail}
use Rattle.zn_pool.specs.Chains.{chain, block_after, AreBelow}

-- ---- lengths and parts

pub length-chain : (links : List ℕ) (b n : ℕ) → length (chain links b n) ≡ n
length-chain links b zero = refl
length-chain links b (suc n) = ap suc (length-chain links (get_or links b 0) n)

pub chain-add : (links : List ℕ) (b m n : ℕ) → chain links b (m + n) ≡ chain links b m ++ chain links (block_after links b m) n
chain-add links b zero n = ap (chain links b) (zero-add n)
chain-add links b (suc m) n =
    let shift : suc m + n ≡ suc (m + n) = omega arith in
    ap (chain links b) shift ∙ ap (λ rest. b ∷ rest) (chain-add links (get_or links b 0) m n)

pub block_after-suc : (links : List ℕ) (b m : ℕ) → block_after links b (suc m) ≡ get_or links (block_after links b m) 0
block_after-suc links b zero = refl
block_after-suc links b (suc m) = block_after-suc links (get_or links b 0) m

-- the last block of a chain
pub chain-suc : (links : List ℕ) (b m : ℕ) → chain links b (suc m) ≡ chain links b m ++ block_after links b m ∷ []
chain-suc links b m = let shift : suc m ≡ m + 1 = omega arith in ap (chain links b) shift ∙ chain-add links b m 1

-- what is left of a walk, one link on
pub block_after-left : (links : List ℕ) (at n i : ℕ) → i < n → block_after links at (n - i) ≡ block_after links (get_or links at 0) (n - (i + 1))
block_after-left links at n i more = let step : n - i ≡ suc (n - (i + 1)) = omega arith in ap (block_after links at) step

pub chain-left : (links : List ℕ) (at n i : ℕ) → i < n → chain links at (n - i) ≡ at ∷ chain links (get_or links at 0) (n - (i + 1))
chain-left links at n i more = let step : n - i ≡ suc (n - (i + 1)) = omega arith in ap (chain links at) step

-- ---- bounds

pub below-append : (n : ℕ) (xs ys : List ℕ) → AreBelow n (xs ++ ys) → AreBelow n xs × AreBelow n ys
below-append n [] ys below = (tt, below)
below-append n (x ∷ xs) ys below = let rest = below-append n xs ys below.1 in ((below.0, rest.0), rest.1)

-- ---- a link that changes

pub chain-set : (links : List ℕ) (x v b n : ℕ) → times x (chain links b n) ≡ 0 → chain (set links x v) b n ≡ chain links b n
chain-set links x v b zero absent = refl
chain-set links x v b (suc n) absent =
    let next = get_or links b 0 in
    let same = get_or-set_other links x b v 0 (absent_head x b (chain links next n) absent) in
    ap (λ at. b ∷ chain (set links x v) at n) same
    ∙ ap (λ rest. b ∷ rest) (chain-set links x v next n (absent_tail x b (chain links next n) absent))

pub block_after-set : (links : List ℕ) (x v b n : ℕ) → times x (chain links b n) ≡ 0 → block_after (set links x v) b n ≡ block_after links b n
block_after-set links x v b zero absent = refl
block_after-set links x v b (suc n) absent =
    let next = get_or links b 0 in
    let same = get_or-set_other links x b v 0 (absent_head x b (chain links next n) absent) in
    ap (λ at. block_after (set links x v) at n) same ∙ block_after-set links x v next n (absent_tail x b (chain links next n) absent)

-- a chain whose last block is linked to another chain
module _ (links : List ℕ) (b m head k : ℕ) (within : block_after links b m < length links) (before : times (block_after links b m) (chain links b m) ≡ 0) (behind : times (block_after links b m) (chain links head k) ≡ 0) where
  pub chain-joined : chain (set links (block_after links b m) head) b (suc m + k) ≡ chain links b (suc m) ++ chain links head k
  chain-joined =
      let last = block_after links b m in
      let linked = set links last head in
      let front : chain linked b (suc m) ≡ chain links b (suc m) =
      chain-suc linked b m
      ∙ ap (λ xs. xs ++ block_after linked b m ∷ []) (chain-set links last head b m before)
      ∙ ap (λ at. chain links b m ++ at ∷ []) (block_after-set links last head b m before)
      ∙ sym (chain-suc links b m) in
      let next : block_after linked b (suc m) ≡ head =
      block_after-suc linked b m ∙ ap (λ at. get_or linked at 0) (block_after-set links last head b m before) ∙ get_or-set_same links last head 0 within in
      chain-add linked b (suc m) k
      ∙ ap (λ at. chain linked b (suc m) ++ chain linked at k) next
      ∙ ap (λ rest. chain linked b (suc m) ++ rest) (chain-set links last head head k behind)
      ∙ ap (λ xs. xs ++ chain links head k) front
