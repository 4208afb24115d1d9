-- The bytes of blocks in a region.
use Rattle.std.proofs.Common.{◌≡◌, ◌≢◌, ℕ, ◌+◌, ◌-◌, ◌*◌, ◌<◌, ◌≤◌, List, [], ◌∷◌, ◌++◌, length, get_or, take, drop, refl, sym, ap, ◌∙◌, arith, inl, inr}
use Rattle.std.proofs.lemmas.Bool.{cases_order}
use Rattle.std.proofs.lemmas.List.{length-append, length-take-le, length-drop, take-append-drop, take_at, drop_at, drop-take, nil_from_length, drop-drop, append_assoc, take-append-le, take-take, drop-append-le}
use Rattle.zn_truth.specs.declared.limits.TheConstants.{BLOCK_SIZE}
use Rattle.zn_truth.specs.Orders.{replaced}
use Rattle.zn_pool.specs.Chains.{chain, AreBelow, block_bytes, chain_bytes, chain_filled}
use Rattle.zn_pool.proofs.Times.{times, times-cons, times-self, absent_head, absent_tail}
use Rattle.zn_pool.proofs.ChainLaws.{chain-left}

-- ---- one block

module _ (region : List ℕ) (count c : ℕ) (new : List ℕ) (long : length region ≡ BLOCK_SIZE * count) (within : c < count) (block : length new ≡ BLOCK_SIZE) where
  pub length-replaced : length (replaced region (BLOCK_SIZE * c) new) ≡ length region
  length-replaced =
      let front = take (BLOCK_SIZE * c) region in
      omega (arith, length-append (front ++ new) (drop (BLOCK_SIZE * c + length new) region), length-append front new, length-take-le (BLOCK_SIZE * c) region (omega arith), length-drop (BLOCK_SIZE * c + length new) region)

  pub block_bytes-replaced : block_bytes (replaced region (BLOCK_SIZE * c) new) c ≡ new
  block_bytes-replaced =
      let front = take (BLOCK_SIZE * c) region in
      let back = drop (BLOCK_SIZE * c + length new) region in
      let at : length front ≡ BLOCK_SIZE * c = length-take-le (BLOCK_SIZE * c) region (omega arith) in
      ap (λ xs. take BLOCK_SIZE (drop (BLOCK_SIZE * c) xs)) (append_assoc front new back)
      ∙ ap (take BLOCK_SIZE) (drop_at front (new ++ back) (BLOCK_SIZE * c) at)
      ∙ take_at new back BLOCK_SIZE block

  pub block_bytes-other : (b : ℕ) → b < count → b ≢ c → block_bytes (replaced region (BLOCK_SIZE * c) new) b ≡ block_bytes region b
  block_bytes-other b inside other =
      elim (cases_order b c) [
        | inl same ↦ absurd (other same)
        | inr (inl before) ↦ earlier before
        | inr (inr after) ↦ later after
      ]
    where
      earlier : b < c → block_bytes (replaced region (BLOCK_SIZE * c) new) b ≡ block_bytes region b
      earlier before =
          let front = take (BLOCK_SIZE * c) region in
          let back = drop (BLOCK_SIZE * c + length new) region in
          let at : length front ≡ BLOCK_SIZE * c = length-take-le (BLOCK_SIZE * c) region (omega arith) in
          let room : BLOCK_SIZE ≤ length (drop (BLOCK_SIZE * b) front) = omega (arith, length-drop (BLOCK_SIZE * b) front) in
          let split : BLOCK_SIZE * c ≡ BLOCK_SIZE * b + (BLOCK_SIZE * c - BLOCK_SIZE * b) = omega arith in
          ap (λ xs. take BLOCK_SIZE (drop (BLOCK_SIZE * b) xs)) (append_assoc front new back)
          ∙ ap (take BLOCK_SIZE) (drop-append-le (BLOCK_SIZE * b) front (new ++ back) (omega arith))
          ∙ take-append-le BLOCK_SIZE (drop (BLOCK_SIZE * b) front) (new ++ back) room
          ∙ ap (λ n. take BLOCK_SIZE (drop (BLOCK_SIZE * b) (take n region))) split
          ∙ ap (take BLOCK_SIZE) (drop-take (BLOCK_SIZE * b) (BLOCK_SIZE * c - BLOCK_SIZE * b) region)
          ∙ take-take BLOCK_SIZE (BLOCK_SIZE * c - BLOCK_SIZE * b) (drop (BLOCK_SIZE * b) region) (omega arith)

      later : c < b → block_bytes (replaced region (BLOCK_SIZE * c) new) b ≡ block_bytes region b
      later after =
          let front = take (BLOCK_SIZE * c) region ++ new in
          let end = BLOCK_SIZE * c + length new in
          let back = drop end region in
          let at : length front ≡ end = omega (arith, length-append (take (BLOCK_SIZE * c) region) new, length-take-le (BLOCK_SIZE * c) region (omega arith)) in
          let split : BLOCK_SIZE * b ≡ end + (BLOCK_SIZE * b - end) = omega arith in
          ap (take BLOCK_SIZE) (
          ap (λ n. drop n (front ++ back)) split
          ∙ sym (drop-drop (BLOCK_SIZE * b - end) end (front ++ back))
          ∙ ap (drop (BLOCK_SIZE * b - end)) (drop_at front back end at)
          ∙ drop-drop (BLOCK_SIZE * b - end) end region
          ∙ ap (λ n. drop n region) (sym split))

-- ---- the blocks of a chain

pub length-chain_filled : (region : List ℕ) (count : ℕ) (blocks bytes : List ℕ) → length region ≡ BLOCK_SIZE * count → AreBelow count blocks → length bytes ≡ BLOCK_SIZE * length blocks → length (chain_filled region blocks bytes) ≡ length region
length-chain_filled region count [] bytes long below whole = refl
length-chain_filled region count (b ∷ blocks) bytes long below whole =
    let piece : length (take BLOCK_SIZE bytes) ≡ BLOCK_SIZE = length-take-le BLOCK_SIZE bytes (omega arith) in
    let rest : length (drop BLOCK_SIZE bytes) ≡ BLOCK_SIZE * length blocks = omega (arith, length-drop BLOCK_SIZE bytes) in
    let same = length-replaced region count b (take BLOCK_SIZE bytes) long below.0 piece in
    length-chain_filled (replaced region (BLOCK_SIZE * b) (take BLOCK_SIZE bytes)) count blocks (drop BLOCK_SIZE bytes) (same ∙ long) below.1 rest ∙ same

-- a block that isn't in the chain keeps its bytes
pub block_bytes-absent : (region : List ℕ) (count : ℕ) (blocks bytes : List ℕ) → length region ≡ BLOCK_SIZE * count → AreBelow count blocks → length bytes ≡ BLOCK_SIZE * length blocks → (x : ℕ) → x < count → times x blocks ≡ 0 → block_bytes (chain_filled region blocks bytes) x ≡ block_bytes region x
block_bytes-absent region count [] bytes long below whole x inside absent = refl
block_bytes-absent region count (b ∷ blocks) bytes long below whole x inside absent =
    let piece : length (take BLOCK_SIZE bytes) ≡ BLOCK_SIZE = length-take-le BLOCK_SIZE bytes (omega arith) in
    let rest : length (drop BLOCK_SIZE bytes) ≡ BLOCK_SIZE * length blocks = omega (arith, length-drop BLOCK_SIZE bytes) in
    let same = length-replaced region count b (take BLOCK_SIZE bytes) long below.0 piece in
    let differs : x ≢ b = λ e. absent_head x b blocks absent (sym e) in
    block_bytes-absent (replaced region (BLOCK_SIZE * b) (take BLOCK_SIZE bytes)) count blocks (drop BLOCK_SIZE bytes) (same ∙ long) below.1 rest x inside (absent_tail x b blocks absent)
    ∙ block_bytes-other region count b (take BLOCK_SIZE bytes) long below.0 piece x inside differs

-- so do blocks none of which is in the chain
pub chain_bytes-absent : (region : List ℕ) (count : ℕ) (blocks bytes : List ℕ) → length region ≡ BLOCK_SIZE * count → AreBelow count blocks → length bytes ≡ BLOCK_SIZE * length blocks → (others : List ℕ) → AreBelow count others → ((x : ℕ) → 1 ≤ times x others → times x blocks ≡ 0) → chain_bytes (chain_filled region blocks bytes) others ≡ chain_bytes region others
chain_bytes-absent region count blocks bytes long below whole [] inside apart = refl
chain_bytes-absent region count blocks bytes long below whole (x ∷ others) inside apart =
    let first = block_bytes-absent region count blocks bytes long below whole x inside.0 (apart x (omega (arith, times-self x others))) in
    let rest = chain_bytes-absent region count blocks bytes long below whole others inside.1 (λ y among. apart y (omega (arith, among, times-cons y x others))) in
    ap (λ xs. xs ++ chain_bytes (chain_filled region blocks bytes) others) first ∙ ap (λ xs. block_bytes region x ++ xs) rest

-- the chain's own blocks hold what was put into them, where each is there once
pub chain_bytes-filled : (region : List ℕ) (count : ℕ) (blocks bytes : List ℕ) → length region ≡ BLOCK_SIZE * count → AreBelow count blocks → length bytes ≡ BLOCK_SIZE * length blocks → ((x : ℕ) → times x blocks ≤ 1) → chain_bytes (chain_filled region blocks bytes) blocks ≡ bytes
chain_bytes-filled region count [] bytes long below whole once = sym (nil_from_length bytes (omega arith))
chain_bytes-filled region count (b ∷ blocks) bytes long below whole once =
    let first = take BLOCK_SIZE bytes in
    let left = drop BLOCK_SIZE bytes in
    let piece : length first ≡ BLOCK_SIZE = length-take-le BLOCK_SIZE bytes (omega arith) in
    let rest : length left ≡ BLOCK_SIZE * length blocks = omega (arith, length-drop BLOCK_SIZE bytes) in
    let next = replaced region (BLOCK_SIZE * b) first in
    let same = length-replaced region count b first long below.0 piece in
    let absent : times b blocks ≡ 0 = omega (arith, times-self b blocks, once b) in
    let here = block_bytes-absent next count blocks left (same ∙ long) below.1 rest b below.0 absent ∙ block_bytes-replaced region count b first long below.0 piece in
    let others = chain_bytes-filled next count blocks left (same ∙ long) below.1 rest (λ x. omega (arith, once x, times-cons x b blocks)) in
    ap (λ xs. xs ++ chain_bytes (chain_filled next blocks left) blocks) here ∙ ap (λ xs. first ++ xs) others ∙ take-append-drop BLOCK_SIZE bytes

-- the bytes of blocks are as many blocks
pub length-chain_bytes : (region : List ℕ) (count : ℕ) (blocks : List ℕ) → length region ≡ BLOCK_SIZE * count → AreBelow count blocks → length (chain_bytes region blocks) ≡ BLOCK_SIZE * length blocks
length-chain_bytes region count [] long below = refl
length-chain_bytes region count (b ∷ blocks) long below =
    let first : length (block_bytes region b) ≡ BLOCK_SIZE =
    length-take-le BLOCK_SIZE (drop (BLOCK_SIZE * b) region) (let inside : b < count = below.0 in omega (arith, length-drop (BLOCK_SIZE * b) region)) in
    omega (arith, first, length-append (block_bytes region b) (chain_bytes region blocks), length-chain_bytes region count blocks long below.1)

-- ---- what is left to fill or to read, one link on

pub chain_filled-left : (region links bytes : List ℕ) (at n i : ℕ) → i < n → chain_filled region (chain links at (n - i)) (drop (BLOCK_SIZE * i) bytes) ≡ chain_filled (replaced region (BLOCK_SIZE * at) (take BLOCK_SIZE (drop (BLOCK_SIZE * i) bytes))) (chain links (get_or links at 0) (n - (i + 1))) (drop (BLOCK_SIZE * (i + 1)) bytes)
chain_filled-left region links bytes at n i more =
    let next : BLOCK_SIZE * i + BLOCK_SIZE ≡ BLOCK_SIZE * (i + 1) = omega arith in
    ap (λ blocks. chain_filled region blocks (drop (BLOCK_SIZE * i) bytes)) (chain-left links at n i more)
    ∙ ap (chain_filled (replaced region (BLOCK_SIZE * at) (take BLOCK_SIZE (drop (BLOCK_SIZE * i) bytes))) (chain links (get_or links at 0) (n - (i + 1)))) (drop-drop BLOCK_SIZE (BLOCK_SIZE * i) bytes ∙ ap (λ k. drop k bytes) next)

pub chain_bytes-left : (region links : List ℕ) (at n i : ℕ) → i < n → chain_bytes region (chain links at (n - i)) ≡ block_bytes region at ++ chain_bytes region (chain links (get_or links at 0) (n - (i + 1)))
chain_bytes-left region links at n i more = ap (chain_bytes region) (chain-left links at n i more)
