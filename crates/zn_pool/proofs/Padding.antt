-- Regions of which only the first bytes are kept.
use Rattle.std.proofs.Common.{◌≡◌, ℕ, ◌+◌, ◌-◌, ◌*◌, ◌<◌, ◌≤◌, List, ◌++◌, length, take, drop, replicate, sym, ap, ◌∙◌, arith, append_assoc}
use Rattle.std.proofs.lemmas.List.{length-append, length-replicate, length-take-le, length-drop, take-append-le, drop-append-le, take_at, drop_at, drop-drop, take-replicate, drop-replicate, replicate-append-replicate}
use Rattle.zn_truth.specs.declared.limits.TheConstants.{BLOCK_SIZE}
use Rattle.zn_truth.specs.Orders.{replaced}
use Rattle.zn_pool.specs.Chains.{block_bytes, padded}

pub length-padded : (count : ℕ) (region : List ℕ) → length region ≤ BLOCK_SIZE * count → length (padded count region) ≡ BLOCK_SIZE * count
length-padded count region short =
    omega (arith, length-append region (replicate (BLOCK_SIZE * count - length region) 0), length-replicate {A = ℕ} (BLOCK_SIZE * count - length region) 0)

-- zeros up to a block, and then those from it on
padded-split : (count b : ℕ) (region : List ℕ) → b < count → length region ≤ BLOCK_SIZE * b → padded count region ≡ padded b region ++ replicate (BLOCK_SIZE * count - BLOCK_SIZE * b) 0
padded-split count b region within past =
    let gap = BLOCK_SIZE * b - length region in
    let left = BLOCK_SIZE * count - BLOCK_SIZE * b in
    let split : BLOCK_SIZE * count - length region ≡ gap + left = omega arith in
    ap (λ n. region ++ replicate n 0) split
    ∙ ap (λ xs. region ++ xs) (sym (replicate-append-replicate gap left 0))
    ∙ sym (append_assoc region (replicate gap 0) (replicate left 0))

-- what stands at a block behind the end, and from there on
drop-padded : (count b : ℕ) (region : List ℕ) → b < count → length region ≤ BLOCK_SIZE * b → drop (BLOCK_SIZE * b) (padded count region) ≡ replicate (BLOCK_SIZE * count - BLOCK_SIZE * b) 0
drop-padded count b region within past =
    ap (drop (BLOCK_SIZE * b)) (padded-split count b region within past)
    ∙ drop_at (padded b region) (replicate (BLOCK_SIZE * count - BLOCK_SIZE * b) 0) (BLOCK_SIZE * b) (length-padded b region past)

module _ (count b : ℕ) (region new : List ℕ) (within : b < count) (block : length new ≡ BLOCK_SIZE) where
  -- a block before the end
  pub padded-put : BLOCK_SIZE * b + BLOCK_SIZE ≤ length region → padded count (replaced region (BLOCK_SIZE * b) new) ≡ replaced (padded count region) (BLOCK_SIZE * b) new
  padded-put inside =
      let at = BLOCK_SIZE * b in
      let zeros : List ℕ = replicate (BLOCK_SIZE * count - length region) 0 in
      let front = take at region ++ new in
      let back = drop (at + length new) region in
      let long : length (front ++ back) ≡ length region = omega (arith, length-append front back, length-append (take at region) new, length-take-le at region (omega arith), length-drop (at + length new) region) in
      ap (λ n. front ++ back ++ replicate (BLOCK_SIZE * count - n) 0) long
      ∙ append_assoc front back zeros
      ∙ ap (λ xs. front ++ xs) (sym (drop-append-le (at + length new) region zeros (omega arith)))
      ∙ ap (λ xs. xs ++ new ++ drop (at + length new) (region ++ zeros)) (sym (take-append-le at region zeros (omega arith)))

  -- a block behind the end
  pub padded-append : length region ≤ BLOCK_SIZE * b → padded count (padded b region ++ new) ≡ replaced (padded count region) (BLOCK_SIZE * b) new
  padded-append past =
      let at = BLOCK_SIZE * b in
      let left = BLOCK_SIZE * count - at in
      let front = padded b region in
      let long = length-padded b region past in
      let less : BLOCK_SIZE * count - length (front ++ new) ≡ left - length new = omega (arith, length-append front new, long) in
      let first : take at (padded count region) ≡ front = ap (take at) (padded-split count b region within past) ∙ take_at front (replicate left 0) at long in
      let rest : drop (at + length new) (padded count region) ≡ replicate (left - length new) 0 =
      sym (drop-drop (length new) at (padded count region)) ∙ ap (drop (length new)) (drop-padded count b region within past) ∙ drop-replicate (length new) left 0 in
      ap (λ n. front ++ new ++ replicate n 0) less
      ∙ ap (λ xs. front ++ new ++ xs) (sym rest)
      ∙ ap (λ xs. xs ++ new ++ drop (at + length new) (padded count region)) (sym first)

module _ (count b : ℕ) (region : List ℕ) (within : b < count) where
  pub block-before : BLOCK_SIZE * b + BLOCK_SIZE ≤ length region → block_bytes (padded count region) b ≡ block_bytes region b
  block-before inside =
      let zeros : List ℕ = replicate (BLOCK_SIZE * count - length region) 0 in
      ap (take BLOCK_SIZE) (drop-append-le (BLOCK_SIZE * b) region zeros (omega arith))
      ∙ take-append-le BLOCK_SIZE (drop (BLOCK_SIZE * b) region) zeros (omega (arith, length-drop (BLOCK_SIZE * b) region))

  pub block-behind : length region ≤ BLOCK_SIZE * b → block_bytes (padded count region) b ≡ replicate BLOCK_SIZE 0
  block-behind past =
      ap (take BLOCK_SIZE) (drop-padded count b region within past)
      ∙ take-replicate BLOCK_SIZE (BLOCK_SIZE * count - BLOCK_SIZE * b) 0 (omega arith)
