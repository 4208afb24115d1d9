-- Bytes in place of some.
use Rattle.std.proofs.Common.{◌≡◌, ℕ, ◌+◌, ◌-◌, ◌*◌, ◌<◌, ◌≤◌, min, Bool, true, false, cond, List, ◌++◌, length, take, drop, replicate, get_or, arith, sym, ap, ◌∙◌, append_assoc}
use Rattle.std.proofs.Math.Seq.{take-add}
use Rattle.std.proofs.lemmas.List.{length-append, length-take-le, length-drop, length-replicate, take_at, drop_at, drop_all, drop_more, drop-drop, take-append-drop}
use Rattle.zn_truth.specs.Power.{with_filled_blocks}

-- ---- a byte in place of each of some blocks

-- a block, or what there is of it
abbrev block : ℕ → Bool → List ℕ → List ℕ
block byte flag bytes = cond flag (replicate (min 4096 (length bytes)) byte) (take 4096 bytes)

-- ---- the blocks one after another

filled_at : (byte : ℕ) (flags : List Bool) (bytes : List ℕ) (i : ℕ) (flag : Bool) → i < length flags → flag ≡ get_or flags i false
    → with_filled_blocks byte (drop i flags) (drop (4096 * i) bytes) ≡ block byte flag (drop (4096 * i) bytes) ++ with_filled_blocks byte (drop (i + 1) flags) (drop (4096 * (i + 1)) bytes)
filled_at byte flags bytes i flag below is =
    ap (λ fs. with_filled_blocks byte fs (drop (4096 * i) bytes)) (drop_more flags i false below)
    ∙ ap (λ f. block byte f (drop (4096 * i) bytes) ++ with_filled_blocks byte (drop (i + 1) flags) (drop 4096 (drop (4096 * i) bytes))) (sym is)
    ∙ ap (λ rest. block byte flag (drop (4096 * i) bytes) ++ with_filled_blocks byte (drop (i + 1) flags) rest)
    (drop-drop 4096 (4096 * i) bytes ∙ ap (λ k. drop k bytes) (omega arith))

-- a block without a flag stays
pub block_stays : (byte : ℕ) (flags : List Bool) (bytes : List ℕ) (i : ℕ) → i < length flags → get_or flags i false ≡ false
    → take (4096 * (i + 1)) bytes ++ with_filled_blocks byte (drop (i + 1) flags) (drop (4096 * (i + 1)) bytes)
    ≡ take (4096 * i) bytes ++ with_filled_blocks byte (drop i flags) (drop (4096 * i) bytes)
block_stays byte flags bytes i below is =
    ap (λ first. first ++ with_filled_blocks byte (drop (i + 1) flags) (drop (4096 * (i + 1)) bytes)) (ap (λ k. take k bytes) (omega arith) ∙ take-add (4096 * i) 4096 bytes)
    ∙ append_assoc (take (4096 * i) bytes) (take 4096 (drop (4096 * i) bytes)) (with_filled_blocks byte (drop (i + 1) flags) (drop (4096 * (i + 1)) bytes))
    ∙ ap (λ rest. take (4096 * i) bytes ++ rest) (sym (filled_at byte flags bytes i false below (sym is)))

-- a block with a flag is filled
pub block_fills : (byte : ℕ) (flags : List Bool) (bytes new : List ℕ) (i : ℕ) → i < length flags → 4096 * (i + 1) ≤ length bytes → get_or flags i false ≡ true
    → new ≡ take (4096 * i) bytes ++ replicate (4096 * i + 4096 - 4096 * i) byte ++ drop (4096 * i + 4096) bytes
    → take (4096 * (i + 1)) new ++ with_filled_blocks byte (drop (i + 1) flags) (drop (4096 * (i + 1)) new)
    ≡ take (4096 * i) bytes ++ with_filled_blocks byte (drop i flags) (drop (4096 * i) bytes)
block_fills byte flags bytes new i below within is new_is =
    let filled = replicate (4096 * i + 4096 - 4096 * i) byte in
    let front = take (4096 * i) bytes ++ filled in
    let tail = drop (4096 * (i + 1)) bytes in
    let long : length front ≡ 4096 * (i + 1) = omega (arith, length-append (take (4096 * i) bytes) filled, length-take-le (4096 * i) bytes (omega arith), length-replicate (4096 * i + 4096 - 4096 * i) byte) in
    let whole : 4096 * i + 4096 - 4096 * i ≡ min 4096 (length (drop (4096 * i) bytes)) = omega (arith, length-drop (4096 * i) bytes) in
    let parts : new ≡ front ++ tail = new_is ∙ ap (λ k. front ++ drop k bytes) (omega arith) in
    ap (λ bs. take (4096 * (i + 1)) bs ++ with_filled_blocks byte (drop (i + 1) flags) (drop (4096 * (i + 1)) bs)) parts
    ∙ ap (λ first. first ++ with_filled_blocks byte (drop (i + 1) flags) (drop (4096 * (i + 1)) (front ++ tail))) (take_at front tail (4096 * (i + 1)) long)
    ∙ ap (λ rest. front ++ with_filled_blocks byte (drop (i + 1) flags) rest) (drop_at front tail (4096 * (i + 1)) long)
    ∙ append_assoc (take (4096 * i) bytes) filled (with_filled_blocks byte (drop (i + 1) flags) tail)
    ∙ ap (λ k. take (4096 * i) bytes ++ (replicate k byte ++ with_filled_blocks byte (drop (i + 1) flags) tail)) whole
    ∙ ap (λ rest. take (4096 * i) bytes ++ rest) (sym (filled_at byte flags bytes i true below (sym is)))

-- and no byte is lost
pub length-filled_part : (bytes new : List ℕ) (from to byte : ℕ) → from ≤ to → to ≤ length bytes → new ≡ take from bytes ++ replicate (to - from) byte ++ drop to bytes → length new ≡ length bytes
length-filled_part bytes new from to byte order within is =
    ap length is
    ∙ omega (arith, length-append (take from bytes ++ replicate (to - from) byte) (drop to bytes), length-append (take from bytes) (replicate (to - from) byte), length-take-le from bytes (omega arith), length-replicate (to - from) byte, length-drop to bytes)

-- where all blocks are done, what is left is as it was
pub blocks_done : (byte : ℕ) (flags : List Bool) (bytes : List ℕ) (i : ℕ) → length flags ≤ i → take (4096 * i) bytes ++ with_filled_blocks byte (drop i flags) (drop (4096 * i) bytes) ≡ bytes
blocks_done byte flags bytes i past =
    ap (λ fs. take (4096 * i) bytes ++ with_filled_blocks byte fs (drop (4096 * i) bytes)) (drop_all i flags past) ∙ take-append-drop (4096 * i) bytes
