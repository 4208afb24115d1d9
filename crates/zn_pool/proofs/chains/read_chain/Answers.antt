use Rattle.std.proofs.Common.{◌≡◌, ◌+◌, ◌-◌, ◌*◌, ◌≤◌, ◌++◌, length, get_or, take, drop, sym, ap, ◌∙◌, subst, arith, append_assoc}
use Rattle.std.proofs.lemmas.List.{length-take-le, length-drop}
use Rattle.std.proofs.lemmas.Slice.{take-put_mid}
use Rattle.zn_truth.specs.declared.limits.TheConstants.{BLOCK_SIZE}
use Rattle.zn_pool.specs.Chains.{chain, AreBelow, chain_bytes, block_bytes, padded}
use Rattle.zn_pool.proofs.ChainLaws.{chain-left}
use Rattle.zn_pool.proofs.BlockBytes.{chain_bytes-left}
use Rattle.zn_pool.proofs.chains.read_chain.Goals as goal

pub bounds-links-at : goal.bounds-links-at
bounds-links-at c =
    let links = c.args.links.now in
    (subst (AreBelow (length links)) (chain-left links c.loop-i.at c.args.blocks c.loop-i.i c.loop-i-test.true) c.loop-i.invariant.0).0

pub loop-i-preserved : goal.loop-i-preserved
loop-i-preserved c =
    let links = c.args.links.now in
    let region = padded (length links) c.args.region.now in
    let out = c.loop-i.out in
    let at = c.loop-i.at in
    let i = c.loop-i.i in
    let piece = c.read_block.new.out in
    let rest = chain_bytes region (chain links (get_or links at 0) (c.args.blocks - (i + 1))) in
    let below = subst (AreBelow (length links)) (chain-left links at c.args.blocks i c.loop-i-test.true) c.loop-i.invariant.0 in
    let here : piece ≡ block_bytes region at = c.read_block.ensures (length links) below.0 in
    let room : BLOCK_SIZE * i + BLOCK_SIZE - BLOCK_SIZE * i ≤ length (drop (BLOCK_SIZE * i) out) = omega (arith, c.requires.out, c.loop-i.auto.out, length-drop (BLOCK_SIZE * i) out) in
    let long : length piece ≡ BLOCK_SIZE * i + BLOCK_SIZE - BLOCK_SIZE * i = c.read_block.auto.out ∙ length-take-le _ _ room in
    let whole = take-put_mid (BLOCK_SIZE * i) (BLOCK_SIZE * i + BLOCK_SIZE - BLOCK_SIZE * i) out piece (BLOCK_SIZE * (i + 1)) (omega arith) (omega (arith, c.requires.out, c.loop-i.auto.out)) in (
      below.1,
      ap (λ xs. xs ++ rest) whole
          ∙ append_assoc (take (BLOCK_SIZE * i) out) piece rest
          ∙ ap (λ xs. take (BLOCK_SIZE * i) out ++ (xs ++ rest)) here
          ∙ ap (λ xs. take (BLOCK_SIZE * i) out ++ xs) (sym (chain_bytes-left region links at c.args.blocks i c.loop-i-test.true))
          ∙ c.loop-i.invariant.1,
    )
