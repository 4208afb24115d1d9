use Rattle.std.proofs.Common.{◌≡◌, ◌*◌, ◌<◌, ◌≤◌, ◌^◌, length, replicate, ap, ◌∙◌, arith, rules}
use Rattle.std.proofs.lemmas.List.FromFn.{length-range_with_len}
use Rattle.zn_truth.specs.declared.limits.TheConstants.{BLOCK_SIZE}
use Rattle.zn_pool.specs.Chains.{padded}
use Rattle.zn_pool.proofs.Fresh.{pool-fresh, kept-fresh}
use Rattle.zn_pool.proofs.Padding.{length-padded}
use Rattle.zn_pool.proofs.pool.Pool.new.Goals as goal

pub invariant_of-result : goal.invariant_of-result
invariant_of-result c =
    let region = c.in_ok-with_capacity.field-0 in
    let links = c.in_ok-links_in_order.field-0.items in
    let few : c.args.blocks < 2 ^ 32 = omega (arith, c.ranges.blocks.fits) in
    let counts : c.in_ok-vec.field-0.items ≡ replicate c.args.blocks 0 = search rules in
    let count : length links ≡ c.args.blocks = ap length c.in_ok-links_in_order.ensures ∙ length-range_with_len 1 c.args.blocks in
    let none : length region.items ≡ 0 = ap length c.in_ok-with_capacity.ensures.items in
    let short : length region.items ≤ BLOCK_SIZE * length links = omega (arith, none) in
    record {
      region = record {
        whole = omega (arith, none);
        short = short;
        room = omega (arith, count, c.in_ok-with_capacity.ensures.exact);
      };
      fields = kept-fresh (padded (length links) region.items) links c.in_ok-vec.field-0.items c.args.blocks c.in_ok-links_in_order.ensures counts (length-padded (length links) region.items short ∙ ap (λ n. BLOCK_SIZE * n) count) few;
    }

pub returns : goal.returns
returns c =
    let links = c.in_ok-links_in_order.field-0.items in
    let counts : c.in_ok-vec.field-0.items ≡ replicate c.args.blocks 0 = search rules in
    pool-fresh (padded (length links) c.in_ok-with_capacity.field-0.items) links c.in_ok-vec.field-0.items c.args.blocks c.in_ok-links_in_order.ensures counts
