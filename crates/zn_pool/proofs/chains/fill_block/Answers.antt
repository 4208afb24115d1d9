use Rattle.std.proofs.Common.{◌*◌, ◌≤◌, length, ap, ◌∙◌, arith}
use Rattle.zn_truth.specs.declared.limits.TheConstants.{BLOCK_SIZE}
use Rattle.zn_pool.specs.Chains.{padded}
use Rattle.zn_pool.proofs.Padding.{padded-append}
use Rattle.zn_pool.proofs.chains.fill_block.Goals as goal

pub returns-else-b-len-clause-bytes : goal.returns-else-b-len-clause-bytes
returns-else-b-len-clause-bytes c count within =
    let region = c.args.region.now.items in
    let past : length region ≤ BLOCK_SIZE * c.args.b = omega (arith, c.if-b-len.false, c.len.ensures, c.args.region.now.ok.0) in
    ap (padded count) c.append_block.ensures.bytes ∙ padded-append count c.args.b region c.args.bytes.now within c.requires.bytes past
