use Rattle.std.proofs.Common.{◌<◌, length, Ok, Err, ap, ◌∙◌, arith}
use Rattle.std.proofs.lemmas.Result.{err_from_is_err_and}
use Rattle.zn_truth.specs.Power.{with_filled_blocks}
use Rattle.zn_zloop.specs.Settled.{block_put}
use Rattle.zn_zloop.proofs.Serving.{map_still_there}
use Rattle.zn_zloop.proofs.Filling.{flags_filled, flagged_none, flagged_within, flagged_more, flagged_all, became_failed}
use Rattle.zn_zloop.proofs.fills.fill_flagged.Goals as goal

pub loop-i-init : goal.loop-i-init
loop-i-init g c = flagged_none c.args.name.now c.args.byte c.args.flags.now.items (g.F.Files.state c.args.files.now)

pub put_block-requires-clause-there : goal.put_block-requires-clause-there
put_block-requires-clause-there g c = map_still_there c.args.name.now (flags_filled c.args.byte c.args.flags.now.items c.loop-i.i) (g.F.Files.state c.args.files.now) (g.F.Files.state c.loop-i.files) c.requires.there c.loop-i.invariant

pub put_block-requires-clause-within : goal.put_block-requires-clause-within
put_block-requires-clause-within g c =
    let below : c.loop-i.i < length c.args.flags.now.items = omega (arith, c.loop-i-test.true) in
    flagged_within c.args.name.now c.args.byte c.args.flags.now.items c.loop-i.i (g.F.Files.state c.args.files.now) (g.F.Files.state c.loop-i.files) below c.requires.long c.loop-i.invariant

pub returns-in_err-put_block : goal.returns-in_err-put_block
returns-in_err-put_block g c =
    let p = err_from_is_err_and c.from_residual.result c.from_residual.ensures.1 in
    became_failed c.args.name.now (with_filled_blocks c.args.byte c.args.flags.now.items) (flags_filled c.args.byte c.args.flags.now.items c.loop-i.i) (block_put c.index.result.now c.loop-i.i c.block_of-block.result)
    c.in_err-put_block.field-0.0 c.from_residual.result (g.F.Files.state c.args.files.now) (g.F.Files.state c.loop-i.files) (g.F.Files.state c.put_block.new.files) (p.1 ∙ ap Err p.2) c.loop-i.invariant c.in_err-put_block.ensures

pub loop-i-preserved : goal.loop-i-preserved
loop-i-preserved g c =
    let below : c.loop-i.i < length c.args.flags.now.items = omega (arith, c.loop-i-test.true) in
    flagged_more c.args.name.now c.args.byte c.args.flags.now.items c.loop-i.i c.index.result.now c.block_of-block.result (Ok tt) (g.F.Files.state c.args.files.now) (g.F.Files.state c.loop-i.files) (g.F.Files.state c.put_block.new.files)
    c.block_of-block.ensures below c.index.ensures c.loop-i.invariant c.in_ok-put_block.ensures

pub returns : goal.returns
returns g c =
    flagged_all c.args.name.now c.args.byte c.args.flags.now.items c.loop-i.i (g.F.Files.state c.args.files.now) (g.F.Files.state c.loop-i.files) (omega (arith, c.loop-i-test.false, c.loop-i.auto.i-end)) c.requires.long c.loop-i.invariant
