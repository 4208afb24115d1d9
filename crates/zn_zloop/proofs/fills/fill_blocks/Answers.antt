use Rattle.std.proofs.Common.{◌-◌, ◌*◌, ◌≤◌, Some, Ok, Err, ap, ◌∙◌, arith}
use Rattle.std.proofs.lemmas.Result.{err_from_is_err_and}
use Rattle.zn_truth.specs.Power.{with_fill}
use Rattle.zn_stand.specs.File.{written}
use Rattle.zn_zloop.proofs.Serving.{map_still_there}
use Rattle.zn_zloop.proofs.Filling.{blocks_filled, filled_none, filled_within, filled_more, filled_all, became_failed}
use Rattle.zn_zloop.proofs.fills.fill_blocks.Goals as goal

pub loop-i-init : goal.loop-i-init
loop-i-init g c = filled_none c.args.name.now c.args.byte c.args.from (g.F.Files.state c.args.files.now)

pub write-requires-clause-there : goal.write-requires-clause-there
write-requires-clause-there g c = map_still_there c.args.name.now (blocks_filled c.args.byte c.args.from (c.loop-i.i - c.args.from)) (g.F.Files.state c.args.files.now) (g.F.Files.state c.loop-i.files) c.requires.there c.loop-i.invariant

pub write-requires-clause-within : goal.write-requires-clause-within
write-requires-clause-within g c =
    filled_within c.args.name.now c.args.byte c.args.from c.args.len c.loop-i.i (g.F.Files.state c.args.files.now) (g.F.Files.state c.loop-i.files) c.loop-i.auto.i c.loop-i-test.true c.requires.long c.loop-i.invariant

pub returns-in_err-write : goal.returns-in_err-write
returns-in_err-write g c =
    let p = err_from_is_err_and c.from_residual.result c.from_residual.ensures.1 in
    became_failed c.args.name.now (with_fill (Some c.args.byte) c.args.from) (blocks_filled c.args.byte c.args.from (c.loop-i.i - c.args.from)) (λ f. written f (4096 * c.loop-i.i) c.block_of-block.result) c.in_err-write.field-0.0 c.from_residual.result
    (g.F.Files.state c.args.files.now) (g.F.Files.state c.loop-i.files) (g.F.Files.state c.write.new.files) (p.1 ∙ ap Err p.2) c.loop-i.invariant c.in_err-write.ensures

pub loop-i-preserved : goal.loop-i-preserved
loop-i-preserved g c =
    filled_more c.args.name.now c.args.byte c.args.from c.loop-i.i c.block_of-block.result (Ok tt) (g.F.Files.state c.args.files.now) (g.F.Files.state c.loop-i.files) (g.F.Files.state c.write.new.files) c.block_of-block.ensures c.loop-i.auto.i c.loop-i.invariant c.in_ok-write.ensures

pub returns : goal.returns
returns g c =
    let most : c.loop-i.i ≤ c.args.len = c.loop-i.auto.i-end c.requires.order in
    filled_all c.args.name.now c.args.byte c.args.from c.args.len c.loop-i.i (g.F.Files.state c.args.files.now) (g.F.Files.state c.loop-i.files) c.requires.order (omega (arith, c.loop-i-test.false)) c.requires.long c.loop-i.invariant
