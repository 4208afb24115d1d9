use Rattle.std.proofs.Common.{Ok, Err, ◌+◌, subst, List, ℕ}
use Rattle.std.proofs.lemmas.Result.{err_from_is_err_and}
use Rattle.zn_truth.specs.Orders.{WriteAt}
use Rattle.zn_device.specs.States.{Commanded}
use Rattle.zn_fault.specs.Losses.{filled_with}
use Rattle.zn_fault.proofs.Shortened.{failed_write, filled_next}
use Rattle.zn_fault.proofs.inside.write_filled.Goals as goal

pub returns-in_err-write : goal.returns-in_err-write
returns-in_err-write g c =
    let p = err_from_is_err_and c.from_residual.result c.from_residual.ensures.1 in
    rw (p.1, p.2)
    (failed_write c.args.z.0 c.args.at c.block_of-block.result (filled_with c.args.blocks c.args.byte) c.in_err-write.field-0.0 (g.D.Zoned.state c.args.dev.now) (g.D.Zoned.state c.write.new.self)
    c.in_err-write.ensures.done (g.met.D.Harm.is_calm c.args.dev.now))

pub loop-i-init : goal.loop-i-init
loop-i-init g c =
    subst (λ (bs : List ℕ). Commanded (WriteAt c.args.z.0 c.args.at bs) (Ok tt) (g.D.Zoned.state c.args.dev.now) (g.D.Zoned.state c.write.new.self)) c.block_of-block.ensures c.in_ok-write.ensures.done

pub returns-in_err-write-2 : goal.returns-in_err-write-2
returns-in_err-write-2 g c =
    let p = err_from_is_err_and c.from_residual-in_err-write-2.result c.from_residual-in_err-write-2.ensures.1 in
    rw (p.1, p.2)
    (failed_write c.args.z.0 c.args.at (filled_with (c.loop-i.i + 1) c.args.byte) (filled_with c.args.blocks c.args.byte) c.in_err-write-2.field-0.0 (g.D.Zoned.state c.args.dev.now) (g.D.Zoned.state c.write-in-loop-i.new.self)
    (filled_next c.args.z.0 c.args.at c.loop-i.i c.args.blocks c.args.byte c.block_of-block.result (Err c.in_err-write-2.field-0.0) (g.D.Zoned.state c.args.dev.now) (g.D.Zoned.state c.loop-i.dev) (g.D.Zoned.state c.write-in-loop-i.new.self)
    c.block_of-block.ensures c.loop-i.auto.i c.loop-i-test.true c.loop-i.invariant c.in_err-write-2.ensures.done (g.met.D.Harm.is_calm c.args.dev.now) c.requires.zone c.requires.fits)
    (g.met.D.Harm.is_calm c.args.dev.now))

pub loop-i-preserved : goal.loop-i-preserved
loop-i-preserved g c =
    filled_next c.args.z.0 c.args.at c.loop-i.i c.args.blocks c.args.byte c.block_of-block.result (Ok tt) (g.D.Zoned.state c.args.dev.now) (g.D.Zoned.state c.loop-i.dev) (g.D.Zoned.state c.write-in-loop-i.new.self)
    c.block_of-block.ensures c.loop-i.auto.i c.loop-i-test.true c.loop-i.invariant c.in_ok-write-2.ensures.done (g.met.D.Harm.is_calm c.args.dev.now) c.requires.zone c.requires.fits
