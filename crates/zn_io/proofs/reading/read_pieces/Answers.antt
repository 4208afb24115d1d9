use Rattle.std.proofs.Common.{rules, ◌<◌, ◌≤◌, ◌∙◌, Err, refl, arith}
use Rattle.std.proofs.lemmas.Grind.{common_steps}
use Rattle.zn_device.specs.States.{Ordered}
use Rattle.zn_device.proofs.Ordered.{ordered_more, ordered_stopped}
use Rattle.zn_model.specs.Pieces.{read_in, reads, zone_from, zone_to, Touched}
use Rattle.zn_io.proofs.Places.{touched}
use Rattle.zn_io.proofs.Readings.{read_keeps, read_more_same}
use Rattle.zn_io.proofs.reading.read_pieces.Goals as goal

pub loop-i-preserved : goal.loop-i-preserved
loop-i-preserved g c =
    let D = g.D.Zoned in
    let a = c.args.a.now in
    let i = c.loop-i.i in
    let step = c.in_ok-read_piece.ensures.done in
    let above : zone_from c.args.a.now ≤ c.loop-i.i = omega (arith, c.loop-i.auto.i, c.zones_touched-from.ensures.from) in
    let below : c.loop-i.i < zone_to c.args.a.now = omega (arith, c.loop-i-test.true, c.zones_touched-from.ensures.to) in
    let here : Touched c.args.a.now c.loop-i.i = touched a i c.requires.lies.room c.requires.lies.some above below in
    record {
      done = ordered_more (read_in c.args.a.now) (zone_from c.args.a.now) i (D.state c.args.dev.now) (D.state c.loop-i.dev) (D.state c.read_piece.new.dev) c.loop-i.invariant.done step above;
      truth = read_keeps (D.state c.loop-i.dev).world (D.state c.read_piece.new.dev).world a i (step.obeys.reply refl) (step.obeys.world refl) ∙ c.loop-i.invariant.truth;
      read = read_more_same (D.state c.args.dev.now).world.truth (D.state c.loop-i.dev).world.truth a i c.loop-i.out c.read_piece.new.out c.loop-i.invariant.truth here above c.loop-i.invariant.read (c.in_ok-read_piece.ensures.bytes refl);
    }

pub returns-in_err-read_piece-clause-done : goal.returns-in_err-read_piece-clause-done
returns-in_err-read_piece-clause-done g c =
    let above : zone_from c.args.a.now ≤ c.loop-i.i = omega (arith, c.loop-i.auto.i, c.zones_touched-from.ensures.from) in
    let below : c.loop-i.i < zone_to c.args.a.now = omega (arith, c.loop-i-test.true, c.zones_touched-from.ensures.to) in
    let h : Ordered (reads c.args.a.now) (Err c.in_err-read_piece.field-0.0) (g.D.Zoned.state c.args.dev.now) (g.D.Zoned.state c.read_piece.new.dev) =
    ordered_stopped (read_in c.args.a.now) _ c.loop-i.i _ _ _ _ _ c.loop-i.invariant.done c.in_err-read_piece.ensures.done above below in
    grind (rules, common_steps, h)
