use Rattle.std.proofs.Common.{rules, ◌<◌, ◌≤◌, Err, arith}
use Rattle.std.proofs.lemmas.Grind.{common_steps}
use Rattle.zn_model.specs.Pieces.{write_in, writes, zone_from, zone_to}
use Rattle.zn_device.specs.States.{Ordered}
use Rattle.zn_device.proofs.Ordered.{ordered_stopped}
use Rattle.zn_io.proofs.writing.write_pieces.Goals as goal

pub returns-in_err-write_piece : goal.returns-in_err-write_piece
returns-in_err-write_piece g c =
    let above : zone_from c.args.a.now ≤ c.loop-i.i = omega (arith, c.loop-i.auto.i, c.zones_touched-from.ensures.from) in
    let below : c.loop-i.i < zone_to c.args.a.now = omega (arith, c.loop-i-test.true, c.zones_touched-from.ensures.to) in
    let h : Ordered (writes c.args.a.now c.args.bytes.now) (Err c.in_err-write_piece.field-0.0) (g.D.Zoned.state c.args.dev.now) (g.D.Zoned.state c.write_piece.new.dev) =
    ordered_stopped (write_in c.args.a.now c.args.bytes.now) _ c.loop-i.i _ _ _ _ _ c.loop-i.invariant.done c.in_err-write_piece.ensures.done above below in
    grind (rules, common_steps, h)
