use Rattle.std.proofs.Common.{ℕ, arith, length-drop}
use Rattle.std.proofs.lemmas.List.{length-take}
use Rattle.zn_io.proofs.Readings.{part_read}
use Rattle.zn_io.proofs.reading.read_piece.Goals as goal

pub returns-clause-bytes : goal.returns-clause-bytes
returns-clause-bytes g c = λ ok told.
    part_read (g.D.Zoned.state c.args.dev.now).world.truth c.args.a.now c.args.i c.piece-p.result _ c.args.out.now c.read.new.out c.piece-p.ensures.piece c.requires.bytes c.piece-p.ensures.inside
    (c.read.ensures.bytes ok told)
    (omega (arith, length-take {A = ℕ}, length-drop {A = ℕ}, c.requires.bytes, c.piece-p.ensures.inside))
    (omega (arith, c.read.auto.out, length-take {A = ℕ}, length-drop {A = ℕ}, c.requires.bytes, c.piece-p.ensures.inside))
