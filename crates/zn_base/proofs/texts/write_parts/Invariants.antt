use Rattle.std.proofs.Common.{◌≡◌, take}
use Rattle.zn_base.specs.Told.{Grew}
use Rattle.zn_base.specs.Parts.{text_of}
use Rattle.zn_base.proofs.texts.write_parts.Given as goal

-- the parts so far are written, and no write failed
abbrev pub invariant-loop-part : goal.invariant-loop-part
invariant-loop-part g l = record {
  grew : Grew (g.K.Sink.state l.fn.sink).written (g.K.Sink.state l.sink).written (text_of (take l.part-index l.parts));
  kept : (g.K.Sink.state l.sink).faults ≡ (g.K.Sink.state l.fn.sink).faults;
}
