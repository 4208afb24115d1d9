use Rattle.std.proofs.Common.{◌∙◌, ap}
use Rattle.zn_model.specs.Volume.{writers_of}
use Rattle.zn_handle.specs.HandleState.{wro_of}
use Rattle.zn_handle.specs.Kept.{handles_of}
use Rattle.zn_handle.proofs.WriterLaws.{wro_from-told}
use Rattle.zn_handle.proofs.handles.Handles.wro.Goals as goal

pub returns-clause-count : goal.returns-clause-count
returns-clause-count c =
    let a = c.self.inside in
    c.wro.ensures ∙ wro_from-told (writers_of (handles_of a)) a.writers.cnv a.writers.counts c.self.invariant.counted ∙ ap wro_of c.self.view_is
