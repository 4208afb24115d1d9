use Rattle.std.proofs.Common.{◌<◌, length, sym, ◌∙◌, ap, arith}
use Rattle.std.proofs.lemmas.List.{get_or_read}
use Rattle.zn_handle.proofs.WriterLaws.{wro_from-room}
use Rattle.zn_handle.proofs.writers.Writers.open.Goals as goal

pub overflow_add-self : goal.overflow_add-self
overflow_add-self c =
    let w = c.self.inside in
    let within : c.args.file < length w.counts.items =
    omega (arith, ap (λ s. length s.counts) c.self.view_is, c.requires.file) in
    let read = get_or_read w.counts.items _ _ within c.index-count.ensures 0 in
    let room = wro_from-room w.cnv c.args.file w.counts.items c.if-file-self.true within (sym read ∙ c.if-count-eq0.true) in
    omega (arith, room, c.self.invariant.0, c.self.invariant.1, w.counts.ok)
