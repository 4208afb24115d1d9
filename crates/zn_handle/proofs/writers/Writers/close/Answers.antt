use Rattle.std.proofs.Common.{◌<◌, length, ap, arith}
use Rattle.std.proofs.lemmas.List.{get_or_read}
use Rattle.zn_handle.proofs.WriterLaws.{wro_from-some}
use Rattle.zn_handle.proofs.writers.Writers.close.Goals as goal

pub overflow_sub-self : goal.overflow_sub-self
overflow_sub-self c =
    let w = c.self.inside in
    let within : c.args.file < length w.counts.items =
    omega (arith, ap (λ s. length s.counts) c.self.view_is, c.requires.file) in
    let read = get_or_read w.counts.items _ _ within c.index-count.ensures 0 in
    let some = wro_from-some w.cnv c.args.file w.counts.items c.if-file-self.true within (omega (arith, read, c.if-count-eq1.true)) in
    omega (arith, some, c.self.invariant.0)
