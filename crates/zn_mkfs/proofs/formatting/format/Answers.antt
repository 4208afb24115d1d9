use Rattle.std.proofs.Common.{ℕ, List, length, inr, sym, ap, ◌∙◌, subst}
use Rattle.zn_model.specs.SuperBlock.{encoded}
use Rattle.zn_model.specs.Formatting.{super_block_by}
use Rattle.zn_mkfs.specs.Commands.{format_commands}
use Rattle.zn_mkfs.specs.Formats.{Answers}
use Rattle.zn_mkfs.proofs.FormatLaws.{is_format, causes, formatted, within_truth}
use Rattle.zn_mkfs.proofs.formatting.format.Goals as goal

pub returns-clause-done : goal.returns-clause-done
returns-clause-done g c =
    let state = g.D.Zoned.state in
    let given = c.format_with-answer.new.copies in
    let t = (state c.args.dev.now).world.truth in
    let block = c.encode.ensures.block ∙ ap encoded c.super_block.ensures in
    inr (is_format given (super_block_by c.args.label.now c.args.uuid c.args.opts.now) c.args.force c.format_with-answer.result (state c.args.dev.now) (state c.format_with-answer.new.dev) c.are_bytes.ensures
    (subst (λ (l : List ℕ). Answers (format_commands given t l c.args.force) given t c.args.force c.format_with-answer.result (state c.args.dev.now) (state c.format_with-answer.new.dev)) block c.format_with-answer.ensures.done))

pub returns-clause-formatted : goal.returns-clause-formatted
returns-clause-formatted g c =
    let state = g.D.Zoned.state in
    let given = c.format_with-answer.new.copies in
    let t = (state c.args.dev.now).world.truth in
    let block = c.encode.ensures.block ∙ ap encoded c.super_block.ensures in
    formatted given (super_block_by c.args.label.now c.args.uuid c.args.opts.now) c.args.force c.format_with-answer.result (state c.args.dev.now) (state c.format_with-answer.new.dev)
    (g.met.D.Zoned.is_sound c.args.dev.now) (within_truth (state c.args.dev.now).world (g.met.D.Zoned.is_within c.args.dev.now))
    (sym (ap (λ (l : List ℕ). length l) block) ∙ c.encode.array_long)
    (subst (λ (l : List ℕ). Answers (format_commands given t l c.args.force) given t c.args.force c.format_with-answer.result (state c.args.dev.now) (state c.format_with-answer.new.dev)) block c.format_with-answer.ensures.done)

pub returns-clause-cause : goal.returns-clause-cause
returns-clause-cause g c =
    let state = g.D.Zoned.state in
    let given = c.format_with-answer.new.copies in
    let t = (state c.args.dev.now).world.truth in
    let block = c.encode.ensures.block ∙ ap encoded c.super_block.ensures in
    causes given (super_block_by c.args.label.now c.args.uuid c.args.opts.now) c.args.force c.format_with-answer.result (state c.args.dev.now) (state c.format_with-answer.new.dev)
    (g.met.D.Zoned.is_sound c.args.dev.now) (within_truth (state c.args.dev.now).world (g.met.D.Zoned.is_within c.args.dev.now))
    (sym (ap (λ (l : List ℕ). length l) block) ∙ c.encode.array_long)
    (subst (λ (l : List ℕ). Answers (format_commands given t l c.args.force) given t c.args.force c.format_with-answer.result (state c.args.dev.now) (state c.format_with-answer.new.dev)) block c.format_with-answer.ensures.done)
